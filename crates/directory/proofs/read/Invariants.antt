-- `read` meets its contract: what is left decides whether the directory is right, and the words so far and those left are all of them.
use Rattle.directory.proofs.Loops.{Walked}
use Rattle.directory.proofs.read.Given as goal

abbrev pub invariant-loop-place : goal.invariant-loop-place
invariant-loop-place l = Walked l.k l.place-items l.last l.words l.place-index
