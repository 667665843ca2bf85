-- At place j of the circle, what is counted and what is to come of the run make the whole of it.
use Rattle.sound.proofs.Readings.{Going}
use Rattle.sound.proofs.read_run.Given as goal

abbrev pub invariant-loop-j : goal.invariant-loop-j
invariant-loop-j l = Going l.words l.c l.k l.t l.v l.j l.tombstones l.voids
