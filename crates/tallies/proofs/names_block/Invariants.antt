-- While no word was of the block, all words passed are of others.
use mathlib.Core.Path.{◌≡◌}
use mathlib.Core.Bool.{false}
use Rattle.tallies.specs.Tally.{Others}
use Rattle.tallies.proofs.names_block.Given as goal

abbrev pub invariant-loop-word : goal.invariant-loop-word
invariant-loop-word l = l.found ≡ false → Others l.base l.words 0 l.word-index
