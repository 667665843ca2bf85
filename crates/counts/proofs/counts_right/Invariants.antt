-- Block after block: those that are left are right exactly if all are, and k entries wait on arrival at the first of them.
use Prim.Native.Nat.{◌%◌}
use mathlib.Core.Path.{◌≡◌}
use Rattle.tallies.specs.Tally.{block_size}
use Rattle.counts.specs.Blocks.{address_test}
use Rattle.counts.proofs.Blocks.{Stand}
use Rattle.counts.proofs.counts_right.Given as goal

abbrev pub invariant-loop-base : goal.invariant-loop-base
invariant-loop-base l = (l.base % block_size ≡ 0) × Stand (address_test l.w l.places l.annex l.queue) l.words 0 l.base l.k
