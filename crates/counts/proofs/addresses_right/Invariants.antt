-- After i addresses of the block, those that are left are right exactly if all are, and k entries wait on arrival at the next.
use Prim.Native.Nat.{ℕ, ◌+◌}
use mathlib.Core.List.{List}
use lib.ListN.{length}
use Rattle.rules.specs.Tables.{Table}
use Rattle.rules.specs.Sound.{address_right}
use Rattle.tallies.specs.Tally.{Tallied, Stored}
use Rattle.tallies.specs.Namings.{words_of, evens_of}
use Rattle.counts.proofs.Blocks.{Waits, Stand}
use Rattle.counts.proofs.addresses_right.Given as goal

abbrev pub invariant-loop-i : goal.invariant-loop-i
invariant-loop-i l =
    Waits l.words (l.base + length l.yielded) l.k
    × ((ts : List Table) (ws : List ℕ) → Tallied l.base ws (words_of l.queued) (evens_of l.queued) → Stored l.base l.n ts l.mothers
    → Stand (address_right l.w ts ws) l.words l.base (l.base + length l.yielded) l.k)
