-- The words passed and those to come make the queue, the words passed are whole groups, and the counters are those of the words passed.
use mathlib.Core.Path.{◌≡◌}
use mathlib.Core.List.{List, ◌++◌}
use Prim.Native.Nat.{ℕ, ◌%◌}
use lib.ListN.{length}
use Rattle.std.specs.Slice.Iter.{chunks_exact_rest, chunks_exact_size}
use Rattle.tallies.specs.Tally.{Tallied}
use Rattle.tallies.specs.Namings.{words_of, evens_of}
use Rattle.tallies.proofs.tally_block.Given as goal

abbrev pub invariant-loop-words : goal.invariant-loop-words
invariant-loop-words l =
    (seen : List ℕ) × (seen ++ chunks_exact_rest l.words-iterator ≡ l.queue) × (length seen % 16 ≡ 0) × (chunks_exact_size l.words-iterator ≡ 16)
    × Tallied l.base seen (words_of l.counters) (evens_of l.counters)
