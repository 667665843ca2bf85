-- The words passed and those to come make the queue, the words passed are whole groups, and the counters are those of the words passed.
use mathlib.Core.Path.{◌≡◌, ap, ◌∙◌}
use mathlib.Core.List.{List, [], ◌++◌}
use Prim.Native.Nat.{ℕ, ◌<◌}
use lib.ListN.{length}
use native.Mathlib.Omega.{arith}
use Rattle.std.specs.Slice.Iter.{chunks_exact_rest}
use Rattle.tallies.proofs.Tallies.{tallied-past, tallied-on, counters-size, words-few, evens-few, seen-few, seen-on, groups-on, rest-is, part_few}
use Rattle.tallies.proofs.tally_block.Goals as goal

pub tally_words-requires : goal.tally_words-requires
tally_words-requires c =
    let i = c.loop-words.invariant in
    let few = seen-few _ _ _ i.1 c.requires.0 in (
      part_few _ _ _ i.1 _ _ c.in-Some.ensures.steps.1.0 c.requires.0,
      c.requires.1,
      counters-size _ _ [] _ i.4,
      words-few _ _ [] _ i.4 few,
      evens-few _ _ [] _ i.4 few,
    )

pub loop-words-preserved-then-names_block : goal.loop-words-preserved-then-names_block
loop-words-preserved-then-names_block c =
    let i = c.loop-words.invariant in
    let n = c.in-Some.ensures.steps in (
      _,
      seen-on _ _ _ i.1 _ _ n.1.0,
      groups-on _ _ i.2 (n.1.1 ∙ i.3),
      n.0 ∙ i.3,
      tallied-on _ _ _ _ i.4 _ c.tally_words.ensures,
    )

pub loop-words-preserved : goal.loop-words-preserved
loop-words-preserved c =
    let i = c.loop-words.invariant in
    let n = c.in-Some.ensures.steps in (
      _,
      seen-on _ _ _ i.1 _ _ n.1.0,
      groups-on _ _ i.2 (n.1.1 ∙ i.3),
      n.0 ∙ i.3,
      tallied-past _ _ _ _ i.4 c.requires.1 (c.names_block.ensures c.if-names_block.false),
    )

pub tally_words-requires-2 : goal.tally_words-requires-2
tally_words-requires-2 c =
    let i = c.loop-words.invariant in
    let few = seen-few _ _ _ i.1 c.requires.0 in
    let size = ap length c.remainder-rest.ensures ∙ c.chunks_exact-groups.ensures.remainder_len in
    (omega arith, c.requires.1, counters-size _ _ [] _ i.4, words-few _ _ [] _ i.4 few, evens-few _ _ [] _ i.4 few)

pub returns : goal.returns
returns c =
    let i = c.loop-words.invariant in
    let small : length (chunks_exact_rest c.loop-words.words-iterator) < 16 = omega (arith, c.in-None.ensures.steps.1.0, i.3) in
    let last : c.remainder-rest.result.now ≡ chunks_exact_rest c.loop-words.words-iterator =
    c.remainder-rest.ensures ∙ c.chunks_exact-groups.ensures.remainder ∙ rest-is _ _ _ i.1 i.2 small in
    let all : i.0 ++ c.remainder-rest.result.now ≡ c.args.queue.now = ap (λ (l : List ℕ). i.0 ++ l) last ∙ i.1 in
    rw (← all) (tallied-on _ _ _ _ i.4 _ c.tally_words-2.ensures)
