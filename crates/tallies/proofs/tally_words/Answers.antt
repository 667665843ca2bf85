-- After the words passed the counters have risen by what they say.
use mathlib.Core.Path.{sym, ◌∙◌}
use native.Mathlib.Omega.{arith}
use Rattle.tallies.proofs.Tallies.{named-start, named-on, named-past, named-all, words-le, evens-le}
use Rattle.tallies.proofs.tally_words.Goals as goal
use Rattle.tallies.proofs.tally_words.Goals.{then-block_of-block, else-block_of-block}

pub loop-word-init : goal.loop-word-init
loop-word-init c = named-start c.args.base c.args.words.now c.args.counters.now

pub overflow_add-counter : goal.overflow_add-counter
overflow_add-counter c =
    let l = c.loop-word in
    let p = c.requires in
    let a = c.args in
    record { fits = omega (arith, words-le a.base a.words.now l.word-index p.1 (omega arith) _ _ l.invariant _ p.2 c.place_of.ensures.1 1048576 p.3) }

pub overflow_add-counter-then-block_of-block : goal.overflow_add-counter-then-block_of-block
overflow_add-counter-then-block_of-block c =
    let l = c.loop-word in
    let p = c.requires in
    let a = c.args in
    record { fits = omega (arith, evens-le a.base a.words.now l.word-index p.1 (omega arith) _ _ l.invariant _ p.2 c.place_of.ensures.1 1048576 p.4) }

pub loop-word-preserved : goal.loop-word-preserved
loop-word-preserved c =
    let l = c.loop-word in
    let p = c.requires in
    elim c.if-block_of-block.branch [
      | then-block_of-block w ↦ rw w.counters-is
          (named-on _ _ _ p.1 c.loop-word-test.true _ _ l.invariant _ p.2 w.place_of.ensures.1 _ w.place_of.ensures.0 w.even.ensures.0
          (sym c.block_of.ensures ∙ w.if-block_of-block.true ∙ c.block_of-block.ensures))
      | else-block_of-block w ↦ rw w.counters-is
          (named-past _ _ _ p.1 c.loop-word-test.true _ _ l.invariant
          (λ e. w.if-block_of-block.false (c.block_of.ensures ∙ e ∙ sym c.block_of-block.ensures)))
    ]

pub returns : goal.returns
returns c = named-all _ _ _ _ _ c.loop-word-test.false c.loop-word.invariant
