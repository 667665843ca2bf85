-- The three lengths are compared with what the record uses.
use mathlib.Core.Path.{sym, ◌∙◌}
use native.Mathlib.Omega.{arith}
use borrow.Author.Tests.{ne_eqb}
use Rattle.lists.proofs.Tests.{no_true}
use Rattle.keeps.proofs.Bounds.{bounds}
use Rattle.filter.specs.Plain.{plain}
use Rattle.filter.proofs.Records.{lent-annex, lent-queue, lent-main}
use Rattle.filter.proofs.Record.lent_right.Goals as goal
use Rattle.filter.proofs.Record.lent_right.Goals.{then-main-pow2, else-main-pow2}

pub pow2-requires : goal.pow2-requires
pow2-requires c = let b = bounds (plain c.args.self) c.requires.0 in omega (arith, b.k_20)

pub returns-then-self-queue : goal.returns-then-self-queue
returns-then-self-queue c =
    elim c.if-main-pow2.branch [
      | then-main-pow2 w ↦
          lent-annex (plain c.args.self) _ _ _ _ (w.if-main-pow2.true ∙ c.pow2.ensures.0) (sym w.value-is ∙ c.if-self-queue.true) c.requires.1
      | else-main-pow2 w ↦ absurd (no_true (sym (ne_eqb _ _ w.if-main-pow2.false) ∙ sym w.value-is ∙ c.if-self-queue.true))
    ]

pub returns-else-self-queue : goal.returns-else-self-queue
returns-else-self-queue c =
    elim c.if-main-pow2.branch [
      | then-main-pow2 w ↦
          c.if-self-queue.false ∙ lent-queue (plain c.args.self) _ _ _ (w.if-main-pow2.true ∙ c.pow2.ensures.0) (sym w.value-is ∙ c.if-self-queue.false)
      | else-main-pow2 w ↦ c.if-self-queue.false ∙ lent-main (plain c.args.self) _ _ _ (λ e. w.if-main-pow2.false (e ∙ sym c.pow2.ensures.0))
    ]
