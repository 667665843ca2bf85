-- Each arm of the match is the step's arm of the same case.
use mathlib.Core.Path.{◌≡◌, ap, ap₂, ◌∙◌}
use mathlib.Core.Bool.{Bool, ◌&&◌}
use borrow.Author.Rules.{rules}
use borrow.Author.Tests.{eq-eqb, ne_eqb, lt-ltb, le-ltb}
use lib.Dec.{eqb, ltb}
use Rattle.std.specs.Bool.{then_some}
use Rattle.sound.proofs.Steps.{step-empty, step-home, step-never, step-moved, step-next, both_tests, first-fails}
use Rattle.sound.proofs.Lap.step.Goals as goal
use Rattle.sound.proofs.Lap.step.Goals.{then-word-eq0, else-word-eq0, then-self, else-self, then-waits, else-waits, then-goes_on, else-goes_on}

pub returns-after-word-eq0 : goal.returns-after-word-eq0
returns-after-word-eq0 c =
    let b : c.if-word-eq0.then_some ≡ (eqb c.args.word 0 && eqb c.args.self.begun c.args.self.opened) =
    elim c.if-word-eq0.branch [
      | then-word-eq0 w ↦ both_tests _ _ _ (eq-eqb _ _ w.if-word-eq0.true) w.then_some-is
      | else-word-eq0 w ↦ first-fails _ _ _ (ne_eqb _ _ w.if-word-eq0.false) w.then_some-is
    ] in
    step-empty _ _ _ _ _ c.in-0.is b (c.then_some.ensures ∙ ap (then_some c.if-word-eq0.then_some) c.no_entry.ensures)

pub returns-after-self : goal.returns-after-self
returns-after-self c =
    let b : c.if-self.then_some ≡ (eqb c.args.self.begun c.args.self.opened && c.allow-allowed.result) =
    elim c.if-self.branch [
      | then-self w ↦ both_tests _ _ _ (eq-eqb _ _ w.if-self.true) w.then_some-is
      | else-self w ↦ first-fails _ _ _ (ne_eqb _ _ w.if-self.false) w.then_some-is
    ] in
    step-home _ _ _ _ _ c.in-1.is (b ∙ ap (λ (x : Bool). eqb c.args.self.begun c.args.self.opened && x) c.allow-allowed.ensures)
    (c.then_some-in-1.ensures ∙ ap (then_some c.if-self.then_some) c.an_entry.ensures)

pub returns-in-2-to-3 : goal.returns-in-2-to-3
returns-in-2-to-3 c = search (rules, step-never)

pub returns-after-waits : goal.returns-after-waits
returns-after-waits c =
    let b : c.if-waits.then_some ≡ (ltb c.args.self.begun c.args.self.opened && c.allow-allowed.result) =
    elim c.if-waits.branch [
      | then-waits w ↦ both_tests _ _ _ (lt-ltb _ _ w.if-waits.true) w.then_some-is
      | else-waits w ↦ first-fails _ _ _ (le-ltb _ _ w.if-waits.false) w.then_some-is
    ] in
    step-moved _ _ _ _ _ (search rules) (search rules) (b ∙ ap (λ (x : Bool). ltb c.args.self.begun c.args.self.opened && x) c.allow-allowed.ensures)
    (c.then_some-in-4-to-5.ensures ∙ ap (then_some c.if-waits.then_some) c.an_entry-in-4-to-5.ensures)

pub returns-after-goes_on : goal.returns-after-goes_on
returns-after-goes_on c =
    let b : c.if-goes_on.then_some ≡ (c.goes_on.result && c.allow-allowed.result) =
    elim c.if-goes_on.branch [
      | then-goes_on w ↦ both_tests _ _ _ w.if-goes_on.true w.then_some-is
      | else-goes_on w ↦ first-fails _ _ _ w.if-goes_on.false w.then_some-is
    ] in
    step-next _ _ _ _ _ (search rules) (b ∙ ap₂ (λ (x y : Bool). x && y) c.goes_on.ensures c.allow-allowed.ensures)
    (c.then_some-in_default.ensures ∙ ap (then_some c.if-goes_on.then_some) c.an_entry-in_default.ensures)
