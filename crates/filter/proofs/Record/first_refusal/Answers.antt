-- 2, then 3, then neither, as the two tests say.
use mathlib.Core.Path.{sym, ◌∙◌}
use Rattle.std.proofs.lemmas.Result.{err_from_is_err_and}
use Rattle.lists.proofs.Tests.{true-test}
use Rattle.filter.specs.Plain.{plain}
use Rattle.filter.proofs.Records.{first-0, first-2, first-3}
use Rattle.filter.proofs.Refused.{none-err, some-value, wrong}
use Rattle.filter.proofs.Record.first_refusal.Goals as goal

pub returns-in_err-taken : goal.returns-in_err-taken
returns-in_err-taken c =
    let p = err_from_is_err_and c.from_residual.result c.from_residual.ensures.1 in
    let n = none-err _ _ _ c.in_err-taken.ensures.value in
    rw (p.1, p.2, n.1) (first-2 (plain c.args.self) _ _ _ (wrong _ _ _ n.0 c.in_range.ensures))

pub lent_right-requires : goal.lent_right-requires
lent_right-requires c =
    let s = some-value _ _ _ _ c.in_ok-taken.ensures.ok_part c.in_range.ensures in (true-test _ s.0, s.1)

pub returns-then-lent_right : goal.returns-then-lent_right
returns-then-lent_right c =
    let s = some-value _ _ _ _ c.in_ok-taken.ensures.ok_part c.in_range.ensures in
    first-0 (plain c.args.self) _ _ _ s.0 (sym c.lent_right.ensures ∙ c.if-lent_right.true)

pub returns-else-lent_right : goal.returns-else-lent_right
returns-else-lent_right c =
    let s = some-value _ _ _ _ c.in_ok-taken.ensures.ok_part c.in_range.ensures in
    first-3 (plain c.args.self) _ _ _ s.0 (sym c.lent_right.ensures ∙ c.if-lent_right.false)
