-- 2 and 3 first, then 4 exactly where the whole state is not sound.
use mathlib.Core.Path.{refl, sym, ◌∙◌}
use Rattle.std.proofs.lemmas.Result.{err_from_is_err_and}
use Rattle.filter.specs.Plain.{plain}
use Rattle.filter.proofs.Refused.{not-0}
use Rattle.filter.proofs.Quicks.{right}
use Rattle.filter.proofs.Audits.{audit-refused, asks, audit-0, audit-4}
use Rattle.filter.proofs.Record.audit.Goals as goal

pub returns-in_err-first_refusal : goal.returns-in_err-first_refusal
returns-in_err-first_refusal c =
    let a = c.args in
    let p = err_from_is_err_and c.from_residual.result c.from_residual.ensures.1 in
    rw (p.1, p.2) (audit-refused (plain a.self) a.main.now a.queue.now a.annex.now _ c.in_err-first_refusal.ensures (not-0 _))

pub width-width-requires : goal.width-width-requires
width-width-requires c = right (plain c.args.self) _ _ _ c.in_ok-first_refusal.ensures

pub state_right-requires : goal.state_right-requires
state_right-requires c =
    let a = c.args in
    let v = asks (plain a.self) a.main.now a.queue.now a.annex.now c.in_ok-first_refusal.ensures _ c.width-width.ensures.0 c.width-width.ensures.1 in
    (v.k_3, v.k_20, v.w-4, v.w_26, v.main_long, v.used_fits, v.places, v.annex_long, v.queue_long, v.queue_fits)

pub returns-then-state_right : goal.returns-then-state_right
returns-then-state_right c =
    let a = c.args in
    audit-0 (plain a.self) a.main.now a.queue.now a.annex.now c.in_ok-first_refusal.ensures
    (sym (c.state_right.ensures (plain a.self) refl (sym c.width-width.ensures.0) refl refl refl) ∙ c.if-state_right.true)

pub returns-else-state_right : goal.returns-else-state_right
returns-else-state_right c =
    let a = c.args in
    audit-4 (plain a.self) a.main.now a.queue.now a.annex.now c.in_ok-first_refusal.ensures
    (sym (c.state_right.ensures (plain a.self) refl (sym c.width-width.ensures.0) refl refl refl) ∙ c.if-state_right.false)
