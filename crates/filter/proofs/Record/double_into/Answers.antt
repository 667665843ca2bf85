-- A refusal before the annex is asked, 10, or the new words and the record with the new table.
use mathlib.Core.Path.{refl, sym, ap, ◌∙◌}
use mathlib.Core.Bool.{Bool, cond}
use Rattle.std.proofs.lemmas.Result.{err_from_is_err_and}
use Rattle.rules.specs.Record.{change}
use Rattle.keeps.proofs.Audits.{audit-good}
use Rattle.doubling.proofs.Given.{count-asks}
use Rattle.doubling.proofs.Ruled.{count-is, room-is}
use Rattle.filter.specs.Plain.{plain}
use Rattle.filter.proofs.Refused.{not-0}
use Rattle.filter.proofs.Doubles.{double-refused, accepted, numbers, double-done, number-room, not-zero, annex_long}
use Rattle.filter.proofs.Record.double_into.Goals as goal

pub returns-in_err-double_refusal : goal.returns-in_err-double_refusal
returns-in_err-double_refusal c =
    let a = c.args in
    let p = err_from_is_err_and c.from_residual.result c.from_residual.ensures.1 in
    rw (p.1, p.2)
    (double-refused (plain a.self.now) a.main.now a.queue.now a.annex.now a.second.now _ (c.in_err-double_refusal.ensures.refused (not-0 _)) (not-0 _))

pub count_new-new-requires : goal.count_new-new-requires
count_new-new-requires c =
    let a = c.args in
    let r = plain a.self.now in
    let before = c.in_ok-double_refusal.ensures in
    count-asks r a.main.now a.queue.now a.annex.now (audit-good r a.main.now a.queue.now a.annex.now (before.accepted refl)) _ c.width-width.ensures.0

pub room_for-requires : goal.room_for-requires
room_for-requires c =
    let a = c.args in
    let r = plain a.self.now in
    let before = c.in_ok-double_refusal.ensures in
    annex_long r a.main.now a.queue.now a.annex.now _ c.annex_used-taken.ensures.0 (audit-good r a.main.now a.queue.now a.annex.now (before.accepted refl))

pub returns-then-not-room_for : goal.returns-then-not-room_for
returns-then-not-room_for c =
    let a = c.args in
    let r = plain a.self.now in
    let before = c.in_ok-double_refusal.ensures in
    let counted = count-is r a.main.now a.queue.now a.annex.now _ _ c.width-width.ensures.0 c.count_new-new.ensures in
    let room = c.room_for.ensures ∙ room-is r a.main.now a.queue.now a.annex.now _ _ c.annex_used-taken.ensures.0 counted in
    let number = sym (ap (λ (b : Bool). cond b 0 10) c.if-not-room_for.true)
    ∙ number-room r a.main.now a.queue.now a.annex.now a.second.now 0 refl before _ room in
    double-refused r a.main.now a.queue.now a.annex.now a.second.now 10 number (not-zero 9)

pub double-made-requires : goal.double-made-requires
double-made-requires c =
    let a = c.args in
    let r = plain a.self.now in
    let before = c.in_ok-double_refusal.ensures in
    let counted = count-is r a.main.now a.queue.now a.annex.now _ _ c.width-width.ensures.0 c.count_new-new.ensures in
    let room = c.room_for.ensures ∙ room-is r a.main.now a.queue.now a.annex.now _ _ c.annex_used-taken.ensures.0 counted in
    let number = sym (ap (λ (b : Bool). cond b 0 10) c.if-not-room_for.false)
    ∙ number-room r a.main.now a.queue.now a.annex.now a.second.now 0 refl before _ room in
    accepted r a.main.now a.queue.now a.annex.now a.second.now number _ _ _ _ c.width-width.ensures.0 c.next_width-next.ensures
    c.annex_used-taken.ensures.0 counted

pub returns : goal.returns
unfolding change
returns c =
    let a = c.args in
    let r = plain a.self.now in
    let before = c.in_ok-double_refusal.ensures in
    let counted = count-is r a.main.now a.queue.now a.annex.now _ _ c.width-width.ensures.0 c.count_new-new.ensures in
    let room = c.room_for.ensures ∙ room-is r a.main.now a.queue.now a.annex.now _ _ c.annex_used-taken.ensures.0 counted in
    let number = sym (ap (λ (b : Bool). cond b 0 10) c.if-not-room_for.false)
    ∙ number-room r a.main.now a.queue.now a.annex.now a.second.now 0 refl before _ room in
    double-done r a.main.now a.queue.now a.annex.now a.second.now number _ _ _ _
    (c.double-made.ensures r a.queue.now
    (numbers r a.main.now a.queue.now a.annex.now a.second.now number _ _ _ _ c.width-width.ensures.0 c.next_width-next.ensures
    c.annex_used-taken.ensures.0 counted))
