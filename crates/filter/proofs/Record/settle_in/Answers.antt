-- Audit refuses, or the state is sound and the loop over the queue leaves what the definition says.
use Rattle.std.proofs.lemmas.Result.{err_from_is_err_and}
use mathlib.Core.Path.{sym}
use Rattle.rules.specs.Record.{change}
use Rattle.keeps.proofs.Audits.{audit-good}
use Rattle.filter.specs.Plain.{plain}
use Rattle.filter.proofs.Refused.{not-0}
use Rattle.filter.proofs.Settles.{settle-refused, ready, numbers, settle-done}
use Rattle.filter.proofs.Record.settle_in.Goals as goal

pub returns-in_err-audit : goal.returns-in_err-audit
returns-in_err-audit c =
    let a = c.args in
    let p = err_from_is_err_and c.from_residual.result c.from_residual.ensures.1 in
    rw (p.1, p.2) (settle-refused (plain a.self.now) a.main.now a.queue.now a.annex.now _ c.in_err-audit.ensures (not-0 _))

pub width-width-requires : goal.width-width-requires
width-width-requires c =
    let a = c.args in (audit-good (plain a.self.now) a.main.now a.queue.now a.annex.now (sym c.in_ok-audit.ensures)).record-right

pub settle-left-requires : goal.settle-left-requires
settle-left-requires c =
    let a = c.args in ready (plain a.self.now) a.main.now a.queue.now a.annex.now c.in_ok-audit.ensures _ c.width-width.ensures.0

pub returns : goal.returns
unfolding change
returns c =
    let a = c.args in
    settle-done (plain a.self.now) a.main.now a.queue.now a.annex.now c.in_ok-audit.ensures _ _ _ _
    (c.settle-left.ensures (plain a.self.now) (numbers (plain a.self.now) a.main.now a.queue.now a.annex.now _ c.width-width.ensures.0))
