-- Start over an all-zero record is Start.
use mathlib.Core.Path.{ap, ◌∙◌, subst}
use Rattle.rules.specs.Record.{Filter}
use Rattle.rules.specs.Calls.{Outcome}
use Rattle.filter.specs.Restart.{restart}
use Rattle.filter.specs.Plain.{plain}
use Rattle.filter.specs.Numbers.{outcome_number}
use Rattle.filter.specs.Promises.{Leaves}
use Rattle.filter.proofs.Starts.{zeroed, restart-zero}
use Rattle.filter.proofs.Record.start.Goals as goal

pub returns : goal.returns
returns c =
    let a = c.args in
    let n = c.restart.new in
    subst (λ (o : Outcome). Leaves o (outcome_number c.restart.result.outcome) (plain c.restart.result.rec) n.main n.queue n.annex)
    (ap (λ (r : Filter). restart r a.power a.f a.regime a.main.now a.queue.now a.annex.now) (zeroed _ c.default.ensures)
    ∙ restart-zero a.power a.f a.regime a.main.now a.queue.now a.annex.now)
    c.restart.ensures
