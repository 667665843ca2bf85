-- Nothing is changed, and the number is Audit's.
use mathlib.Core.Path.{refl}
use Rattle.rules.specs.Calls.{refused}
use Rattle.filter.proofs.Record.audited.Goals as goal

pub returns : goal.returns
unfolding refused
returns c = record { number_is = c.audit.ensures; rec_is = refl; main_is = refl; queue_is = refl; annex_is = refl }
