-- One more than the fresh length.
use native.Mathlib.Omega.{arith}
use Rattle.filter.specs.Plain.{plain}
use Rattle.filter.proofs.Records.{width_is}
use Rattle.filter.proofs.Record.width.Goals as goal

pub returns : goal.returns
returns c = (width_is (plain c.args.self) _ c.fresh_length.ensures.0, omega arith)
