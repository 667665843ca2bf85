-- A record in range has k of 20 at most.
use Rattle.keeps.proofs.Bounds.{bounds}
use Rattle.filter.specs.Plain.{plain}
use Rattle.filter.proofs.Record.home.Goals as goal

pub canonical-requires : goal.canonical-requires
canonical-requires c = (bounds (plain c.args.self.now) c.requires).k_20
