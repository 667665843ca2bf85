-- Each test that fails decides, and where four hold the last does.
use native.Mathlib.Omega.{arith}
use Rattle.filter.proofs.Records.{settings-rest, settings-few, settings-many, settings-short, settings-long}
use Rattle.filter.proofs.settings_right.Goals as goal

pub returns-then-f-le15 : goal.returns-then-f-le15
returns-then-f-le15 c = grind (arith, settings-rest)

pub returns-else-f-le15 : goal.returns-else-f-le15
returns-else-f-le15 c = grind (arith, settings-few, settings-many, settings-short, settings-long)
