-- `walks::walk_left` meets its contract: each turn takes the last word off what is still to come, by the laws of `Homing`.
use Rattle.std.proofs.Common.{◌-◌, ◌≤◌}
use Rattle.walks.specs.Stretch.{stretch}
use Rattle.walks.proofs.Parts.{Homing}
use Rattle.walks.proofs.walk_left.Given as goal

abbrev pub invariant-loop-i : goal.invariant-loop-i
invariant-loop-i g l =
    record { begun : l.from ≤ l.i; homing : Homing (stretch l.from l.end (g.W.Words.words l.table)) (l.i - l.from) l.runs }
