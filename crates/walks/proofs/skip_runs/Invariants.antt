-- `walks::skip_runs` meets its contract: each turn takes the first entry off what is still to come, by the laws of `Skipping`.
use Rattle.std.proofs.Common.{◌-◌}
use Rattle.walks.specs.Stretch.{stretch}
use Rattle.walks.proofs.Parts.{Skipping}
use Rattle.walks.proofs.skip_runs.Given as goal

abbrev pub invariant-loop-i : goal.invariant-loop-i
invariant-loop-i g l =
    Skipping (stretch l.from l.end (g.W.Words.words l.table)) l.m (l.i - l.from) l.togo
