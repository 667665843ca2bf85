-- `walks::walk_to_run` meets its contract: the walk left counts the runs, and the walk right skips as many.
use Rattle.std.proofs.Common.{ℕ, ◌∙◌, ap, arith}
use Rattle.layout.specs.Reading.{home_of}
use Rattle.layout.proofs.RunLaws.{located, carried}
use Rattle.walks.proofs.walk_to_run.Goals as goal

pub returns : goal.returns
returns g c =
    let a = c.args in
    let ws = g.W.Words.words a.table in
    let left = c.walk_home-left.ensures in
    let home = c.home_slot-home.ensures.0 ∙ ap (λ (n : ℕ). home_of n a.c c.walk_home-left.result.steps) c.size.ensures in
    let from = c.seek-from.ensures in (
      omega arith,
      omega arith,
      omega arith,
      located ws a.c _ _ _ _ (omega arith) (omega arith) left.0 left.1 home from.0,
      c.saturating_sub.ensures ∙ carried ws a.c _ _ _ _ (omega arith) (omega arith) left.0 left.1 home from.0,
    )
