-- `table::insert` makes the run of c `add x` of it: the search gives the place and the rank, and where a slot is to spare they lie inside the circle.
use mathlib.Core.Path.{refl}
use native.Mathlib.Omega.{arith}
use Rattle.layout.proofs.Puts.{inserted, insert-fits}
use Rattle.table.proofs.insert.Goals as goal

pub returns-then-k-ws : goal.returns-then-k-ws
returns-then-k-ws c =
    let a = c.args in
    λ runs el h. inserted a.ws.now a.c a.x _ _ _ c.requires.0 c.locate-run.ensures.4 c.rank-rank.ensures.0 refl runs el h _ c.put.auto.ws c.put.ensures

pub returns-else-k-ws : goal.returns-else-k-ws
returns-else-k-ws c =
    let a = c.args in
    let r = c.locate-run in
    let rank = c.rank-rank in
    λ runs el h. absurd (omega (arith, insert-fits a.ws.now a.c a.x r.result.carry rank.result _ c.requires.0 r.ensures.4 rank.ensures.0 refl runs el h))
