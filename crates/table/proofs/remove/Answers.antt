-- `table::remove` makes the run of c `erase x` of it: the search gives the first x, and where it finds none a rising run has none.
use mathlib.Core.Path.{refl, sym}
use native.Mathlib.Omega.{arith}
use Rattle.layout.proofs.Plucks.{spot-fits, removed, held, missing, unchanged}
use Rattle.layout.proofs.Searches.{clash}
use Rattle.table.proofs.remove.Goals as goal

pub returns-in-Some : goal.returns-in-Some
returns-in-Some c =
    let a = c.args in
    let ws = a.ws.now in
    let h = c.requires.0 in
    let s = c.in-Some.ensures.some.0 in (
      λ e. absurd (clash e),
      λ runs el few r. (
        sym (held ws a.c a.x h runs el few _ s.inside _ _ s.first s.same s.place s.behind),
        removed ws a.c a.x h runs el few _ s.inside _ _ s.first s.same s.place s.behind _ c.pluck.auto.ws c.pluck.ensures,
      ),
    )

pub returns-in_default : goal.returns-in_default
returns-in_default c =
    let a = c.args in
    let s = c.in-Some.ensures.some.0 in
    (λ e. refl, λ runs el few r. absurd (omega (arith, s.place, spot-fits a.ws.now a.c a.x c.requires.0 runs el few c.in-Some.spot.rank s.inside)))

pub returns-in_default-2 : goal.returns-in_default-2
returns-in_default-2 c =
    let a = c.args in
    let m = c.in_default.ensures.none in
    (λ e. refl, λ runs el few r. (sym (missing a.ws.now a.c a.x c.requires.0 runs el few r m), unchanged a.ws.now a.c a.x c.requires.0 runs el few r m))
