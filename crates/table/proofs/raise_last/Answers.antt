-- `table::raise_last` changes the last x of the run in its place: in a rising run that is where x + 1 belongs.
use mathlib.Core.Path.{◌≡◌, refl, sym, ◌∙◌}
use Prim.Native.Nat.{suc, ◌+◌, ◌*◌, ◌%◌}
use native.Mathlib.Omega.{arith}
use lib.ListN.{get_or}
use Rattle.layout.proofs.Searches.{clash}
use Rattle.layout.proofs.Replaces.{last-missing, last-held, last_fits, replaced-last}
use Rattle.table.proofs.raise_last.Goals as goal

pub returns-in-Some : goal.returns-in-Some
returns-in-Some c =
    let a = c.args in
    let ws = a.ws.now in
    let h = c.requires.0 in
    let s = c.in-Some.ensures.some.0 in
    let slot = c.around-slot in
    let v : c.paid.result ≡ suc a.x * 8 + get_or ws slot.result 0 % 8 = c.paid.ensures ∙ (omega arith) in (
      λ e. absurd (clash e),
      λ runs el few r. (
        sym (last-held ws a.c a.x h runs el few r _ refl s.some s.same),
        λ _. replaced-last ws a.c a.x h runs el few r _ refl s.some s.same _ _ _ s.place c.if-k-ws.true slot.ensures.0 v,
      ),
    )

pub returns-in_default : goal.returns-in_default
returns-in_default c =
    let a = c.args in
    let s = c.in-Some.ensures.some.0 in
    (λ e. refl, λ runs el few r. absurd (omega (arith, s.place, last_fits a.ws.now a.c a.x c.requires.0 runs el few r _ refl s.some s.same)))

pub returns-in_default-2 : goal.returns-in_default-2
returns-in_default-2 c =
    let a = c.args in
    let m = c.in_default.ensures.none in
    (λ e. refl, λ runs el few r. (sym (last-missing a.ws.now a.c a.x c.requires.0 runs el few r _ refl m), λ e. absurd (clash (sym e))))
