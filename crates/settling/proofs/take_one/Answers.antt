-- `take_one` meets its contract: it is the removal from one run, with its answer as a number.
use Rattle.std.proofs.Common.{◌≡◌, ◌∙◌, ◌≤◌, Bool, true, false, ap, arith, rules}
use mir.Val.{bool_byte}
use Rattle.settling.proofs.Losses.{lost-one}
use Rattle.settling.proofs.take_one.Goals as goal

at-most-one : (r : Bool) → bool_byte r ≤ 1
at-most-one true = omega arith
at-most-one false = omega arith

pub returns : goal.returns
returns c =
    let r = c.remove.result in
    let n = c.from.result in
    let one : r ≡ true → n ≡ 1 = λ e. c.from.ensures ∙ ap bool_byte e in
    let none : r ≡ false → n ≡ 0 = λ e. c.from.ensures ∙ ap bool_byte e in
    (omega (arith, at-most-one r, c.from.ensures), lost-one _ _ _ _ r n (search rules) c.remove.ensures.1 one none)
