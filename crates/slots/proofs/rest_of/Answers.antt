-- What the payload lacks to all ones has as many bits as the payload has left: both are the m with 2 ^ w ≤ p + 2 ^ m and 2 p + 2 ^ m < 2 2 ^ w.
use mathlib.Core.Path.{◌≡◌, sym, ◌∙◌}
use Prim.Native.Nat.{ℕ, ◌-◌, ◌^◌, ◌≤◌, ◌<◌}
use native.Mathlib.Omega.{arith}
use lib.Count.{count_leading_zeros, leading_length}
use borrow.Author.Rules.{rules}
use Rattle.slots.specs.Payload.{rest_of}
use Rattle.slots.proofs.PayloadLaws.{Range, rest-of-range}
use Rattle.slots.proofs.rest_of.Goals as goal

lacking : (w p top : ℕ) → top ≡ 2 ^ w → top ≤ 67108864 → p < 2 ^ w → 32 - count_leading_zeros 32 (top - p - 1) ≡ rest_of w p
lacking w p top e le h =
    let lack : ℕ = top - p - 1 in
    let small : lack < 2 ^ 32 = omega arith in
    let s = leading_length 32 lack small in
    let m : 32 - count_leading_zeros 32 lack ≡ s.0 = omega (arith, s.1) in
    let r : Range w p s.0 = record { low = omega (arith, s.2); high = omega (arith, s.3) } in
    m ∙ sym (rest-of-range w p s.0 r)

pub returns : goal.returns
returns c =
    let a = c.args in
    let p = c.pow2.ensures in
    lacking a.w a.payload _ p.0 p.1.1 (search rules)
