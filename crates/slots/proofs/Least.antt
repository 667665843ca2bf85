-- `rounded_up_log n` is the smallest e with 2 ^ e at least n: all tries before it failed, and one of n tries succeeds since n < 2 ^ n.
use mathlib.Core.Path.{◌≡◌, refl}
use mathlib.Core.Bool.{Bool, true, false}
use Prim.Native.Nat.{ℕ, zero, suc, ◌+◌, ◌≤◌, ◌<◌, ◌^◌}
use native.Mathlib.Omega.{arith}
use native.Mathlib.Nat.{add-suc, suc-add, add-zero, zero-add}
use lib.Dec.{leb}
use lib.Pow.{pow_mono, pow-add, pow_pos}
use borrow.Author.Tests.{leb-true, leb-false}
use Rattle.slots.specs.Numbers.{first_power, rounded_up_log}

-- a claim about a test, from what it says either way
on_test : (P : Bool → Type 0) (t : Bool) → (t ≡ true → P true) → (t ≡ false → P false) → P t
on_test P true f g = f refl
on_test P false f g = g refl

smaller : (tries e n : ℕ) → ((d : ℕ) → d < e → 2 ^ d < n) → (d : ℕ) → d < first_power tries e n → 2 ^ d < n
unfolding first_power
smaller zero e n below d h = below d h
smaller (suc tries) e n below d h =
    on_test (λ t. d < elim t [ true ↦ e | false ↦ first_power tries (suc e) n ] → 2 ^ d < n) (leb n (2 ^ e))
    (λ q k. below d k)
    (λ q k. smaller tries (suc e) n
    (λ d' k'. let l : d' ≤ e = omega arith in omega (arith, pow_mono l, leb-false n (2 ^ e) q)) d k)
    h

enough : (tries e n : ℕ) → n ≤ 2 ^ (e + tries) → n ≤ 2 ^ first_power tries e n
unfolding first_power
enough zero e n h = rw add-zero at h
enough (suc tries) e n h =
    let k : n ≤ 2 ^ (suc e + tries) = rw (suc-add, ← add-suc) h in
    on_test (λ t. n ≤ 2 ^ (elim t [ true ↦ e | false ↦ first_power tries (suc e) n ])) (leb n (2 ^ e))
    (λ q. leb-true _ _ q)
    (λ q. enough tries (suc e) n k)

below-pow : (n : ℕ) → n < 2 ^ n
below-pow zero = pow_pos 0
below-pow (suc n) = let h = below-pow n in omega (arith, pow-add 2 1 n)

pub log-enough : (n : ℕ) → n ≤ 2 ^ rounded_up_log n
unfolding rounded_up_log
log-enough n = enough n 0 n (let h = below-pow n in rw zero-add (omega arith))

pub log-least : (n d : ℕ) → d < rounded_up_log n → 2 ^ d < n
unfolding rounded_up_log
log-least n d h = smaller n 0 n (λ d' k. absurd (omega arith)) d h
