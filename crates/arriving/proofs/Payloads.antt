-- Single payloads: what the one-line functions compute, and that it fits, by the laws of powers of two.
use mathlib.Core.Path.{◌≡◌, sym, ap, subst}
use Prim.Native.Nat.{ℕ, suc, ◌-◌, ◌/◌, ◌%◌, ◌^◌, ◌≤◌, ◌<◌}
use native.Mathlib.Omega.{arith}
use native.Mathlib.Nat.{mod-lt, pow-suc}
use lib.Pow.{pow_pos, pow_mono}
use Rattle.slots.specs.Payload.{pay, void}
use Rattle.slots.proofs.PayloadLaws.{pay-lt, void-lt}

-- what fits a width fits a slot word
fits_word : (v x : ℕ) → v ≤ 26 → x < 2 ^ v → x < 536870912
fits_word v x h l = omega (arith, pow_mono {i = v} {j = 26} h)

pub void-small : (v x : ℕ) → 1 ≤ v → v ≤ 26 → x ≡ void v → x < 536870912
void-small v x a b e = omega (arith, fits_word v (void v) b (void-lt v (omega arith)))

pub pay-small : (v l f x : ℕ) → v ≤ 26 → l < v → f < 2 ^ l → x ≡ pay v l f → x < 536870912
pay-small v l f x a b c e = omega (arith, fits_word v (pay v l f) a (pay-lt v l f b c))

-- one bit less
pub halved : (m f : ℕ) → 2 ≤ m → f < 2 ^ (m - 1) → f / 2 < 2 ^ (m - 2)
halved m f a l = let e : m - 1 ≡ suc (m - 2) = omega arith in omega (arith, ap (λ (j : ℕ). 2 ^ j) e, pow-suc 2 (m - 2))

pub finger : (p l x : ℕ) → x ≡ 2 ^ l → (p % x ≡ p % 2 ^ l) × (p % x < 2 ^ l)
finger p l x e = (ap (λ (y : ℕ). p % y) e, subst (λ (y : ℕ). p % y < 2 ^ l) (sym e) (mod-lt p (pow_pos l)))
