-- A walk that carries its slot: one slot on from the slot k on from p is the slot k + 1 on from p, by the two cases of the wrap, and it is another slot.
use mathlib.Core.Path.{◌≡◌, ap, ◌∙◌}
use mathlib.Core.Bool.{Bool, cond}
use Prim.Native.Nat.{ℕ, ◌+◌, ◌-◌, ◌≤◌, ◌<◌}
use native.Mathlib.Omega.{arith}
use native.Mathlib.Decide.{dec_lt}
use borrow.Author.Tests.{lt-ltb, le-ltb}
use Rattle.layout.specs.Moves.{wrap}

pub wrap-low : (n p k : ℕ) → p + k < n → wrap n p k ≡ p + k
unfolding wrap
wrap-low n p k h = ap (λ (b : Bool). cond b (p + k) (p + k - n)) (lt-ltb (p + k) n h)

pub wrap-high : (n p k : ℕ) → n ≤ p + k → wrap n p k ≡ p + k - n
unfolding wrap
wrap-high n p k h = ap (λ (b : Bool). cond b (p + k) (p + k - n)) (le-ltb (p + k) n h)

pub wrap-first : (n p : ℕ) → p < n → p ≡ wrap n p 0
wrap-first n p h = omega (arith, wrap-low n p 0 (omega arith))

pub wrap-next : (n p k i j : ℕ) → p < n → k < n → i ≡ wrap n p k → j ≡ wrap n i 1 → j ≡ wrap n p (k + 1)
wrap-next n p k i j hp hk ei ej = go (dec_lt (p + k) n) (dec_lt (p + (k + 1)) n)
  where
    go : Dec (p + k < n) → Dec (p + (k + 1) < n) → j ≡ wrap n p (k + 1)
    go (yes a) (yes b) = omega (arith, wrap-low n p k a, wrap-low n p (k + 1) b, wrap-low n i 1 (omega (arith, wrap-low n p k a)))
    go (yes a) (no b) = omega (arith, wrap-low n p k a, wrap-high n p (k + 1) (omega arith), wrap-high n i 1 (omega (arith, wrap-low n p k a)))
    go (no a) (yes b) = absurd (omega arith)
    go (no a) (no b) =
        let e : i ≡ p + k - n = ei ∙ wrap-high n p k (omega arith) in
        omega (arith, wrap-high n p (k + 1) (omega arith), wrap-low n i 1 (omega arith))

pub wrap-other : (n i j : ℕ) → i < n → 1 < n → j ≡ wrap n i 1 → j ≡ i → ⊥
wrap-other n i j hi h1 ej e = go (dec_lt (i + 1) n)
  where
    go : Dec (i + 1 < n) → ⊥
    go (yes a) = omega (arith, wrap-low n i 1 a)
    go (no a) = omega (arith, wrap-high n i 1 (omega arith))
