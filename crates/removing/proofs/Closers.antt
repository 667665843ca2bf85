-- What an entry becomes one slot to the left, by the bits of its word: the two cases of the bit continuation, each by the law of its entry.
use mathlib.Core.Path.{◌≡◌, sym, ap, ap₂, ◌∙◌}
use Prim.Native.Nat.{ℕ, ◌+◌, ◌*◌, ◌-◌, ◌/◌, ◌%◌}
use native.Mathlib.Omega.{arith}
use native.Mathlib.Decide.{ℕ_discrete}
use Rattle.layout.specs.Machine.{Entry}
use Rattle.layout.specs.Decode.{entry}
use Rattle.layout.specs.Moves.{closer, is_start}
use Rattle.layout.proofs.Draws.{entry-start, entry_more, closer-start}

pub closer-home : (v m w : ℕ) → v / 2 % 2 + m ≡ 0 → v / 8 * 8 + 1 ≡ closer (entry v) m w
closer-home v m w e =
    let z : m ≡ 0 = omega arith in
    sym (ap₂ (λ (a : Entry) (b : ℕ). closer a b w) (entry-start v (omega arith)) z)

pub closer-away : (v m w : ℕ) → (v / 2 % 2 + m ≡ 0 → ⊥) → v / 8 * 8 + v / 2 % 2 * 2 + 4 + w % 2 ≡ closer (entry v) m w
closer-away v m w n = go (ℕ_discrete (v / 2 % 2) 0)
  where
    go : Dec (v / 2 % 2 ≡ 0) → v / 8 * 8 + v / 2 % 2 * 2 + 4 + w % 2 ≡ closer (entry v) m w
    go (yes z) =
        let e : v / 8 * 8 + v / 2 % 2 * 2 + 4 + w % 2 ≡ v / 8 * 8 + 4 + w % 2 = omega arith in
        e ∙ closer-start (v / 8) m w (λ y. n (omega arith)) ∙ sym (ap (λ (a : Entry). closer a m w) (entry-start v z))
    go (no z) =
        let e : v / 8 * 8 + v / 2 % 2 * 2 + 4 + w % 2 ≡ v / 8 * 8 + 2 + 4 + w % 2 = omega arith in
        e ∙ sym (ap (λ (a : Entry). closer a m w) (entry_more v z))

pub start-bit : (v : ℕ) → is_start (entry v) ≡ 1 - v / 2 % 2
start-bit v = go (ℕ_discrete (v / 2 % 2) 0)
  where
    go : Dec (v / 2 % 2 ≡ 0) → is_start (entry v) ≡ 1 - v / 2 % 2
    go (yes z) = omega (arith, ap is_start (entry-start v z))
    go (no z) = omega (arith, ap is_start (entry_more v z))
