-- The eight cases as the arms of a match know them: a single number, or one of two that follow each other.
use mathlib.Core.Path.{◌≡◌, refl, sym, ap, ◌∙◌}
use Prim.Native.Nat.{ℕ, ◌+◌, ◌%◌, ◌≤◌, ◌<◌}
use native.Mathlib.Omega.{arith}
use native.Mathlib.Decide.{ℕ_discrete}
use Rattle.slots.specs.declared.Kind.{Kind}
use Rattle.slots.specs.declared.Kind.TheVariants.{Empty, StartAtHome, StartMoved, Continuation, NeverAllowed}
use Rattle.slots.specs.Kinds.{kinds, kind_of}

either : (a : ℕ) (x : Kind) → x ≡ kind_of a → x ≡ kind_of (a + 1) → (n : ℕ) → a ≤ n → n < a + 2 → x ≡ kind_of n
either a x p q n l h = go (ℕ_discrete n a)
  where
    go : Dec (n ≡ a) → x ≡ kind_of n
    go (yes e) = p ∙ ap kind_of (sym e)
    go (no e) = let s : a + 1 ≡ n = omega arith in q ∙ ap kind_of s

pub empty : (n : ℕ) → n ≡ 0 → Empty ≡ kind_of n
unfolding kind_of kinds
empty n e = rw e

pub home : (n : ℕ) → n ≡ 1 → StartAtHome ≡ kind_of n
unfolding kind_of kinds
home n e = rw e

pub never-allowed : (n : ℕ) → (n ≡ 0 → ⊥) → (n ≡ 1 → ⊥) → n < 4 → NeverAllowed ≡ kind_of n
unfolding kind_of kinds
never-allowed n a b h = either 2 NeverAllowed refl refl n (omega arith) h

pub moved : (n : ℕ) → 4 ≤ n → n < 6 → StartMoved ≡ kind_of n
unfolding kind_of kinds
moved n l h = either 4 StartMoved refl refl n l h

pub continuation : (word : ℕ) → 6 ≤ word % 8 → Continuation ≡ kind_of (word % 8)
unfolding kind_of kinds
continuation word l = either 6 Continuation refl refl (word % 8) l (omega arith)
