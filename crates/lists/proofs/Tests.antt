-- From computed tests to facts and back, by the cases of the test.
use mathlib.Core.Path.{◌≡◌, refl, sym, ap₂, subst}
use mathlib.Core.Bool.{Bool, true, false, not, cond, ◌&&◌}
use mathlib.Core.List.{List, [], ◌∷◌}
use Prim.Native.Nat.{ℕ, ◌≤◌, ◌<◌}
use native.Mathlib.Omega.{arith}
use native.Mathlib.Decide.{dec_le, ℕ_discrete}
use lib.Dec.{leb, eqb, T, eqb→eq, eqb_refl}
use borrow.Author.Tests.{eq-eqb, ne_eqb, le-leb, lt-leb}
use Rattle.lists.specs.Lists.{bit, same}

pub and_left : (a b : Bool) → T (a && b) → T a
and_left true b t = tt
and_left false b t = t

pub and_right : (a b : Bool) → T (a && b) → T b
and_right true b t = t
and_right false b t = absurd t

pub and_both : (a b : Bool) → T a → T b → T (a && b)
and_both true b s t = t
and_both false b s t = absurd s

pub no_true : false ≡ true → ⊥
no_true e = subst (λ (x : Bool). T x) (sym e) tt

-- a test that holds, and one that does not, as equations
pub test-true : (b : Bool) → T b → b ≡ true
test-true true t = refl
test-true false t = absurd t

pub true-test : (b : Bool) → b ≡ true → T b
true-test b e = subst (λ (x : Bool). T x) (sym e) tt

pub not_test : (b : Bool) → T (not b) → b ≡ false
not_test true t = absurd t
not_test false t = refl

-- two tests that hold together are the same test
pub same_test : (a b : Bool) → (a ≡ true → b ≡ true) → (b ≡ true → a ≡ true) → a ≡ b
same_test true b f g = sym (f refl)
same_test false true f g = g refl
same_test false false f g = refl

pub eq_test : (a b : ℕ) → a ≡ b → T (eqb a b)
eq_test a b e = subst (λ (m : ℕ). T (eqb a m)) e (eqb_refl a)

pub leb-cases : {A : Type 0} (P : A → Type 0) (a b : ℕ) (x y : A) → (a ≤ b → P x) → (b < a → P y) → P (cond (leb a b) x y)
leb-cases P a b x y f g = go (dec_le a b)
  where
    go : Dec (a ≤ b) → P (cond (leb a b) x y)
    go (yes h) = rw (le-leb a b h) (f h)
    go (no h) = rw (lt-leb a b (omega arith)) (g (omega arith))

pub eqb-cases : {A : Type 0} (P : A → Type 0) (a b : ℕ) (x y : A) → (a ≡ b → P x) → ((a ≡ b → ⊥) → P y) → P (cond (eqb a b) x y)
eqb-cases P a b x y f g = go (ℕ_discrete a b)
  where
    go : Dec (a ≡ b) → P (cond (eqb a b) x y)
    go (yes h) = rw (eq-eqb a b h) (f h)
    go (no h) = rw (ne_eqb a b h) (g h)

-- 1 where the two are the same
abbrev pub is : ℕ → ℕ → ℕ
is p x = bit (eqb p x)

pub is-yes : (p x : ℕ) → p ≡ x → is p x ≡ 1
is-yes p x e = rw (eq-eqb p x e)

pub is-no : (p x : ℕ) → (p ≡ x → ⊥) → is p x ≡ 0
is-no p x e = rw (ne_eqb p x e)

pub same→eq : (xs ys : List ℕ) → T (same xs ys) → xs ≡ ys
unfolding same
same→eq [] [] t = refl
same→eq [] (y ∷ ys) t = absurd t
same→eq (x ∷ xs) [] t = absurd t
same→eq (x ∷ xs) (y ∷ ys) t =
    ap₂ (λ (a : ℕ) (l : List ℕ). a ∷ l) (eqb→eq x y (and_left (eqb x y) (same xs ys) t)) (same→eq xs ys (and_right (eqb x y) (same xs ys) t))

pub same_refl : (xs : List ℕ) → T (same xs xs)
unfolding same
same_refl [] = tt
same_refl (x ∷ xs) = and_both (eqb x x) (same xs xs) (eqb_refl x) (same_refl xs)
