-- Sums of a number of each element. Two lists with the same sum for every such number have the same elements, each as often.
use mathlib.Core.Path.{◌≡◌, refl, sym, ap₂, ◌∙◌}
use mathlib.Core.List.{List, [], ◌∷◌, ◌++◌}
use Prim.Native.Nat.{ℕ, ◌+◌, ◌≤◌}
use native.Mathlib.Omega.{arith}
use lib.ListN.{length}
use Rattle.lists.specs.Lists.{sum}
use Rattle.lists.proofs.Alls.{All}

unfoldable pub Same : {A : Type 0} → List A → List A → Type 0
Same {A} xs ys = (f : A → ℕ) → sum f xs ≡ sum f ys

pub sum-eq : {A : Type 0} (f g : A → ℕ) → ((a : A) → f a ≡ g a) → (l : List A) → sum f l ≡ sum g l
unfolding sum
sum-eq f g e [] = refl
sum-eq f g e (x ∷ l) = ap₂ ◌+◌ (e x) (sum-eq f g e l)

pub sum-le : {A : Type 0} (f g : A → ℕ) → ((a : A) → f a ≤ g a) → (l : List A) → sum f l ≤ sum g l
unfolding sum
sum-le f g e [] = omega arith
sum-le f g e (x ∷ l) = omega (arith, e x, sum-le f g e l)

pub sum-two : {A : Type 0} (f a b : A → ℕ) → ((i : A) → f i ≡ a i + b i) → (l : List A) → sum f l ≡ sum a l + sum b l
unfolding sum
sum-two f a b e [] = refl
sum-two f a b e (x ∷ l) = omega (arith, e x, sum-two f a b e l)

pub sum-three : {A : Type 0} (f a b c : A → ℕ) → ((i : A) → f i ≡ a i + b i + c i) → (l : List A) → sum f l ≡ sum a l + sum b l + sum c l
unfolding sum
sum-three f a b c e [] = refl
sum-three f a b c e (x ∷ l) = omega (arith, e x, sum-three f a b c e l)

pub sum-append : {A : Type 0} (f : A → ℕ) (l m : List A) → sum f (l ++ m) ≡ sum f l + sum f m
unfolding sum
sum-append f [] m = omega arith
sum-append f (x ∷ l) m = omega (arith, sum-append f l m)

pub sum-zero : {A : Type 0} (f : A → ℕ) → ((a : A) → f a ≡ 0) → (l : List A) → sum f l ≡ 0
unfolding sum
sum-zero f e [] = refl
sum-zero f e (x ∷ l) = omega (arith, e x, sum-zero f e l)

pub sum_one : {A : Type 0} (f : A → ℕ) → ((a : A) → f a ≡ 1) → (l : List A) → sum f l ≡ length l
unfolding sum
sum_one f e [] = refl
sum_one f e (x ∷ l) = omega (arith, e x, sum_one f e l)

-- numbers that agree on what holds of every element
pub sum-all : {A : Type 0} (P : A → Type 0) (f g : A → ℕ) → ((a : A) → P a → f a ≡ g a) → (l : List A) → All P l → sum f l ≡ sum g l
unfolding sum
sum-all P f g e [] a = refl
sum-all P f g e (x ∷ l) a = ap₂ ◌+◌ (e x a.0) (sum-all P f g e l a.1)

pub same_length : {A : Type 0} (X Y : List A) → Same X Y → length X ≡ length Y
unfolding Same
same_length X Y s = sym (sum_one (λ _. 1) (λ _. refl) X) ∙ s (λ _. 1) ∙ sum_one (λ _. 1) (λ _. refl) Y
