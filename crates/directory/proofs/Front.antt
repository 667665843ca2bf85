-- A list is its front and what is behind it: each fact by the cases of the test at the first element.
use mathlib.Core.Path.{◌≡◌, refl, sym, ap, ◌∙◌}
use mathlib.Core.Bool.{Bool, true, false, cond}
use mathlib.Core.List.{List, [], ◌∷◌, ◌++◌}
use Prim.Native.Nat.{ℕ, zero, suc, ◌≤◌, ◌<◌}
use native.Mathlib.Omega.{arith}
use lib.Dec.{T}
use lib.ListN.{length, get_or, take, set, length-append, get_or-append}
use lib.Seq.{take-append-le, set-append_left}
use Rattle.std.specs.List.{take_while}
use Rattle.std.proofs.lemmas.List.Sums.{take_while-cons}
use Rattle.lists.specs.Lists.{every, front, behind}
use Rattle.lists.proofs.Tests.{and_left, and_right, and_both, test-true, true-test}
use Rattle.lists.proofs.Alls.{All, all_set}

module _ {A : Type 0} (f : A → Bool) where
  pub front-yes : (x : A) (xs : List A) → f x ≡ true → front f (x ∷ xs) ≡ x ∷ front f xs
  unfolding front
  front-yes x xs e = rw (e, front)

  pub front-no : (x : A) (xs : List A) → f x ≡ false → front f (x ∷ xs) ≡ []
  unfolding front
  front-no x xs e = rw (e, front)

  pub behind-yes : (x : A) (xs : List A) → f x ≡ true → behind f (x ∷ xs) ≡ behind f xs
  unfolding behind
  behind-yes x xs e = rw (e, behind)

  pub behind-no : (x : A) (xs : List A) → f x ≡ false → behind f (x ∷ xs) ≡ x ∷ xs
  unfolding behind
  behind-no x xs e = rw (e, behind)

  -- the front is what std's word takes
  pub front-while : (xs : List A) → take_while f xs ≡ front f xs
  unfolding front
  front-while [] = refl
  front-while (x ∷ xs) = take_while-cons f x xs ∙ go (f x) (front-while xs)
    where
      go : (t : Bool) → take_while f xs ≡ front f xs → cond t (x ∷ take_while f xs) [] ≡ elim t [ true ↦ x ∷ front f xs | false ↦ [] ]
      go true ih = ap (λ l. x ∷ l) ih
      go false ih = refl

  pub front-behind : (xs : List A) → front f xs ++ behind f xs ≡ xs
  unfolding front behind
  front-behind [] = refl
  front-behind (x ∷ xs) = go (f x) (front-behind xs)
    where
      go : (t : Bool) → front f xs ++ behind f xs ≡ xs
          → elim t [ true ↦ x ∷ front f xs | false ↦ [] ] ++ elim t [ true ↦ behind f xs | false ↦ x ∷ xs ] ≡ x ∷ xs
      go true ih = ap (λ l. x ∷ l) ih
      go false ih = refl

  pub front-all : (xs : List A) → All (λ x. T (f x)) (front f xs)
  unfolding front
  front-all [] = tt
  front-all (x ∷ xs) = go (f x) refl (front-all xs)
    where
      go : (t : Bool) → f x ≡ t → All (λ y. T (f y)) (front f xs) → All (λ y. T (f y)) (elim t [ true ↦ x ∷ front f xs | false ↦ [] ])
      go true e ih = (true-test (f x) e, ih)
      go false e ih = tt

  pub front_length : (xs : List A) → length (front f xs) ≤ length xs
  front_length xs = omega (arith, simp length-append at (ap length (front-behind xs)))

  pub front-get : (xs : List A) (i : ℕ) (d : A) → i < length (front f xs) → get_or (front f xs) i d ≡ get_or xs i d
  front-get xs i d h = sym (get_or-append (front f xs) (behind f xs) d i h) ∙ ap (λ l. get_or l i d) (front-behind xs)

  pub front-take : (xs : List A) (n : ℕ) → n ≤ length (front f xs) → take n (front f xs) ≡ take n xs
  front-take xs n h = sym (take-append-le n (front f xs) (behind f xs) h) ∙ ap (take n) (front-behind xs)

  -- a list all of whose elements pass, before one that does not begin with such an element
  module _ (ys : List A) (e : front f ys ≡ []) where
    pub front-append : (xs : List A) → All (λ x. T (f x)) xs → front f (xs ++ ys) ≡ xs
    front-append [] a = e
    front-append (x ∷ xs) a = front-yes x (xs ++ ys) (test-true (f x) a.0) ∙ ap (λ l. x ∷ l) (front-append xs a.1)

    pub behind-append : (xs : List A) → All (λ x. T (f x)) xs → behind f (xs ++ ys) ≡ behind f ys
    behind-append [] a = refl
    behind-append (x ∷ xs) a = behind-yes x (xs ++ ys) (test-true (f x) a.0) ∙ behind-append xs a.1

  pub front_rest : (xs : List A) → front f (behind f xs) ≡ []
  unfolding front behind
  front_rest [] = refl
  front_rest (x ∷ xs) = go (f x) refl (front_rest xs)
    where
      go : (t : Bool) → f x ≡ t → front f (behind f xs) ≡ [] → front f (elim t [ true ↦ behind f xs | false ↦ x ∷ xs ]) ≡ []
      go true e ih = ih
      go false e ih = front-no x xs e

  behind-rest : (xs : List A) → behind f (behind f xs) ≡ behind f xs
  unfolding behind
  behind-rest [] = refl
  behind-rest (x ∷ xs) = go (f x) refl (behind-rest xs)
    where
      go : (t : Bool) → f x ≡ t → behind f (behind f xs) ≡ behind f xs
          → behind f (elim t [ true ↦ behind f xs | false ↦ x ∷ xs ]) ≡ elim t [ true ↦ behind f xs | false ↦ x ∷ xs ]
      go true e ih = ih
      go false e ih = behind-no x xs e

  -- an element of the front replaced by one that passes
  module _ (xs : List A) (i : ℕ) (h : i < length (front f xs)) (y : A) (t : T (f y)) where
    set_split : set xs i y ≡ set (front f xs) i y ++ behind f xs
    set_split = ap (λ l. set l i y) (sym (front-behind xs)) ∙ set-append_left (front f xs) (behind f xs) i y h

    all_pass : All (λ x. T (f x)) (set (front f xs) i y)
    all_pass = all_set (λ x. T (f x)) (front f xs) i y (front-all xs) t

    pub front-set : front f (set xs i y) ≡ set (front f xs) i y
    front-set = ap (front f) set_split ∙ front-append (behind f xs) (front_rest xs) (set (front f xs) i y) all_pass

    pub behind-set : behind f (set xs i y) ≡ behind f xs
    behind-set = ap (behind f) set_split ∙ behind-append (behind f xs) (front_rest xs) (set (front f xs) i y) all_pass ∙ behind-rest xs

  -- one more element passes
  pub every_more : (xs : List A) (i : ℕ) (d : A) → i < length xs → T (every f (take i xs)) → T (f (get_or xs i d)) → T (every f (take (suc i) xs))
  unfolding every
  every_more [] i d h t u = absurd (omega arith)
  every_more (x ∷ xs) zero d h t u = and_both (f x) true u tt
  every_more (x ∷ xs) (suc i) d h t u =
      and_both (f x) (every f (take (suc i) xs)) (and_left (f x) (every f (take i xs)) t)
      (every_more xs i d (omega arith) (and_right (f x) (every f (take i xs)) t) u)
