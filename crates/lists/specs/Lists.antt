-- Plain words on lists and tests.
use Rattle.std.specs.Prelude.{ℕ, suc, ◌+◌, Bool, true, false, ◌&&◌, ◌||◌, List, [], ◌∷◌, leb, eqb}

-- a test as 1 or 0
abbrev pub bit : Bool → ℕ
bit true = 1
bit false = 0

-- lo ≤ x ≤ hi
abbrev pub within : ℕ → ℕ → ℕ → Bool
within lo hi x = leb lo x && leb x hi

-- two lists of numbers are the same
unfoldable pub same : List ℕ → List ℕ → Bool
same [] [] = true
same [] (y ∷ ys) = false
same (x ∷ xs) [] = false
same (x ∷ xs) (y ∷ ys) = eqb x y && same xs ys

module _ {A : Type 0} where
  -- the test holds of every element, of some element
  unfoldable pub every : (A → Bool) → List A → Bool
  every f [] = true
  every f (x ∷ xs) = f x && every f xs

  unfoldable pub some_of : (A → Bool) → List A → Bool
  some_of f [] = false
  some_of f (x ∷ xs) = f x || some_of f xs

  -- the sum of a number of each element
  unfoldable pub sum : (A → ℕ) → List A → ℕ
  sum f [] = 0
  sum f (x ∷ xs) = f x + sum f xs

  -- the elements from the start as long as the test holds, and those from the first on for which it does not
  unfoldable pub front : (A → Bool) → List A → List A
  front f [] = []
  front f (x ∷ xs) = elim (f x) [ true ↦ x ∷ front f xs | false ↦ [] ]

  unfoldable pub behind : (A → Bool) → List A → List A
  behind f [] = []
  behind f (x ∷ xs) = elim (f x) [ true ↦ behind f xs | false ↦ x ∷ xs ]

module _ {A B : Type 0} where
  -- f of each place and its element, places counted from i
  unfoldable pub map_at : (ℕ → A → B) → ℕ → List A → List B
  map_at f i [] = []
  map_at f i (x ∷ xs) = f i x ∷ map_at f (suc i) xs
