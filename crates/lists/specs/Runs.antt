-- Document 01, "Slots": "entries of one canonical slot form a run in rising payload order". A run is the list of its payloads, and the contents of a table
-- are its runs: element c is the run of address c.
use Rattle.std.specs.Prelude.{ℕ, ◌+◌, Bool, true, false, cond, ◌&&◌, List, [], ◌∷◌, leb, eqb, length, get_or, set}
use Rattle.lists.specs.Lists.{bit}

abbrev pub Runs : Type 0
Runs = List (List ℕ)

-- rising, repeats allowed
unfoldable pub rises_from : ℕ → List ℕ → Bool
rises_from x [] = true
rises_from x (y ∷ ys) = leb x y && rises_from y ys

unfoldable pub rising : List ℕ → Bool
rising [] = true
rising (x ∷ xs) = rises_from x xs

-- x put in its place
unfoldable pub add : ℕ → List ℕ → List ℕ
add x [] = x ∷ []
add x (y ∷ ys) = cond (leb x y) (x ∷ y ∷ ys) (y ∷ add x ys)

-- without the first x, if there is one
unfoldable pub erase : ℕ → List ℕ → List ℕ
erase x [] = []
erase x (y ∷ ys) = cond (eqb x y) ys (y ∷ erase x ys)

-- without any x
unfoldable pub erase_all : ℕ → List ℕ → List ℕ
erase_all x [] = []
erase_all x (y ∷ ys) = cond (eqb x y) (erase_all x ys) (y ∷ erase_all x ys)

-- whether x is there, and how often
unfoldable pub has : ℕ → List ℕ → Bool
has x [] = false
has x (y ∷ ys) = cond (eqb x y) true (has x ys)

unfoldable pub count : ℕ → List ℕ → ℕ
count x [] = 0
count x (y ∷ ys) = bit (eqb x y) + count x ys

-- the payloads for which the test holds, in the run's order
unfoldable pub hits : (ℕ → Bool) → List ℕ → List ℕ
hits f [] = []
hits f (y ∷ ys) = cond (f y) (y ∷ hits f ys) (hits f ys)

-- the run of address c changed by f
abbrev pub at : ℕ → (List ℕ → List ℕ) → Runs → Runs
at c f runs = set runs c (f (get_or runs c []))

-- entries in all
unfoldable pub total : Runs → ℕ
total [] = 0
total (r ∷ rs) = length r + total rs
