-- The machine that lays a table out: it goes over the slots in order with a queue of entries that wait for a place.
use Rattle.std.specs.Prelude.{List, [], ◌∷◌, ◌++◌, map, ℕ, ◌+◌, ◌*◌}

-- an entry by its place in its run: the first, or a later one, with its payload
pub data Entry : Type 0 where
  start : ℕ → Entry
  more : ℕ → Entry

-- a run, by its payloads, as entries
unfoldable pub mark : List ℕ → List Entry
mark [] = []
mark (x ∷ xs) = start x ∷ map more xs

-- a slot word but for the bits shifted and occupied
abbrev pub code : Entry → ℕ
code (start p) = p * 8
code (more p) = p * 8 + 2

-- 1 if the run has an entry
abbrev pub occupied : List ℕ → ℕ
occupied [] = 0
occupied (x ∷ xs) = 1

-- the word of a slot: q is what waits on arrival, r the run of the slot's address
unfoldable pub emit : List Entry → List ℕ → ℕ
emit [] [] = 0
emit [] (x ∷ xs) = code (start x) + 1
emit (h ∷ q) r = code h + 4 + occupied r

-- what waits after the slot
unfoldable pub rest : List Entry → List ℕ → List Entry
rest [] [] = []
rest [] (x ∷ xs) = map more xs
rest (h ∷ q) r = q ++ mark r

-- the words of a stretch of slots, and what waits after it
unfoldable pub scan : List (List ℕ) → List Entry → List ℕ
scan [] q = []
scan (r ∷ rs) q = emit q r ∷ scan rs (rest q r)

unfoldable pub left : List (List ℕ) → List Entry → List Entry
left [] q = q
left (r ∷ rs) q = left rs (rest q r)

-- what waits on arrival at slot 0: what a lap leaves over
unfoldable pub pend : List (List ℕ) → List Entry
pend runs = left runs []

-- the words of the circle: a lap that begins with what a lap leaves over
unfoldable pub layout : List (List ℕ) → List ℕ
layout runs = scan runs (pend runs)
