-- Document 01, "Numbers": "The annex directory is a fixed array of fifteen entries, each a mother-hash length b, a size power s and a count; places in use come
-- first and the rest are all zero."
use Rattle.std.specs.Prelude.{ℕ, ◌+◌, ◌-◌, ◌^◌, Bool, true, false, not, ◌&&◌, List, [], ◌∷◌, ◌++◌, length, take, drop, replicate, leb, eqb}
use Rattle.lists.specs.Lists.{within, every, sum, front, behind}
use Rattle.slots.specs.Numbers.{limit}
use Rattle.directory.specs.declared.Place.{Place}

abbrev pub no_place : Place
no_place = record { b = 0; s = 0; count = 0 }

-- a place is in use while its b is not 0
abbrev pub taken : Place → Bool
taken p = not (eqb p.b 0)

abbrev pub places_in_use : List Place → List Place
places_in_use ps = front taken ps

abbrev pub places_not_in_use : List Place → List Place
places_not_in_use ps = behind taken ps

-- number 2: "directory lengths not strictly rising within 6 to k, s not within 3 to b-1", "a count above its load limit". Lengths are above `last`
unfoldable pub places_right : ℕ → ℕ → List Place → Bool
places_right k last [] = true
places_right k last (p ∷ ps) =
    within (last + 1) k p.b && (within 3 (p.b - 1) p.s && (leb p.count (limit p.s) && places_right k p.b ps))

-- "an unused place not zero"
abbrev pub zero_place : Place → Bool
zero_place p = eqb p.b 0 && (eqb p.s 0 && eqb p.count 0)

unfoldable pub directory_right : ℕ → List Place → Bool
directory_right k ps = places_right k 5 (places_in_use ps) && every zero_place (places_not_in_use ps)

-- "An annex table .. follows its predecessor directly": the words of tables that follow one another
unfoldable pub words_taken : List Place → ℕ
words_taken ps = sum (λ (p : Place). 2 ^ p.s) ps

-- the table at a place has not length b
abbrev pub other : ℕ → Place → Bool
other b p = not (eqb b p.b)

-- "the words of the annex table of one length", of tables that follow one another; none if there is no such table
unfoldable pub part_in : ℕ → List Place → List ℕ → List ℕ
part_in b [] annex = []
part_in b (p ∷ ps) annex = elim (eqb b p.b) [ true ↦ take (2 ^ p.s) annex | false ↦ part_in b ps (drop (2 ^ p.s) annex) ]

-- the words before the table of length b
unfoldable pub offset_in : ℕ → List Place → ℕ
offset_in b [] = 0
offset_in b (p ∷ ps) = elim (eqb b p.b) [ true ↦ 0 | false ↦ 2 ^ p.s + offset_in b ps ]

-- "empty tables at the end of the directory are dropped"
unfoldable pub keep : Place → List Place → List Place
keep p [] = elim (eqb p.count 0) [ true ↦ [] | false ↦ p ∷ [] ]
keep p (q ∷ qs) = p ∷ q ∷ qs

unfoldable pub trim : List Place → List Place
trim [] = []
trim (p ∷ ps) = keep p (trim ps)

-- the fifteen places of a directory of these tables
abbrev pub fifteen : List Place → List Place
fifteen ps = ps ++ replicate (15 - length ps) no_place
