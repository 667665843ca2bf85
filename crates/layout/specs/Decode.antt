-- What a table's words hold: the run of an address, read as the calls read it.
use Rattle.std.specs.Prelude.{List, [], ◌∷◌, ◌++◌, map, reverse, ℕ, zero, suc, ◌+◌, ◌-◌, ◌/◌, ◌%◌, length, take, drop, get_or}
use Rattle.layout.specs.Machine.{Entry, start, more}

-- the circle, begun at place c
abbrev pub turn {ℓ} : {A : Type ℓ} → ℕ → List A → List A
turn c l = drop c l ++ take c l

-- the entry that a word holds
abbrev pub entry_of : ℕ → ℕ → Entry
entry_of zero p = start p
entry_of (suc n) p = more p

unfoldable pub entry : ℕ → Entry
entry w = entry_of (w / 2 % 2) (w / 8)

abbrev pub stop : ℕ → ℕ → ℕ
stop zero k = 0
stop (suc n) k = k

abbrev pub stop' : ℕ → List ℕ → List ℕ
stop' zero k = []
stop' (suc n) k = k

-- going left: the slots to the first that is not shifted, and the occupied bits of all that are come to
unfoldable pub steps : List ℕ → ℕ
steps [] = 0
steps (w ∷ ws) = stop (w / 4 % 2) (suc (steps ws))

-- the occupied bit of the slot next to the left
abbrev pub first_mark : List ℕ → ℕ
first_mark [] = 0
first_mark (w ∷ ws) = w % 2

unfoldable pub passed : List ℕ → ℕ
passed [] = 0
passed (w ∷ ws) = stop (w / 4 % 2) (first_mark ws + passed ws)

-- going right: the later entries of a run, and run m of those that begin here
unfoldable pub mores : List Entry → List ℕ
mores [] = []
mores (start p ∷ es) = []
mores (more p ∷ es) = p ∷ mores es

unfoldable pub nth : ℕ → List Entry → List ℕ
nth m [] = []
nth m (more p ∷ es) = nth m es
nth zero (start p ∷ es) = p ∷ mores es
nth (suc m) (start p ∷ es) = nth m es

-- the place of run m, of those that begin here
unfoldable pub skip : ℕ → List Entry → ℕ
skip m [] = 0
skip m (more p ∷ es) = suc (skip m es)
skip zero (start p ∷ es) = 0
skip (suc m) (start p ∷ es) = suc (skip m es)

-- the entries from the start of the cluster of the circle's last address on
abbrev pub ahead : List ℕ → List Entry
ahead ws = map entry (turn (length ws - suc (steps (reverse ws))) ws)

-- the run of the last address of the circle: whose number in its cluster is counted on the way left
abbrev pub reading : List ℕ → List ℕ
reading ws = nth (passed (reverse ws)) (ahead ws)

unfoldable pub last_run : List ℕ → List ℕ
last_run ws = stop' (get_or (reverse ws) 0 0 % 2) (reading ws)

-- how far behind the circle's last address its run begins, or would begin
unfoldable pub last_place : List ℕ → ℕ
last_place ws = skip (passed (reverse ws)) (ahead ws) - steps (reverse ws)

unfoldable pub place_of : List ℕ → ℕ → ℕ
place_of words c = last_place (turn (suc c) words)

unfoldable pub run_at : List ℕ → ℕ → List ℕ
run_at words c = last_run (turn (suc c) words)

unfoldable pub runs_from : List ℕ → ℕ → ℕ → List (List ℕ)
runs_from words c zero = []
runs_from words c (suc n) = run_at words c ∷ runs_from words (suc c) n

unfoldable pub decode : List ℕ → List (List ℕ)
decode words = runs_from words 0 (length words)
