-- Document 01, "What the calls do", Double: "an entry with L of at least 1 gives its lowest bit to become the top bit of its address; a void goes to both
-- addresses. .. Each entry that becomes void stores its new address, k+1 bits, as a mother hash. If there are any, one annex table is added."
use Rattle.std.specs.Prelude.{ℕ, zero, suc, ◌+◌, ◌*◌, ◌/◌, ◌%◌, ◌^◌, true, false, List, [], ◌∷◌, ◌++◌, map, replicate, leb, eqb}
use Rattle.lists.specs.Runs.{Runs, add, at}
use Rattle.slots.specs.Numbers.{limit}
use Rattle.slots.specs.Payload.{pay, void, rest_of, fingerprint_of}
use Rattle.rules.specs.Tables.{hash_entry}

-- what a payload of width w gives to the address with new top bit t, at the new width v: a tombstone nothing (there is none when Double is accepted)
unfoldable pub half : ℕ → ℕ → ℕ → ℕ → List ℕ
half w v t p =
    elim (rest_of w p) [
      | zero ↦ []
      | suc n ↦ elim n [
        | zero ↦ void v ∷ []
        | suc l ↦ elim (eqb (fingerprint_of w p % 2) t) [ true ↦ pay v l (fingerprint_of w p / 2) ∷ [] | false ↦ [] ]
      ]
    ]

unfoldable pub half_run : ℕ → ℕ → ℕ → List ℕ → List ℕ
half_run w v t [] = []
half_run w v t (p ∷ ps) = half w v t p ++ half_run w v t ps

unfoldable pub doubled : ℕ → ℕ → Runs → Runs
doubled w v runs = map (half_run w v 0) runs ++ map (half_run w v 1) runs

-- the new addresses of the entries that become void, those of length 1: of the run of c, and of all runs from c on
unfoldable pub become_void : ℕ → ℕ → ℕ → List ℕ → List ℕ
become_void w k c [] = []
become_void w k c (p ∷ ps) =
    elim (eqb (rest_of w p) 2) [ true ↦ (c + 2 ^ k * fingerprint_of w p) ∷ become_void w k c ps | false ↦ become_void w k c ps ]

unfoldable pub new_hashes : ℕ → ℕ → ℕ → Runs → List ℕ
new_hashes w k c [] = []
new_hashes w k c (run ∷ runs) = become_void w k c run ++ new_hashes w k (suc c) runs

-- "Its size power s is the smallest, from 3, whose load limit holds the count when made": the first of `tries` from s on (20 are enough)
unfoldable pub size_from : ℕ → ℕ → ℕ → ℕ
size_from zero s n = s
size_from (suc tries) s n = elim (leb n (limit s)) [ true ↦ s | false ↦ size_from tries (suc s) n ]

abbrev pub size_for : ℕ → ℕ
size_for n = size_from 20 3 n

-- the table of these mother hashes of b bits, in 2^s slots
unfoldable pub table_of : ℕ → ℕ → List ℕ → Runs
table_of b s [] = replicate (2 ^ s) []
table_of b s (m ∷ ms) = at (m % 2 ^ s) (add (hash_entry b s m)) (table_of b s ms)
