-- Document 01, "What the calls do", Double: "Each entry that becomes void stores its new address, k+1 bits, as a mother hash." So mother hashes arrive one by one
-- in the new annex table.
use Rattle.std.specs.Prelude.{List, [], ◌∷◌, map, ℕ, ◌+◌, ◌%◌, ◌^◌}
use Rattle.rules.specs.Tables.{hash_entry}
use Rattle.rules.specs.Doubling.{become_void}
use Rattle.arriving.specs.Arrivals.{Arrival, arrival}

-- the new mother hash of payload p of the run of c, if it becomes void: main has 2^k slots
unfoldable pub new_hash : ℕ → ℕ → ℕ → ℕ → List ℕ
new_hash w k c p = become_void w k c (p ∷ [])

-- and that hash in a table of 2^s slots
abbrev pub hash_arrival : ℕ → ℕ → ℕ → Arrival
hash_arrival b s m = arrival (m % 2 ^ s) (hash_entry b s m)

unfoldable pub stored : ℕ → ℕ → ℕ → ℕ → ℕ → List Arrival
stored w k s c p = map (hash_arrival (k + 1) s) (new_hash w k c p)
