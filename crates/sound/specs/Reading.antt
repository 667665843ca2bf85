-- Document 01, "Slots": "entries of one canonical slot form a run". How the audit reads the run of an address, in the order of the addresses.
use Rattle.std.specs.Prelude.{ℕ, ◌+◌, ◌/◌, ◌%◌, ◌≤◌, ◌<◌, ◌≡◌, List, ◌∷◌, map, length, get_or, drop}
use Rattle.lists.specs.Runs.{count, total}
use Rattle.layout.specs.Machine.{layout}
use Rattle.layout.specs.Decode.{turn, entry, mores, stop', decode}

-- the words are the layout of what they decode to, and not full
pub record Laid (words : List ℕ) : Type 0 where
  pub is : words ≡ layout (decode words)
  pub small : total (decode words) < length words

-- the later entries of a run, from place j of the circle l on
unfoldable pub later : List ℕ → ℕ → List ℕ
later l j = mores (map entry (drop j l))

-- the run of address c, where k entries wait on arrival there
unfoldable pub read_at : List ℕ → ℕ → ℕ → List ℕ
read_at words c k = stop' (get_or words c 0 % 2) (get_or (turn c words) k 0 / 8 ∷ later (turn c words) (k + 1))

-- how long that run is, and how often t and v are in it
pub record Read (words : List ℕ) (c k t v len a b : ℕ) : Type 0 where
  pub size : len ≡ length (read_at words c k)
  pub fits : len ≤ length words
  pub tombstones : a ≡ count t (read_at words c k)
  pub voids : b ≡ count v (read_at words c k)
