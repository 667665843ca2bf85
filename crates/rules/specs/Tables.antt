-- Document 01, "What the calls do": "An annex table for length b follows its predecessor directly. .. It is laid out as above with payload width 18 and
-- fingerprint length b-s".
use Rattle.std.specs.Prelude.{ℕ, ◌-◌, ◌/◌, ◌%◌, ◌^◌, List, [], ◌∷◌, ◌++◌, get_or, take, drop}
use Rattle.lists.specs.Lists.{sum}
use Rattle.lists.specs.Runs.{Runs, count, total}
use Rattle.slots.specs.Payload.{pay}
use Rattle.layout.specs.Machine.{layout}
use Rattle.layout.specs.Decode.{decode}
use Rattle.directory.specs.declared.Place.{Place}

-- an annex table: its mother-hash length, its size power, and what it holds
pub record Table : Type 0 where
  pub b : ℕ
  pub s : ℕ
  pub runs : Runs

-- mother hash m of b bits in a table of 2^s slots: its lowest s bits are its canonical slot, and this is its payload
abbrev pub hash_entry : ℕ → ℕ → ℕ → ℕ
hash_entry b s m = pay 18 (b - s) (m / 2 ^ s)

-- how many mother hashes of the table match address c: their b bits equal the low b bits of c
unfoldable pub matching : ℕ → Table → ℕ
matching c t = count (hash_entry t.b t.s (c % 2 ^ t.b)) (get_or t.runs (c % 2 ^ t.s) [])

-- and of all tables
unfoldable pub mothers_of : ℕ → List Table → ℕ
mothers_of c ts = sum (matching c) ts

-- the tables of these places, one after the other
unfoldable pub tables : List Place → List ℕ → List Table
tables [] annex = []
tables (p ∷ ps) annex =
    record { b = p.b; s = p.s; runs = decode (take (2 ^ p.s) annex) } ∷ tables ps (drop (2 ^ p.s) annex)

-- and back: their words, and the place of each
unfoldable pub table_words : List Table → List ℕ
table_words [] = []
table_words (t ∷ ts) = layout t.runs ++ table_words ts

unfoldable pub place_of : Table → Place
place_of t = record { b = t.b; s = t.s; count = total t.runs }
