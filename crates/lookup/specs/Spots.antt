-- Document 01, "Slots": "entries of one canonical slot form a run in rising payload order, so longer fingerprints come first". What a search in the run of an
-- address finds: the first match is the longest.
use Rattle.std.specs.Prelude.{◌≡◌, Bool, cond, List, ℕ, suc, ◌+◌, ◌-◌, ◌≤◌, ◌<◌, leb, ltb, length, get_or, Option, slice_get}
use Rattle.layout.specs.Decode.{run_at, place_of}
use Rattle.layout.specs.Reading.{index}

-- the first payload for which the test is true, if there is one
abbrev pub First : (ℕ → Bool) → List ℕ → Option ℕ → Type 0
First f run payload = payload ≡ slice_get run (index f run)

-- x is found: `slot` slots on from c, behind `rank` others of the run; `rest` is 1 where others come behind it, or else 0
pub record Spotted (ws : List ℕ) (c x slot rank rest : ℕ) : Type 0 where
  pub first : rank ≡ index (leb x) (run_at ws c)
  pub inside : rank < length (run_at ws c)
  pub same : get_or (run_at ws c) rank 0 ≡ x
  pub place : slot ≡ place_of ws c + rank
  pub behind : rest ≡ cond (ltb (rank + 1) (length (run_at ws c))) 1 0

-- the first that is x or larger, if there is one, is another
abbrev pub Missing : List ℕ → ℕ → ℕ → Type 0
Missing ws c x = index (leb x) (run_at ws c) < length (run_at ws c) → get_or (run_at ws c) (index (leb x) (run_at ws c)) 0 ≡ x → ⊥

-- the last that is x or smaller is x, `slot` slots on from c
pub record LastSpotted (ws : List ℕ) (c x slot : ℕ) : Type 0 where
  pub some : 1 ≤ index (leb (suc x)) (run_at ws c)
  pub same : get_or (run_at ws c) (index (leb (suc x)) (run_at ws c) - 1) 0 ≡ x
  pub place : slot ≡ place_of ws c + (index (leb (suc x)) (run_at ws c) - 1)

abbrev pub LastMissing : List ℕ → ℕ → ℕ → Type 0
LastMissing ws c x = 1 ≤ index (leb (suc x)) (run_at ws c) → get_or (run_at ws c) (index (leb (suc x)) (run_at ws c) - 1) 0 ≡ x → ⊥
