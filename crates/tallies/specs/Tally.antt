-- Document 01, "What the calls do": "as many tombstones as even queue words naming it", "its voids number the mother hashes matching it less the queue words naming it": the counters of
-- a block of addresses.
use Rattle.std.specs.Prelude.{ℕ, ◌+◌, ◌*◌, ◌/◌, ◌≤◌, ◌<◌, ◌≡◌, List, length, get_or}
use Rattle.lists.specs.Runs.{count}
use Rattle.rules.specs.Tables.{Table, mothers_of}
use Rattle.rules.specs.Sound.{naming}

-- how many addresses a block has: the code's BLOCK
abbrev pub block_size : ℕ
block_size = 8192

-- the counters of the block from base on, after these queue words
pub record Tallied (base : ℕ) (ws names evens : List ℕ) : Type 0 where
  pub names_size : length names ≡ block_size
  pub evens_size : length evens ≡ block_size
  pub named : (i : ℕ) → i < block_size → get_or names i 0 ≡ naming (base + i) ws
  pub even : (i : ℕ) → i < block_size → get_or evens i 0 ≡ count ((base + i) * 2) ws

-- the queue words from..to name addresses of other blocks
abbrev pub Others : ℕ → List ℕ → ℕ → ℕ → Type 0
Others base ws from to = (q : ℕ) → from ≤ q → q < to → get_or ws q 0 / 2 / block_size ≡ base / block_size → ⊥

-- no counter is larger than m
abbrev pub AtMost : ℕ → List ℕ → Type 0
AtMost m l = (j : ℕ) → get_or l j 0 ≤ m

-- the counters of the first n addresses from base on rise by what f says of the address, and the others stay
pub record Raised (f : ℕ → ℕ) (base n : ℕ) (before after : List ℕ) : Type 0 where
  pub size : length after ≡ length before
  pub raised : (j : ℕ) → j < n → get_or after j 0 ≡ get_or before j 0 + f (base + j)
  pub others : (j : ℕ) → n ≤ j → get_or after j 0 ≡ get_or before j 0

-- the counters of the first n addresses from base on, by these annex tables
pub record Stored (base n : ℕ) (ts : List Table) (mothers : List ℕ) : Type 0 where
  pub size : length mothers ≡ block_size
  pub stored : (j : ℕ) → j < n → get_or mothers j 0 ≡ mothers_of (base + j) ts
