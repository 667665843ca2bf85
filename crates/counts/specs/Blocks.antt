-- Document 01, "What the calls do": "each address has as many tombstones .. and its voids number ..": the addresses in blocks.
use Rattle.std.specs.Prelude.{ℕ, ◌+◌, ◌<◌, ◌≡◌, Bool, ◌&&◌, Option, is_some, IfSome, List, length, drop}
use Rattle.lists.specs.Lists.{every, map_at}
use Rattle.lists.specs.Runs.{Runs}
use Rattle.layout.specs.Document.{carry}
use Rattle.directory.specs.declared.Place.{Place}
use Rattle.directory.specs.Places.{places_in_use}
use Rattle.rules.specs.Tables.{tables}
use Rattle.rules.specs.Sound.{address_right}
use Rattle.tallies.specs.Tally.{block_size}

-- the test of an address and its run, by the queue words and the annex tables in use
abbrev pub address_test : ℕ → List Place → List ℕ → List ℕ → ℕ → List ℕ → Bool
address_test w places annex queue = address_right w (tables (places_in_use places) annex) queue

-- the test holds of the addresses from c on
unfoldable pub right_from : (ℕ → List ℕ → Bool) → ℕ → Runs → Bool
right_from f c runs = every (λ (b : Bool). b) (map_at f c (drop c runs))

-- the block from base on is good if there is a next: what is right of all is then right of those behind it, and so many entries wait on arrival at the
-- first of them
pub record Block (f : ℕ → List ℕ → Bool) (runs : Runs) (base : ℕ) (next : Option ℕ) : Type 0 where
  pub splits : right_from f base runs ≡ (is_some next && right_from f (base + block_size) runs)
  pub onward : IfSome next (λ k. base + block_size < length runs → k ≡ carry runs (base + block_size))
