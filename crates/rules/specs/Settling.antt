-- Document 01, "What the calls do", Settle: "handles queue words first to last. For address c, find the longest stored mother hash whose b bits equal the low b
-- bits of c. If none, go on. Otherwise remove it from the annex, and at each other address of the main table with those low b bits remove one void, if there is
-- one. At the end all tombstones go".
use Rattle.std.specs.Prelude.{ℕ, zero, suc, ◌/◌, ◌%◌, ◌^◌, true, false, not, ◌&&◌, List, [], ◌∷◌, map, ltb, eqb}
use Rattle.lists.specs.Lists.{map_at}
use Rattle.lists.specs.Runs.{Runs, erase, erase_all, at}
use Rattle.slots.specs.Payload.{void, tombstone}
use Rattle.rules.specs.Tables.{Table, hash_entry, matching}

-- what main and annex hold
pub record Held : Type 0 where
  pub main : Runs
  pub annex : List Table

-- the length of the longest stored mother hash that matches c, or 0 if there is none; lengths rise, so a later table's is longer
unfoldable pub longest : ℕ → List Table → ℕ
longest c [] = 0
longest c (t ∷ ts) = elim (longest c ts) [ zero ↦ elim (ltb 0 (matching c t)) [ true ↦ t.b | false ↦ 0 ] | suc n ↦ suc n ]

-- the mother hash of length b that matches c is removed
unfoldable pub take_hash : ℕ → ℕ → List Table → List Table
take_hash b c [] = []
take_hash b c (t ∷ ts) =
    elim (eqb b t.b) [
      | true ↦ record { b = t.b; s = t.s; runs = at (c % 2 ^ t.s) (erase (hash_entry b t.s (c % 2 ^ b))) t.runs } ∷ ts
      | false ↦ t ∷ take_hash b c ts
    ]

-- one void is removed at each address but c with the low b bits of c
unfoldable pub take_voids : ℕ → ℕ → ℕ → Runs → Runs
take_voids w c b runs =
    map_at (λ d run. elim (not (eqb d c) && eqb (d % 2 ^ b) (c % 2 ^ b)) [ true ↦ erase (void w) run | false ↦ run ]) 0 runs

-- a queue word that names c, where b is the length of the longest match, or 0
unfoldable pub settle_found : ℕ → ℕ → ℕ → Held → Held
settle_found w c zero x = x
settle_found w c (suc b) x = record { main = take_voids w c (suc b) x.main; annex = take_hash (suc b) c x.annex }

unfoldable pub settle_word : ℕ → ℕ → Held → Held
settle_word w c x = settle_found w c (longest c x.annex) x

-- the queue words, first to last
unfoldable pub settle_all : ℕ → List ℕ → Held → Held
settle_all w [] x = x
settle_all w (q ∷ qs) x = settle_all w qs (settle_word w (q / 2) x)

unfoldable pub no_tombstones : ℕ → Runs → Runs
no_tombstones w runs = map (erase_all (tombstone w)) runs
