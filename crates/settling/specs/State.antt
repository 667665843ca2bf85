-- Document 01, "What the calls do", Settle: ".. at each other address of the main table with those low b bits remove one void, if there is one. At the end all
-- tombstones go". What main and annex hold on the way, and what a step removes.
use Rattle.std.specs.Prelude.{ℕ, ◌+◌, ◌/◌, ◌%◌, ◌^◌, ◌≤◌, ◌<◌, ◌≡◌, cond, List, [], ◌∷◌, T, eqb, length, drop}
use Rattle.lists.specs.Lists.{every}
use Rattle.lists.specs.Runs.{Runs, rising, erase, at, total}
use Rattle.slots.specs.Numbers.{limit}
use Rattle.slots.specs.Payload.{tombstone}
use Rattle.layout.specs.Machine.{layout}
use Rattle.layout.specs.Decode.{decode}
use Rattle.directory.specs.declared.Place.{Place}
use Rattle.directory.specs.Places.{places_in_use, directory_right, words_taken}
use Rattle.rules.specs.Tables.{tables}
use Rattle.rules.specs.Sound.{table_right, main_entry, annex_right}
use Rattle.rules.specs.Settling.{Held}

-- what the words hold
abbrev pub held_in : List ℕ → List ℕ → List Place → Held
held_in main annex places = record { main = decode main; annex = tables (places_in_use places) annex }

-- main and annex are right, whatever the queue says
pub record Right (k w used : ℕ) (main annex : List ℕ) (places : List Place) : Type 0 where
  pub k_3 : 3 ≤ k
  pub k_20 : k ≤ 20
  pub w_1 : 1 ≤ w
  pub w_26 : w ≤ 26
  pub used_fits : used ≤ limit k
  pub main_long : length main ≡ 2 ^ k
  pub main-right : T (table_right (main_entry w k) used main)
  pub directory : T (directory_right k places)
  pub annex_long : words_taken (places_in_use places) ≤ length annex
  pub annex-right : T (annex_right (places_in_use places) annex)

-- .. and hold x; `rest` is what lies past the tables
pub record Holding (x : Held) (rest : List ℕ) (k w used : ℕ) (main annex : List ℕ) (places : List Place) : Type 0 where
  pub right : Right k w used main annex places
  pub holds : held_in main annex places ≡ x
  pub past : drop (words_taken (places_in_use places)) annex ≡ rest

-- words that were the layout of runs are the layout of what f leaves of them, `gone` entries less
pub record Lost (f : Runs → Runs) (before after : List ℕ) (gone : ℕ) : Type 0 where
  pub words : (runs : Runs) → before ≡ layout runs → total runs < length runs → T (every rising runs) → after ≡ layout (f runs)
  pub counted : (runs : Runs) → before ≡ layout runs → total runs < length runs → T (every rising runs) → gone + total (f runs) ≡ total runs

-- one tombstone goes for each even queue word, at the address that it names
unfoldable pub take_tombstones : ℕ → List ℕ → Runs → Runs
take_tombstones w [] runs = runs
take_tombstones w (q ∷ qs) runs = take_tombstones w qs (cond (eqb (q % 2) 0) (at (q / 2) (erase (tombstone w)) runs) runs)
