-- Document 01, "What the calls do", Settle: "find the longest stored mother hash whose b bits equal the low b bits of c. If none, go on. Otherwise remove it from
-- the annex".
use Rattle.std.specs.Prelude.{ℕ, ◌+◌, ◌%◌, ◌^◌, ◌≤◌, ◌<◌, ◌≡◌, Option, MatchOption, List, [], ◌++◌, T, length, get_or, set, drop}
use Rattle.lists.specs.Runs.{erase, at}
use Rattle.layout.specs.Decode.{decode}
use Rattle.directory.specs.declared.Place.{Place}
use Rattle.directory.specs.Places.{places_in_use, directory_right, words_taken}
use Rattle.rules.specs.Tables.{Table, hash_entry, matching, tables, table_words, place_of}
use Rattle.rules.specs.Sound.{annex_right}

abbrev pub no_table : Table
no_table = record { b = 0; s = 0; runs = [] }

-- a table of mother hashes of b bits, by its words
abbrev pub table_of : ℕ → ℕ → List ℕ → Table
table_of b s words = record { b = b; s = s; runs = decode words }

-- the tables of a directory
abbrev pub stored : List Place → List ℕ → List Table
stored places annex = tables (places_in_use places) annex

-- they are within the annex
pub record Placed (places : List Place) (annex : List ℕ) : Type 0 where
  pub directory : T (directory_right 20 places)
  pub long : words_taken (places_in_use places) ≤ length annex

-- no table from place i on has a mother hash that matches c
abbrev pub NoneFrom : ℕ → List Table → ℕ → Type 0
NoneFrom c ts i = (j : ℕ) → i ≤ j → j < length ts → matching c (get_or ts j no_table) ≡ 0

-- the place of the longest mother hash that matches c: the last table with a match, since lengths rise; or none, and no table has one
abbrev pub LongestAt : ℕ → List Table → Option ℕ → Type 0
LongestAt c ts o = MatchOption o (NoneFrom c ts 0) (λ i. (i < length ts) × (0 < matching c (get_or ts i no_table)) × NoneFrom c ts (i + 1))

-- the table without one mother hash that matches c
abbrev pub without : Table → ℕ → Table
without t c = record { b = t.b; s = t.s; runs = at (c % 2 ^ t.s) (erase (hash_entry t.b t.s (c % 2 ^ t.b))) t.runs }

-- a mother hash that matches c is in the table at place i, and all tables are right
pub record FoundAt (places : List Place) (annex : List ℕ) (i c : ℕ) : Type 0 where
  pub placed : Placed places annex
  pub right : T (annex_right (places_in_use places) annex)
  pub inside : i < length (places_in_use places)
  pub match : 0 < matching c (get_or (stored places annex) i no_table)

-- it is gone: the words and the directory of the tables that are left
pub record TakenAt (places : List Place) (annex : List ℕ) (i c : ℕ) (left : List ℕ) (dir : List Place) : Type 0 where
  pub words : left ≡ table_words (set (stored places annex) i (without (get_or (stored places annex) i no_table) c)) ++ drop (words_taken (places_in_use places)) annex
  pub counts : dir ≡ set places i (place_of (without (get_or (stored places annex) i no_table) c))
