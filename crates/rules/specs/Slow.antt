-- Document 01, "What the calls do": Audit, Settle, Double. "Order: .. Audit and Settle 2, 3, 4. Double 2, 9, 3, 4, 8, 10."
use Rattle.std.specs.Prelude.{ℕ, zero, suc, ◌+◌, ◌^◌, Bool, not, ◌&&◌, ◌||◌, List, [], ◌∷◌, ◌++◌, map, length, take, drop, leb, eqb}
use Rattle.lists.specs.Runs.{Runs, total}
use Rattle.layout.specs.Machine.{layout}
use Rattle.layout.specs.Decode.{decode}
use Rattle.directory.specs.declared.Place.{Place}
use Rattle.directory.specs.Places.{trim, fifteen}
use Rattle.rules.specs.Record.{Filter, change, width, width_at, in_use, annex_used}
use Rattle.rules.specs.Refusals.{refusal, record_right, slices_right}
use Rattle.rules.specs.Tables.{tables, table_words, place_of}
use Rattle.rules.specs.Sound.{sound}
use Rattle.rules.specs.Settling.{Held, settle_all, no_tombstones}
use Rattle.rules.specs.Doubling.{doubled, new_hashes, size_for, table_of}
use Rattle.rules.specs.Calls.{Outcome, give, refused, asked}

module _ (r : Filter) (main queue annex : List ℕ) where
  -- AUDIT: "0 exactly if the state is sound"
  unfoldable pub audit : ℕ
  audit = refusal (asked r main queue annex (record { right = sound r main queue annex; number = 4 } ∷ []))

  -- SETTLE: ".. the queue length is 0, and empty tables at the end of the directory are dropped so that their room is used again." "queue words past the new
  -- length and annex words past the tables keep their values, but a table emptied by Settle is zero."
  unfoldable pub held_after : Held
  held_after = settle_all (width r) (take r.queued queue) (record { main = decode main; annex = tables (in_use r) annex })

  unfoldable pub settled : Held → Outcome
  settled x =
      let runs = no_tombstones (width r) x.main in
      record {
        number = 0;
        rec = change r r.k (total runs) 0 (fifteen (trim (map place_of x.annex)));
        main = layout runs;
        queue = queue;
        annex = table_words x.annex ++ drop (annex_used r) annex;
      }

  unfoldable pub settle : Outcome
  settle = give audit (settled held_after) (refused r main queue annex audit)

  -- DOUBLE, in which the second main has `second` words
  unfoldable pub hashes : List ℕ
  hashes = new_hashes (width r) r.k 0 (decode main)

  -- number 10: "the new annex table doesn't fit after the tables in use"
  unfoldable pub room_for : List ℕ → Bool
  room_for ms = eqb (length ms) 0 || leb (annex_used r + 2 ^ size_for (length ms)) (length annex)

  unfoldable pub double_number : ℕ → ℕ
  double_number second =
      refusal
      (record { right = record_right r; number = 2 }
      ∷ record { right = not (eqb r.k 20); number = 9 }
      ∷ record { right = slices_right r (length main) (length queue) (length annex) && eqb second (2 ^ (r.k + 1)); number = 3 }
      ∷ record { right = sound r main queue annex; number = 4 }
      ∷ record { right = eqb r.queued 0; number = 8 }
      ∷ record { right = room_for hashes; number = 10 }
      ∷ [])

  -- "The new main is written to a second lent slice at the new width and the old one is left unchanged."
  unfoldable pub doubled_runs : Runs
  doubled_runs = doubled (width r) (width_at r (r.k + 1)) (decode main)

  unfoldable pub second_main : List ℕ → List ℕ
  second_main second = elim (double_number (length second)) [ zero ↦ layout doubled_runs | suc n ↦ second ]

  -- the annex and the directory with the table of the new mother hashes, if there are any
  unfoldable pub more_annex : List ℕ → List ℕ
  more_annex [] = annex
  more_annex (m ∷ ms) =
      let s = size_for (length (m ∷ ms)) in
      take (annex_used r) annex ++ layout (table_of (r.k + 1) s (m ∷ ms)) ++ drop (annex_used r + 2 ^ s) annex

  unfoldable pub more_dir : List ℕ → List Place
  more_dir [] = r.dir
  more_dir (m ∷ ms) =
      fifteen (in_use r ++ (record { b = r.k + 1; s = size_for (length (m ∷ ms)); count = length (m ∷ ms) } ∷ []))

  unfoldable pub doubled_outcome : Outcome
  doubled_outcome =
      record {
        number = 0;
        rec = change r (r.k + 1) (total doubled_runs) 0 (more_dir hashes);
        main = main;
        queue = queue;
        annex = more_annex hashes;
      }

  unfoldable pub double : ℕ → Outcome
  double second = give (double_number second) doubled_outcome (refused r main queue annex (double_number second))
