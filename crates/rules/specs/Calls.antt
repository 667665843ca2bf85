-- Document 01, "Refusal numbers and their order": "A refused call returns its number and the record as given .., and all lent words keep their values. Success is
-- 0". What every call leaves, and Start: "Start 11, 3", "(Start: an all-zero record)", "Start empties the main table and returns a record with k the start power,
-- used and queue length 0 and no annex tables."
use Rattle.std.specs.Prelude.{ℕ, zero, suc, ◌^◌, List, [], ◌∷◌, length, replicate, eqb}
use Rattle.directory.specs.Places.{no_place}
use Rattle.rules.specs.Record.{Filter, all_zero}
use Rattle.rules.specs.Refusals.{Test, refusal, settings_right, record_right, slices_right}

-- what a call leaves: its number, the record, and the lent words
pub record Outcome : Type 0 where
  pub number : ℕ
  pub rec : Filter
  pub main : List ℕ
  pub queue : List ℕ
  pub annex : List ℕ

-- what is done where the number is 0, and the refusal otherwise
unfoldable pub give : ℕ → Outcome → Outcome → Outcome
give zero done refused = done
give (suc n) done refused = refused

module _ (r : Filter) (main queue annex : List ℕ) where
  unfoldable pub refused : ℕ → Outcome
  refused n = record { number = n; rec = r; main = main; queue = queue; annex = annex }

  -- 2 and 3, the first tests of every call but Start and Double, and then the others
  unfoldable pub asked : List Test → List Test
  asked ts =
      record { right = record_right r; number = 2 }
      ∷ record { right = slices_right r (length main) (length queue) (length annex); number = 3 }
      ∷ ts

-- START
unfoldable pub start_number : ℕ → ℕ → ℕ → ℕ → ℕ
start_number power f regime main =
    refusal (record { right = settings_right power f regime; number = 11 } ∷ record { right = eqb main (2 ^ power); number = 3 } ∷ [])

unfoldable pub started : ℕ → ℕ → ℕ → Filter
started power f regime =
    record { k = power; start = power; f = f; regime = regime; used = 0; queued = 0; dir = replicate 15 no_place }

unfoldable pub start : ℕ → ℕ → ℕ → List ℕ → List ℕ → List ℕ → Outcome
start power f regime main queue annex =
    give (start_number power f regime (length main))
    (record { number = 0; rec = started power f regime; main = replicate (2 ^ power) 0; queue = queue; annex = annex })
    (refused all_zero main queue annex (start_number power f regime (length main)))
