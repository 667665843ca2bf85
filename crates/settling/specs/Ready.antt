-- Document 01, "Refusal numbers and their order": "Audit and Settle 2, 3, 4." What the three tests leave of a record's numbers and the lent words, and what
-- Settle then leaves.
use Rattle.std.specs.Prelude.{ℕ, ◌≡◌, List, T, length}
use Rattle.directory.specs.declared.Place.{Place}
use Rattle.rules.specs.Record.{Filter, width}
use Rattle.rules.specs.Refusals.{record_right, slices_right}
use Rattle.rules.specs.Sound.{sound}
use Rattle.rules.specs.Calls.{Outcome}

-- these are the numbers of r
pub record Numbers (r : Filter) (k w used queued : ℕ) (places : List Place) : Type 0 where
  pub k_is : r.k ≡ k
  pub w_is : width r ≡ w
  pub used_is : r.used ≡ used
  pub queued_is : r.queued ≡ queued
  pub places_are : r.dir ≡ places

-- they are the numbers of a record for which none of 2, 3 and 4 is given
pub record Ready (k w used queued : ℕ) (places : List Place) (main queue annex : List ℕ) : Type 0 where
  pub r : Filter
  pub numbers : Numbers r k w used queued places
  pub record-right : T (record_right r)
  pub slices-right : T (slices_right r (length main) (length queue) (length annex))
  pub is_sound : T (sound r main queue annex)

-- the words and the numbers of an outcome
pub record Leaves (o : Outcome) (main annex : List ℕ) (used : ℕ) (places : List Place) : Type 0 where
  pub main_is : main ≡ o.main
  pub annex_is : annex ≡ o.annex
  pub used_is : used ≡ o.rec.used
  pub places_are : places ≡ o.rec.dir
