-- Document 01, "Numbers": "The record of a filter holds k, start power, F, regime, used count, queue length and the annex directory."
use Rattle.std.specs.Prelude.{ℕ, ◌+◌, ◌-◌, List, replicate}
use Rattle.slots.specs.Numbers.{extra}
use Rattle.directory.specs.declared.Place.{Place}
use Rattle.directory.specs.Places.{no_place, places_in_use, words_taken}

pub record Filter : Type 0 where
  pub k : ℕ
  pub start : ℕ
  pub f : ℕ
  pub regime : ℕ
  pub used : ℕ
  pub queued : ℕ
  pub dir : List Place

abbrev pub all_zero : Filter
all_zero = record { k = 0; start = 0; f = 0; regime = 0; used = 0; queued = 0; dir = replicate 15 no_place }

-- the record with new k, used count, queue length and directory
unfoldable pub change : Filter → ℕ → ℕ → ℕ → List Place → Filter
change r k used queued dir =
    record { k = k; start = r.start; f = r.f; regime = r.regime; used = used; queued = queued; dir = dir }

-- "Generation X = k less the start power." "Fresh fingerprints have F plus extra bits": in a table of 2^k slots
unfoldable pub fresh_at : Filter → ℕ → ℕ
fresh_at r k = r.f + extra r.regime (k - r.start)

-- "W is the fresh length plus 1"
unfoldable pub width_at : Filter → ℕ → ℕ
width_at r k = fresh_at r k + 1

abbrev pub fresh : Filter → ℕ
fresh r = fresh_at r r.k

abbrev pub width : Filter → ℕ
width r = width_at r r.k

-- the places in use, and the words of their tables
abbrev pub in_use : Filter → List Place
in_use r = places_in_use r.dir

abbrev pub annex_used : Filter → ℕ
annex_used r = words_taken (in_use r)
