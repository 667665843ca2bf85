-- Document 01, "What the calls do": Query, Insert, Delete, Rejuvenate. "Order: .. Query 2, 3. Insert 2, 3, 5. Delete and Rejuvenate 2, 3, 6, 7 (7 only where a void
-- would change)."
use Rattle.std.specs.Prelude.{ℕ, zero, suc, ◌+◌, ◌-◌, ◌*◌, ◌^◌, Bool, true, false, not, ◌&&◌, ◌||◌, List, [], ◌∷◌, length, get_or, set, ltb, eqb}
use Rattle.lists.specs.Lists.{bit}
use Rattle.lists.specs.Runs.{Runs, add, erase, hits, at}
use Rattle.slots.specs.Numbers.{limit}
use Rattle.slots.specs.Payload.{void, tombstone, length_of, canonical_slot, matches, fresh_payload}
use Rattle.layout.specs.Machine.{layout}
use Rattle.layout.specs.Decode.{decode, run_at}
use Rattle.rules.specs.Record.{Filter, change, fresh, width}
use Rattle.rules.specs.Refusals.{refusal}
use Rattle.rules.specs.Calls.{Outcome, give, refused, asked}

-- the canonical slot of a hash, and its fresh entry
abbrev pub home : Filter → ℕ → ℕ
home r h = canonical_slot r.k h

abbrev pub fresh_entry : Filter → ℕ → ℕ
fresh_entry r h = fresh_payload (width r) (fresh r) r.k h

-- the entries of the run of h that match it, the longest first: in a rising run longer fingerprints come first
unfoldable pub matches_in : Filter → List ℕ → ℕ → List ℕ
matches_in r main h = hits (matches (width r) r.k h) (run_at main (home r h))

-- the longest match, if there is one
unfoldable pub best : Filter → List ℕ → ℕ → ℕ
best r main h = get_or (matches_in r main h) 0 (tombstone (width r))

abbrev pub matched : Filter → List ℕ → ℕ → Bool
matched r main h = ltb 0 (length (matches_in r main h))

abbrev pub best_is_void : Filter → List ℕ → ℕ → Bool
best_is_void r main h = eqb (best r main h) (void (width r))

-- number 7: "the queue is full (its length is 2^20 or the number of words lent)"
abbrev pub queue_full : Filter → List ℕ → Bool
queue_full r queue = eqb r.queued (2 ^ 20) || eqb r.queued (length queue)

-- entry p of address c becomes entry q
abbrev pub swap : ℕ → ℕ → ℕ → Runs → Runs
swap c p q runs = at c (λ run. add q (erase p run)) runs

module _ (r : Filter) (main queue annex : List ℕ) where
  -- QUERY: "yes exactly if an entry of the run matches". "Query answers 0 no, 1 yes."
  unfoldable pub query_number : ℕ
  query_number = refusal (asked r main queue annex [])

  unfoldable pub query : ℕ → ℕ
  query h = elim query_number [ zero ↦ bit (matched r main h) | suc n ↦ suc n ]

  -- INSERT: "adds a fresh entry"
  unfoldable pub insert_number : ℕ
  insert_number = refusal (asked r main queue annex (record { right = not (eqb r.used (limit r.k)); number = 5 } ∷ []))

  unfoldable pub inserted : ℕ → Outcome
  inserted h =
      record {
        number = 0;
        rec = change r r.k (r.used + 1) r.queued r.dir;
        main = layout (at (home r h) (add (fresh_entry r h)) (decode main));
        queue = queue;
        annex = annex;
      }

  unfoldable pub insert : ℕ → Outcome
  insert h = give insert_number (inserted h) (refused r main queue annex insert_number)

  -- the numbers of Delete and Rejuvenate
  unfoldable pub take_number : ℕ → ℕ
  take_number h =
      refusal
      (asked r main queue annex
      (record { right = matched r main h; number = 6 }
      ∷ record { right = not (best_is_void r main h && queue_full r queue); number = 7 }
      ∷ []))

  -- DELETE: "takes the longest match. One with bits is removed. A void becomes a tombstone and the queue gains canonical slot times 2."
  unfoldable pub deleted : ℕ → Outcome
  deleted h =
      elim (best_is_void r main h) [
        | true ↦ record {
          number = 0;
          rec = change r r.k r.used (r.queued + 1) r.dir;
          main = layout (swap (home r h) (void (width r)) (tombstone (width r)) (decode main));
          queue = set queue r.queued (home r h * 2);
          annex = annex;
        }
        | false ↦ record {
          number = 0;
          rec = change r r.k (r.used - 1) r.queued r.dir;
          main = layout (at (home r h) (erase (best r main h)) (decode main));
          queue = queue;
          annex = annex;
        }
      ]

  unfoldable pub delete : ℕ → Outcome
  delete h = give (take_number h) (deleted h) (refused r main queue annex (take_number h))

  -- REJUVENATE: "the longest match, if shorter than the fresh length, becomes a fresh entry of this hash; otherwise nothing changes. If it was void, the queue
  -- gains canonical slot times 2, plus 1."
  unfoldable pub rejuvenated : ℕ → Outcome
  rejuvenated h =
      elim (ltb (length_of (width r) (best r main h)) (fresh r)) [
        | true ↦ record {
          number = 0;
          rec = change r r.k r.used (r.queued + bit (best_is_void r main h)) r.dir;
          main = layout (swap (home r h) (best r main h) (fresh_entry r h) (decode main));
          queue = elim (best_is_void r main h) [ true ↦ set queue r.queued (home r h * 2 + 1) | false ↦ queue ];
          annex = annex;
        }
        | false ↦ refused r main queue annex 0
      ]

  unfoldable pub rejuvenate : ℕ → Outcome
  rejuvenate h = give (take_number h) (rejuvenated h) (refused r main queue annex (take_number h))
