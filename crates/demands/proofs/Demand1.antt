-- DEMAND 1. "Every call ends and stays inside the memory lent to it, for all input." Both are part of what the language proves of every function. Here: "Bad numbers,
-- lengths and requests are refused by a listed number, and a refused call changes no memory. Where numbers and lengths are good but the audit finds the memory
-- unsound, the four quick calls may answer as they like but write only their own table and queue; the slow calls refuse it."
use mathlib.Core.Path.{◌≡◌, refl, sym, ◌∙◌}
use mathlib.Core.Bool.{Bool, true, false, not, ◌&&◌}
use mathlib.Core.List.{List}
use Prim.Native.Nat.{ℕ, zero, suc, ◌+◌, ◌^◌}
use lib.Dec.{eqb}
use lib.ListN.{length}
use borrow.Author.Tests.{eq-eqb, ne_eqb}
use Rattle.lists.proofs.Tests.{no_true, test-true}
use Rattle.rules.specs.Record.{Filter, change, all_zero}
use Rattle.rules.specs.Refusals.{Test, refusal, record_right, slices_right}
use Rattle.rules.specs.Sound.{sound}
use Rattle.rules.specs.Calls.{Outcome, give, refused, asked, start_number, start}
use Rattle.rules.specs.Quick.{query_number, insert_number, take_number}
use Rattle.rules.specs.Slow.{audit, settle, double, double_number}
use Rattle.keeps.proofs.Refusals.{refusal-zero}
use Rattle.keeps.proofs.Refused.{settle-refused, double-refused, second-refused}
use Rattle.filter.specs.Promises.{Quick}
use Rattle.demands.specs.Results.{Starts, Inserts, Deletes, Rejuvenates, Settles, Doubles, Nothing}

-- ---- "a refused call changes no memory" (Query and Audit are lent their words to read only)

module _ (r : Filter) (main queue annex : List ℕ) where
  quick : (p : Outcome) (first : ℕ) (s : Bool) (o : Outcome) → Quick p first s r main queue annex o.number o.rec o.main o.queue o.annex → (o.number ≡ 0 → ⊥) → Nothing r main queue annex o
  quick p first s o q ne =
      record { same_record = q.refused_record ne; same_main = q.refused_main ne; same_queue = q.refused_queue ne; same_annex = q.kept_annex }

  pub insert-refused : (h : ℕ) (o : Outcome) → Inserts r main queue annex h o → (o.number ≡ 0 → ⊥) → Nothing r main queue annex o
  insert-refused h o = quick _ _ _ o

  pub delete-refused : (h : ℕ) (o : Outcome) → Deletes r main queue annex h o → (o.number ≡ 0 → ⊥) → Nothing r main queue annex o
  delete-refused h o = quick _ _ _ o

  pub rejuvenate-refused : (h : ℕ) (o : Outcome) → Rejuvenates r main queue annex h o → (o.number ≡ 0 → ⊥) → Nothing r main queue annex o
  rejuvenate-refused h o = quick _ _ _ o

  pub settle-refused-nothing : (o : Outcome) → Settles r main queue annex o → (o.number ≡ 0 → ⊥) → Nothing r main queue annex o
  settle-refused-nothing o l ne =
      let u = settle-refused r main queue annex (λ z. ne (l.number_is ∙ z)) in
      record {
        same_record = l.rec_is ∙ u.same_record;
        same_main = l.main_is ∙ u.same_main;
        same_queue = l.queue_is ∙ u.same_queue;
        same_annex = l.annex_is ∙ u.same_annex;
      }

  pub double-refused-nothing : (second : List ℕ) (o : Outcome) (second' : List ℕ) → Doubles r main queue annex second o second' → (o.number ≡ 0 → ⊥)
      → Nothing r main queue annex o × (second' ≡ second)
  double-refused-nothing second o second' d ne =
      let l = d.left in
      let z : (double r main queue annex (length second)).number ≡ 0 → ⊥ = λ z. ne (l.number_is ∙ z) in
      let u = double-refused r main queue annex (length second) z in (
        record {
          same_record = l.rec_is ∙ u.same_record;
          same_main = l.main_is ∙ u.same_main;
          same_queue = l.queue_is ∙ u.same_queue;
          same_annex = l.annex_is ∙ u.same_annex;
        },
        d.second_is ∙ second-refused r main queue annex second z,
      )

-- "(Start: an all-zero record)"
pub start-refused : (power f regime : ℕ) (main queue annex : List ℕ) (o : Outcome) → Starts power f regime main queue annex o → (o.number ≡ 0 → ⊥) → Nothing all_zero main queue annex o
start-refused power f regime main queue annex o l ne = go (start_number power f regime (length main)) refl
  where
    go : (n : ℕ) → start_number power f regime (length main) ≡ n → Nothing all_zero main queue annex o
    go zero e = absurd (ne (l.number_is ∙ (unfold start give in rw (e, give))))
    go (suc n) e =
        unfold start give refused in
        record {
          same_record = l.rec_is ∙ rw (e, give);
          same_main = l.main_is ∙ rw (e, give);
          same_queue = l.queue_is ∙ rw (e, give);
          same_annex = l.annex_is ∙ rw (e, give);
        }

-- ---- "Bad numbers, lengths .. are refused by a listed number": 2 and 3 come first in every call on a filter, whatever the words

module _ (r : Filter) (main queue annex : List ℕ) where
  abbrev Lengths : Bool
  Lengths = slices_right r (length main) (length queue) (length annex)

  asked-2 : (ts : List Test) → record_right r ≡ false → refusal (asked r main queue annex ts) ≡ 2
  unfolding asked refusal
  asked-2 ts e = rw (e, refusal)

  asked-3 : (ts : List Test) → record_right r ≡ true → slices_right r (length main) (length queue) (length annex) ≡ false → refusal (asked r main queue annex ts) ≡ 3
  unfolding asked refusal
  asked-3 ts e f = rw (e, f, refusal)

  pub bad-record : record_right r ≡ false → (h second : ℕ)
      → (query_number r main queue annex ≡ 2) × (insert_number r main queue annex ≡ 2) × (take_number r main queue annex h ≡ 2) × (audit r main queue annex ≡ 2) × (double_number r main queue annex second ≡ 2)
  unfolding query_number insert_number take_number audit double_number refusal
  bad-record e h second = (asked-2 _ e, asked-2 _ e, asked-2 _ e, asked-2 _ e, rw (e, refusal))

  pub bad-lengths : record_right r ≡ true → slices_right r (length main) (length queue) (length annex) ≡ false → (h : ℕ)
      → (query_number r main queue annex ≡ 3) × (insert_number r main queue annex ≡ 3) × (take_number r main queue annex h ≡ 3) × (audit r main queue annex ≡ 3)
  unfolding query_number insert_number take_number audit
  bad-lengths e f h = (asked-3 _ e f, asked-3 _ e f, asked-3 _ e f, asked-3 _ e f)

  -- Double asks 9 between them, and 3 of its second main too
  pub double-at-20 : record_right r ≡ true → r.k ≡ 20 → (second : ℕ) → double_number r main queue annex second ≡ 9
  unfolding double_number refusal
  double-at-20 e t second = rw (e, eq-eqb r.k 20 t, refusal)

  pub double-bad-lengths : record_right r ≡ true → (r.k ≡ 20 → ⊥) → (second : ℕ)
      → (slices_right r (length main) (length queue) (length annex) && eqb second (2 ^ (r.k + 1))) ≡ false → double_number r main queue annex second ≡ 3
  unfolding double_number refusal
  double-bad-lengths e t second f = rw (e, ne_eqb r.k 20 t, f, refusal)

  -- "the slow calls refuse it": 4
  pub unsound-refused : record_right r ≡ true → slices_right r (length main) (length queue) (length annex) ≡ true → sound r main queue annex ≡ false
      → (audit r main queue annex ≡ 4) × ((settle r main queue annex).number ≡ 4)
  unfolding audit asked refusal settle give refused
  unsound-refused e f s = (rw (e, f, s, refusal), rw (e, f, s, refusal, give))

  pub double-unsound : record_right r ≡ true → (r.k ≡ 20 → ⊥) → slices_right r (length main) (length queue) (length annex) ≡ true → (second : ℕ) → second ≡ 2 ^ (r.k + 1)
      → sound r main queue annex ≡ false → (double_number r main queue annex second ≡ 4) × ((double r main queue annex second).number ≡ 4)
  unfolding double_number refusal double give refused
  double-unsound e t f second g s =
      let l = eq-eqb second (2 ^ (r.k + 1)) g in
      (rw (e, ne_eqb r.k 20 t, f, l, s, refusal), rw (e, ne_eqb r.k 20 t, f, l, s, refusal, give))

  -- whatever the record, the lengths and the second main: by one number or another Double is refused
  pub double-unsound-refused : sound r main queue annex ≡ false → (second : ℕ) → double_number r main queue annex second ≡ 0 → ⊥
  unfolding double_number
  double-unsound-refused s second z =
      let a = refusal-zero (record_right r) 1 _ z in
      let b = refusal-zero (not (eqb r.k 20)) 8 _ a.1 in
      let c = refusal-zero (slices_right r (length main) (length queue) (length annex) && eqb second (2 ^ (r.k + 1))) 2 _ b.1 in
      let d = refusal-zero (sound r main queue annex) 3 _ c.1 in
      no_true (sym s ∙ test-true (sound r main queue annex) d.0)

  -- "the four quick calls .. write only their own table and queue": on any memory annex and settings stay (Query's contract says that it writes nothing)
  pub quick-writes : (p : Outcome) (first : ℕ) (s : Bool) (o : Outcome) → Quick p first s r main queue annex o.number o.rec o.main o.queue o.annex
      → (o.annex ≡ annex) × (o.rec ≡ change r r.k o.rec.used o.rec.queued r.dir)
  quick-writes p first s o q = (q.kept_annex, q.kept_settings)
