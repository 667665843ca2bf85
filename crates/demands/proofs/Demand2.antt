-- DEMAND 2. "On memory that the audit accepts, the slot words, queue, annex and record after each call, and its answer, are those of the paper's rules as document 01
-- fixes them. Decoding the table and laying it out again gives the same words." Each contract gives the first sentence, and keeping soundness the second.
use mathlib.Core.Path.{◌≡◌, sym, ap}
use mathlib.Core.List.{List, []}
use Prim.Native.Nat.{ℕ, ◌*◌, ◌^◌}
use lib.ListN.{length}
use borrow.Author.Tests.{eq-eqb, le-leb}
use Rattle.layout.specs.Machine.{layout}
use Rattle.layout.specs.Decode.{decode}
use Rattle.layout.specs.Bytes.{words_of}
use Rattle.rules.specs.Record.{Filter, width}
use Rattle.rules.specs.Refusals.{refusal}
use Rattle.rules.specs.Calls.{Outcome, start}
use Rattle.rules.specs.Quick.{matches_in, query_number, query, insert, delete, rejuvenate}
use Rattle.rules.specs.Slow.{audit, settle, double, second_main}
use Rattle.rules.specs.Lookups.{bytes_number, answer_in, query_bytes}
use Rattle.keeps.proofs.State.{fine}
use Rattle.keeps.proofs.Bounds.{bounds}
use Rattle.keeps.proofs.Refusals.{asked-zero}
use Rattle.keeps.proofs.Audits.{audit-good, good-audit}
use Rattle.keeps.proofs.Done.{insert-good, delete-good, rejuvenate-good}
use Rattle.keeps.proofs.Settle.{settle-good}
use Rattle.keeps.proofs.Doubled.{double-good}
use Rattle.keeps.proofs.Start.{start-good}
use Rattle.filter.specs.Promises.{Leaves}
use Rattle.demands.specs.Results.{Starts, Inserts, Deletes, Rejuvenates, Settles, Doubles}

-- an outcome whose five parts are those of another is that one
pub same : (o p : Outcome) → Leaves p o.number o.rec o.main o.queue o.annex → o ≡ p
same o p l = λ i. record { number = l.number_is i; rec = l.rec_is i; main = l.main_is i; queue = l.queue_is i; annex = l.annex_is i }

-- ---- "the slot words, queue, annex and record after each call, and its answer, are those of the paper's rules"

module _ (r : Filter) (main queue annex : List ℕ) where
  -- the quick calls, on memory that the audit accepts (the contracts of Query and Audit are the rule itself, on any memory)
  pub insert-by-rule : audit r main queue annex ≡ 0 → (h : ℕ) (o : Outcome) → Inserts r main queue annex h o → o ≡ insert r main queue annex h
  insert-by-rule a h o q = same o _ (q.determined (audit-good r main queue annex a).is_sound)

  pub delete-by-rule : audit r main queue annex ≡ 0 → (h : ℕ) (o : Outcome) → Deletes r main queue annex h o → o ≡ delete r main queue annex h
  delete-by-rule a h o q = same o _ (q.determined (audit-good r main queue annex a).is_sound)

  pub rejuvenate-by-rule : audit r main queue annex ≡ 0 → (h : ℕ) (o : Outcome) → Rejuvenates r main queue annex h o → o ≡ rejuvenate r main queue annex h
  rejuvenate-by-rule a h o q = same o _ (q.determined (audit-good r main queue annex a).is_sound)

  -- the slow calls, on any memory
  pub settle-by-rule : (o : Outcome) → Settles r main queue annex o → o ≡ settle r main queue annex
  settle-by-rule o l = same o _ l

  pub double-by-rule : (second : List ℕ) (o : Outcome) (second' : List ℕ) → Doubles r main queue annex second o second'
      → (o ≡ double r main queue annex (length second)) × (second' ≡ second_main r main queue annex second)
  double-by-rule second o second' d = (same o _ d.left, d.second_is)

pub start-by-rule : (power f regime : ℕ) (main queue annex : List ℕ) (o : Outcome) → Starts power f regime main queue annex o → o ≡ start power f regime main queue annex
start-by-rule power f regime main queue annex o l = same o _ l

-- ---- "asks Query with k, W and those bytes through an exported function that also takes the hash; the answer is the same"

-- a record that Query accepts has k and W in the range that the exported Query asks for
bytes-accepted : (r : Filter) (main queue annex bytes : List ℕ) → query_number r main queue annex ≡ 0 → length bytes ≡ 4 * 2 ^ r.k → bytes_number r.k (width r) (length bytes) ≡ 0
unfolding query_number bytes_number refusal
bytes-accepted r main queue annex bytes z l =
    let b = bounds r (asked-zero r main queue annex [] z).0 in
    rw (le-leb 3 r.k b.k_3, le-leb r.k 20 b.k_20, le-leb 4 (width r) b.width_4, le-leb (width r) 26 b.width_26, eq-eqb (length bytes) (4 * 2 ^ r.k) l, refusal)

pub bytes_same : (r : Filter) (main queue annex bytes : List ℕ) → query_number r main queue annex ≡ 0 → length bytes ≡ 4 * 2 ^ r.k → words_of bytes ≡ main
    → (h : ℕ) → query_bytes r.k (width r) bytes h ≡ query r main queue annex h
unfolding query_bytes answer_in query matches_in
bytes_same r main queue annex bytes z l e h =
    rw (bytes-accepted r main queue annex bytes z l, z, query_bytes, query) (ap (λ (words : List ℕ). answer_in r.k (width r) words h) e)

-- ---- "Decoding the table and laying it out again gives the same words."

pub decoded : (r : Filter) (main queue annex : List ℕ) → audit r main queue annex ≡ 0 → layout (decode main) ≡ main
decoded r main queue annex a = sym (fine r main queue annex (audit-good r main queue annex a)).table.laid

-- what an accepted call leaves is accepted by the audit, so that the same holds there

abbrev Audited : Outcome → Type 0
Audited o = audit o.rec o.main o.queue o.annex ≡ 0

pub start-audited : (power f regime : ℕ) (main queue annex : List ℕ) → (start power f regime main queue annex).number ≡ 0 → Audited (start power f regime main queue annex)
start-audited power f regime main queue annex z = good-audit _ _ _ _ (start-good power f regime main queue annex z)

module _ (r : Filter) (main queue annex : List ℕ) where
  pub insert-audited : audit r main queue annex ≡ 0 → (h : ℕ) → (insert r main queue annex h).number ≡ 0 → Audited (insert r main queue annex h)
  insert-audited a h z = good-audit _ _ _ _ (insert-good r main queue annex h (audit-good r main queue annex a) z)

  pub delete-audited : audit r main queue annex ≡ 0 → (h : ℕ) → (delete r main queue annex h).number ≡ 0 → Audited (delete r main queue annex h)
  delete-audited a h z = good-audit _ _ _ _ (delete-good r main queue annex h (audit-good r main queue annex a) z)

  pub rejuvenate-audited : audit r main queue annex ≡ 0 → (h : ℕ) → (rejuvenate r main queue annex h).number ≡ 0 → Audited (rejuvenate r main queue annex h)
  rejuvenate-audited a h z = good-audit _ _ _ _ (rejuvenate-good r main queue annex h (audit-good r main queue annex a) z)

  -- Settle and Double are accepted on sound memory only
  pub settle-audited : (settle r main queue annex).number ≡ 0 → Audited (settle r main queue annex)
  settle-audited z = good-audit _ _ _ _ (settle-good r main queue annex z)

  pub double-audited : (second : List ℕ) → (double r main queue annex (length second)).number ≡ 0
      → audit (double r main queue annex (length second)).rec (second_main r main queue annex second) (double r main queue annex (length second)).queue (double r main queue annex (length second)).annex ≡ 0
  double-audited second z = good-audit _ _ _ _ (double-good r main queue annex second z)
