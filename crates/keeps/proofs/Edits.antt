-- One run is changed and at most one queue word is added: what the quick calls do. The other addresses keep their runs, and no new word names them.
use mathlib.Core.Path.{◌≡◌, refl, sym, ap, ◌∙◌, subst}
use mathlib.Core.List.{List, [], ◌∷◌, ◌++◌}
use Prim.Native.Nat.{ℕ, ◌+◌, ◌-◌, ◌*◌, ◌/◌, ◌^◌, ◌≤◌, ◌<◌}
use native.Mathlib.Omega.{arith}
use native.Mathlib.Numerals.{add-one}
use native.Mathlib.Decide.{ℕ_discrete}
use lib.Dec.{T}
use lib.ListN.{length, get_or, set, take, length-set}
use lib.Seq.{get_or-set_same, get_or-set_other, take-suc-set}
use Rattle.lists.specs.Runs.{Runs, count, total}
use Rattle.lists.proofs.Tests.{is, is-yes, is-no}
use Rattle.lists.proofs.Alls.{All, all_set, all_snoc}
use Rattle.lists.proofs.RunLaws.{Rises, total-set, count-append}
use Rattle.slots.specs.Numbers.{limit}
use Rattle.slots.specs.Payload.{void, tombstone}
use Rattle.slots.proofs.NumberLaws.{limit-lt}
use Rattle.layout.specs.Machine.{layout}
use Rattle.rules.specs.Record.{Filter, change, width, fresh_at, width_at, in_use}
use Rattle.rules.specs.Tables.{tables, mothers_of}
use Rattle.rules.specs.Sound.{main_entry, naming}
use Rattle.keeps.proofs.Holds.{laid_out}
use Rattle.keeps.proofs.State.{Address, Fine}

-- the queue gains a word
pub naming-append : (d : ℕ) (ws : List ℕ) (x : ℕ) → naming d (ws ++ x ∷ []) ≡ naming d ws + is d (x / 2)
unfolding naming count
naming-append d [] x = omega arith
naming-append d (w ∷ ws) x = omega (arith, naming-append d ws x)

module _ (r : Filter) (main queue annex : List ℕ) (runs : Runs) (v : Fine r main queue annex runs) (c : ℕ) (h : c < 2 ^ r.k) (run : List ℕ) (u : ℕ) where
  -- a queue of n words that count
  pub edited : (n : ℕ) (queue' : List ℕ) → Rises run → All (λ p. T (main_entry (width r) r.k p)) run
      → u + length (get_or runs c []) ≡ r.used + length run → u ≤ limit r.k
      → n ≤ 2 ^ 20 → n ≤ length queue' → All (λ w. w / 2 < 2 ^ r.k) (take n queue')
      → Address (width r) (tables (in_use r) annex) (take n queue') c run
      → ((d : ℕ) → (d ≡ c → ⊥) → (count (d * 2) (take n queue') ≡ count (d * 2) (take r.queued queue)) × (naming d (take n queue') ≡ naming d (take r.queued queue)))
      → Fine (change r r.k u n r.dir) (layout (set runs c run)) queue' annex (set runs c run)
  unfolding change fresh_at width_at
  edited n queue' ri pa eu fu n1 n2 qr ad others =
      let lt : c < length runs = omega (arith, v.table.size) in
      let tot : total (set runs c run) ≡ u = omega (arith, total-set runs c run lt, v.table.counted) in
      let t = laid_out (main_entry (width r) r.k) r.k (set runs c run) (length-set runs c run ∙ v.table.size) (omega (arith, limit-lt r.k))
      (all_set Rises runs c run v.table.rises ri) (all_set (All (λ p. T (main_entry (width r) r.k p))) runs c run v.table.passes pa) in
      record {
        settings = v.settings;
        low_k = v.low_k;
        high_k = v.high_k;
        used_fits = fu;
        queue_fits = n1;
        queue_long = n2;
        places = v.places;
        zeros = v.zeros;
        annex_long = v.annex_long;
        annex-right = v.annex-right;
        table = record { size = t.size; held = t.held; laid = t.laid; rises = t.rises; passes = t.passes; counted = tot; room = t.room };
        queue-right = qr;
        address = λ d hd. at d hd (ℕ_discrete d c);
      }
    where
      at : (d : ℕ) → d < 2 ^ r.k → Dec (d ≡ c) → Address (width r) (tables (in_use r) annex) (take n queue') d (get_or (set runs c run) d [])
      at d hd (yes e) =
          subst (λ (x : ℕ). Address (width r) (tables (in_use r) annex) (take n queue') x (get_or (set runs c run) x [])) (sym e)
          (subst (λ (l : List ℕ). Address (width r) (tables (in_use r) annex) (take n queue') c l) (sym (get_or-set_same runs c run [] (omega (arith, v.table.size)))) ad)
      at d hd (no e) =
          let a = v.address d hd in
          let o = others d e in
          subst (λ (l : List ℕ). Address (width r) (tables (in_use r) annex) (take n queue') d l) (sym (get_or-set_other runs c d run [] e))
          (record { tombstones = a.tombstones ∙ sym o.0; voids = a.voids ∙ ap (λ m. mothers_of d (tables (in_use r) annex) - m) (sym o.1) })

  -- the queue as it was
  pub edited-only : Rises run → All (λ p. T (main_entry (width r) r.k p)) run
      → u + length (get_or runs c []) ≡ r.used + length run → u ≤ limit r.k
      → count (tombstone (width r)) run ≡ count (tombstone (width r)) (get_or runs c []) → count (void (width r)) run ≡ count (void (width r)) (get_or runs c [])
      → Fine (change r r.k u r.queued r.dir) (layout (set runs c run)) queue annex (set runs c run)
  edited-only ri pa eu fu ct cv =
      let a = v.address c h in
      edited r.queued queue ri pa eu fu v.queue_fits v.queue_long v.queue-right
      (record { tombstones = ct ∙ a.tombstones; voids = cv ∙ a.voids }) (λ d ne. (refl, refl))

  -- one word more, which names c
  pub edited-queue : (x : ℕ) → x / 2 ≡ c → r.queued < 2 ^ 20 → r.queued < length queue → Rises run → All (λ p. T (main_entry (width r) r.k p)) run
      → u + length (get_or runs c []) ≡ r.used + length run → u ≤ limit r.k
      → count (tombstone (width r)) run ≡ count (tombstone (width r)) (get_or runs c []) + is (c * 2) x
      → count (void (width r)) run ≡ count (void (width r)) (get_or runs c []) - 1
      → Fine (change r r.k u (r.queued + 1) r.dir) (layout (set runs c run)) (set queue r.queued x) annex (set runs c run)
  edited-queue x ex n1 n2 ri pa eu fu ct cv =
      let a = v.address c h in
      edited (r.queued + 1) (set queue r.queued x) ri pa eu fu (omega arith) (omega (arith, length-set queue r.queued x))
      (subst (All (λ w. w / 2 < 2 ^ r.k)) (sym snoc) (all_snoc (λ w. w / 2 < 2 ^ r.k) (take r.queued queue) x v.queue-right (omega arith)))
      (record {
        tombstones = omega (arith, a.tombstones, ct, ap (count (c * 2)) snoc, count-append (c * 2) (take r.queued queue) (x ∷ []), count-one (c * 2));
        voids = cv ∙ omega (arith, a.voids, ap (naming c) snoc, naming-append c (take r.queued queue) x, is-yes c (x / 2) (sym ex));
      })
      (λ d ne. (
        omega (arith, ap (count (d * 2)) snoc, count-append (d * 2) (take r.queued queue) (x ∷ []), count-one (d * 2), is-no (d * 2) x (λ e. ne (omega arith))),
        omega (arith, ap (naming d) snoc, naming-append d (take r.queued queue) x, is-no d (x / 2) (λ e. ne (omega arith))),
      ))
    where
      snoc : take (r.queued + 1) (set queue r.queued x) ≡ take r.queued queue ++ x ∷ []
      snoc = ap (λ m. take m (set queue r.queued x)) (add-one r.queued) ∙ take-suc-set queue r.queued x n2

      count-one : (d : ℕ) → count d (x ∷ []) ≡ is d x
      count-one d = unfold count in omega arith
