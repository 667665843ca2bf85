-- Delete, on each way out: what it changed is what the definition changes wherever the state is sound.
use mathlib.Core.Path.{◌≡◌, refl, sym, ap, ap₂, ◌∙◌, subst}
use mathlib.Core.Bool.{Bool, true, false}
use mathlib.Core.List.{List, []}
use Prim.Native.Nat.{ℕ, zero, suc, ◌+◌, ◌-◌, ◌*◌, ◌<◌}
use native.Mathlib.Omega.{arith}
use lib.Dec.{T}
use lib.ListN.{length, get_or, set}
use borrow.Author.Tests.{eq-eqb, ne_eqb}
use Rattle.lists.specs.Runs.{Runs, rising, add, erase, has, total}
use Rattle.lists.proofs.Tests.{no_true}
use Rattle.slots.specs.Payload.{void, tombstone, pay}
use Rattle.layout.specs.Machine.{layout}
use Rattle.layout.specs.Decode.{decode}
use Rattle.rules.specs.Record.{Filter, change, width}
use Rattle.rules.specs.Sound.{sound}
use Rattle.rules.specs.Calls.{give}
use Rattle.rules.specs.Quick.{home, matched, best, queue_full, query_number, take_number, deleted, delete}
use Rattle.filter.specs.Promises.{first_number, Leaves, Quick, Chosen}
use Rattle.filter.proofs.Outcomes.{given, refusal-quick, unsound-quick, done-quick}
use Rattle.filter.proofs.Quicks.{first-query, bounds_of}
use Rattle.filter.proofs.Takes.{Sure, sure, take-first, take-6, take-bits, take-void, take-full}

module _ (r : Filter) (main queue annex : List ℕ) (h : ℕ) where
  abbrev pub DeleteQuick : ℕ → Filter → List ℕ → List ℕ → Type 0
  DeleteQuick n rec main' queue' =
      Quick (delete r main queue annex h) (query_number r main queue annex) (sound r main queue annex) r main queue annex n rec main' queue' annex

  refuse : (n : ℕ) → take_number r main queue annex h ≡ suc n → DeleteQuick (suc n) r main queue
  unfolding delete
  refuse n e = refusal-quick r main queue annex _ _ _ (suc n) (given r main queue annex _ n (deleted r main queue annex h) e)

  pub delete-refused : (n : ℕ) → n ≡ first_number r (length main) (length queue) (length annex) → (n ≡ 0 → ⊥) → DeleteQuick n r main queue
  delete-refused zero e ne = absurd (ne refl)
  delete-refused (suc n) e ne = refuse n (take-first r main queue annex h n e)

  pub delete-6 : 0 ≡ first_number r (length main) (length queue) (length annex) → matched r main h ≡ false → DeleteQuick 6 r main queue
  delete-6 z e = refuse 5 (take-6 r main queue annex h z e)

  module _ (c p : ℕ) (ch : Chosen r main queue annex h c p) where
    zero-first : query_number r main queue annex ≡ 0
    zero-first = sym (first-query r main queue annex) ∙ sym ch.lent

    unsound : (n : ℕ) → (Sure r main c p → ⊥) → DeleteQuick n r main queue
    unsound n f = unsound-quick r main queue annex _ _ _ n zero-first (λ s. f (sure r main queue annex h c p ch s))

    done : (u n : ℕ) (main' queue' : List ℕ) → take_number r main queue annex h ≡ 0
        → (Sure r main c p → Leaves (deleted r main queue annex h) 0 (change r r.k u n r.dir) main' queue' annex)
        → DeleteQuick 0 (change r r.k u n r.dir) main' queue'
    unfolding delete give
    done u n main' queue' z l =
        done-quick r main queue annex (delete r main queue annex h) (query_number r main queue annex) (sound r main queue annex) u n main' queue' zero-first
        (λ s. rw (z, give) (l (sure r main queue annex h c p ch s)))

    -- ---- an entry with bits

    module _ (ne : p ≡ void (width r) → ⊥) where
      pub bits_none : r.used ≡ 0 → DeleteQuick 6 r main queue
      bits_none e = unsound 6 (λ v. absurd (omega (arith, v.used)))

      abbrev Removes : Bool → List ℕ → Type 0
      Removes b main' = (b ≡ false → main' ≡ main)
          × ((runs : Runs) → main ≡ layout runs → total runs < length runs → T (rising (get_or runs c []))
          → (b ≡ has p (get_or runs c [])) × (main' ≡ layout (set runs c (erase p (get_or runs c [])))))

      pub bits-gone : (b : Bool) (main' : List ℕ) → Removes b main' → b ≡ false → DeleteQuick 6 r main' queue
      bits-gone b main' t e =
          subst (λ (x : List ℕ). DeleteQuick 6 r x queue) (sym (t.0 e))
          (unsound 6 (λ v. no_true (sym e ∙ (t.1 (decode main) v.laid v.room v.rises).0 ∙ v.inside)))

      left : (main' : List ℕ) → main' ≡ layout (set (decode main) c (erase p (get_or (decode main) c [])))
          → Leaves (deleted r main queue annex h) 0 (change r r.k (r.used - 1) r.queued r.dir) main' queue annex
      unfolding deleted
      left main' e =
          rw (ne_eqb (best r main h) (void (width r)) (λ q. ne (ch.entry ∙ q)), deleted)
          (record {
            number_is = refl;
            rec_is = refl;
            main_is = e ∙ ap₂ (λ (a b : ℕ). layout (set (decode main) a (erase b (get_or (decode main) a [])))) ch.slot ch.entry;
            queue_is = refl;
            annex_is = refl;
          })

      pub bits-done : (b : Bool) (main' : List ℕ) → Removes b main' → DeleteQuick 0 (change r r.k (r.used - 1) r.queued r.dir) main' queue
      bits-done b main' t =
          done (r.used - 1) r.queued main' queue (take-bits r main queue annex h c p ch ne)
          (λ v. left main' (t.1 (decode main) v.laid v.room v.rises).1)

    -- ---- a void

    module _ (vo : p ≡ void (width r)) where
      pub void-full : queue_full r queue ≡ true → DeleteQuick 7 r main queue
      void-full e = refuse 6 (take-full r main queue annex h c p ch vo e)

      pub void-small : p < 536870911
      unfolding void pay
      void-small =
          let b = bounds_of r main queue annex ch.lent in
          omega (arith, vo, lib.Pow.pow_mono {i = width r} {j = 26} b.width_26)

      abbrev Raises : Bool → List ℕ → Type 0
      Raises b main' = (b ≡ false → main' ≡ main)
          × ((runs : Runs) → main ≡ layout runs → total runs < length runs → T (rising (get_or runs c []))
          → (b ≡ has p (get_or runs c [])) × (b ≡ true → main' ≡ layout (set runs c (add (suc p) (erase p (get_or runs c []))))))

      pub void-none : (b : Bool) (main' : List ℕ) → Raises b main' → b ≡ false → DeleteQuick 6 r main' queue
      void-none b main' t e =
          subst (λ (x : List ℕ). DeleteQuick 6 r x queue) (sym (t.0 e))
          (unsound 6 (λ v. no_true (sym e ∙ (t.1 (decode main) v.laid v.room v.rises).0 ∙ v.inside)))

      next : suc p ≡ tombstone (width r)
      unfolding tombstone void pay
      next =
          let b = bounds_of r main queue annex ch.lent in
          omega (arith, vo, lib.Pow.pow_mono {i = 1} {j = width r} (omega (arith, b.width_4)))

      raised : (main' : List ℕ) → main' ≡ layout (set (decode main) c (add (suc p) (erase p (get_or (decode main) c []))))
          → main' ≡ layout (set (decode main) (home r h) (add (tombstone (width r)) (erase (void (width r)) (get_or (decode main) (home r h) []))))
      raised main' e =
          e ∙ ap₂ (λ (a b : ℕ). layout (set (decode main) c (add a (erase b (get_or (decode main) c []))))) next vo
          ∙ ap (λ (a : ℕ). layout (set (decode main) a (add (tombstone (width r)) (erase (void (width r)) (get_or (decode main) a []))))) ch.slot

      left-void : (main' : List ℕ) (w : ℕ) → w ≡ c * 2
          → main' ≡ layout (set (decode main) (home r h) (add (tombstone (width r)) (erase (void (width r)) (get_or (decode main) (home r h) []))))
          → Leaves (deleted r main queue annex h) 0 (change r r.k r.used (r.queued + 1) r.dir) main' (set queue r.queued w) annex
      unfolding deleted
      left-void main' w ew e =
          rw (eq-eqb (best r main h) (void (width r)) (sym ch.entry ∙ vo), deleted)
          (record {
            number_is = refl;
            rec_is = refl;
            main_is = e;
            queue_is = ap (set queue r.queued) (ew ∙ ap (λ (a : ℕ). a * 2) ch.slot);
            annex_is = refl;
          })

      pub void-done : (b : Bool) (main' : List ℕ) (w : ℕ) → Raises b main' → b ≡ true → w ≡ c * 2 → queue_full r queue ≡ false
          → DeleteQuick 0 (change r r.k r.used (r.queued + 1) r.dir) main' (set queue r.queued w)
      void-done b main' w t e ew n =
          done r.used (r.queued + 1) main' (set queue r.queued w) (take-void r main queue annex h c p ch n)
          (λ v. left-void main' w ew (raised main' ((t.1 (decode main) v.laid v.room v.rises).1 e)))
