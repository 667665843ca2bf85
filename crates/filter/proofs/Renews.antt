-- Rejuvenate, on each way out: what it changed is what the definition changes wherever the state is sound.
use mathlib.Core.Path.{◌≡◌, refl, sym, ap, ap₂, ◌∙◌, subst}
use mathlib.Core.Bool.{Bool, true, false}
use mathlib.Core.List.{List, [], ◌∷◌}
use Prim.Native.Nat.{ℕ, zero, suc, ◌+◌, ◌*◌, ◌≤◌, ◌<◌, ◌^◌}
use native.Mathlib.Omega.{arith}
use native.Mathlib.Nat.{add-zero}
use native.Mathlib.Decide.{dec_lt, ℕ_discrete}
use lib.Dec.{T, ltb}
use lib.ListN.{length, get_or, set}
use borrow.Author.Tests.{eq-eqb, ne_eqb, lt-ltb, le-ltb, ltb-true}
use Rattle.lists.specs.Lists.{bit}
use Rattle.lists.specs.Runs.{Runs, rising, add, erase, has, hits, total}
use Rattle.lists.proofs.Tests.{no_true}
use Rattle.slots.specs.Payload.{void, tombstone, rest_of, length_of, matches}
use Rattle.slots.proofs.PayloadLaws.{Match, match-true, rest-large, tombstone-rest}
use Rattle.layout.specs.Machine.{layout}
use Rattle.layout.specs.Decode.{decode, run_at}
use Rattle.rules.specs.Record.{Filter, change, fresh, width}
use Rattle.rules.specs.Sound.{sound}
use Rattle.rules.specs.Calls.{give, refused}
use Rattle.rules.specs.Quick.{home, fresh_entry, matches_in, matched, best, best_is_void, queue_full, query_number, take_number, rejuvenated, rejuvenate}
use Rattle.filter.specs.Promises.{first_number, Leaves, Quick, Chosen}
use Rattle.filter.proofs.Outcomes.{given, refusal-quick, unsound-quick, done-quick}
use Rattle.filter.proofs.Quicks.{first-query, bounds_of}
use Rattle.filter.proofs.Takes.{Sure, sure, take-first, take-6, take-bits, take-void, take-full}

-- Rejuvenate makes the fresh entry q of p, an entry shorter than fresh ones
pub record Renewing (r : Filter) (h p q : ℕ) : Type 0 where
  pub shorter : length_of (width r) p < fresh r
  pub becomes : q ≡ fresh_entry r h

-- the first of the hits is a hit
hit : (f : ℕ → Bool) (run : List ℕ) (d : ℕ) → 0 < length (hits f run) → f (get_or (hits f run) 0 d) ≡ true
unfolding hits
hit f [] d l = absurd (omega arith)
hit f (y ∷ ys) d l = go (f y) refl (hit f ys d) l
  where
    go : (b : Bool) → f y ≡ b → (0 < length (hits f ys) → f (get_or (hits f ys) 0 d) ≡ true)
        → 0 < length (mathlib.Core.Bool.cond b (y ∷ hits f ys) (hits f ys)) → f (get_or (mathlib.Core.Bool.cond b (y ∷ hits f ys) (hits f ys)) 0 d) ≡ true
    go true e ih l = e
    go false e ih l = ih l

module _ (r : Filter) (main queue annex : List ℕ) (h : ℕ) where
  abbrev pub RenewQuick : ℕ → Filter → List ℕ → List ℕ → Type 0
  RenewQuick n rec main' queue' =
      Quick (rejuvenate r main queue annex h) (query_number r main queue annex) (sound r main queue annex) r main queue annex n rec main' queue' annex

  refuse : (n : ℕ) → take_number r main queue annex h ≡ suc n → RenewQuick (suc n) r main queue
  unfolding rejuvenate
  refuse n e = refusal-quick r main queue annex _ _ _ (suc n) (given r main queue annex _ n (rejuvenated r main queue annex h) e)

  pub renew-refused : (n : ℕ) → n ≡ first_number r (length main) (length queue) (length annex) → (n ≡ 0 → ⊥) → RenewQuick n r main queue
  renew-refused zero e ne = absurd (ne refl)
  renew-refused (suc n) e ne = refuse n (take-first r main queue annex h n e)

  pub renew-6 : 0 ≡ first_number r (length main) (length queue) (length annex) → matched r main h ≡ false → RenewQuick 6 r main queue
  renew-6 z e = refuse 5 (take-6 r main queue annex h z e)

  module _ (c p : ℕ) (ch : Chosen r main queue annex h c p) where
    zero-first : query_number r main queue annex ≡ 0
    zero-first = sym (first-query r main queue annex) ∙ sym ch.lent

    -- what matches has a length
    match : Match (width r) r.k h p
    unfolding best matches_in
    match = subst (Match (width r) r.k h) (sym ch.entry)
        (match-true (width r) r.k h (best r main h) (hit (matches (width r) r.k h) (run_at main (home r h)) (tombstone (width r)) (ltb-true _ _ ch.some)))

    pub below : p < tombstone (width r)
    below = go (dec_lt p (2 ^ width r)) (ℕ_discrete p (tombstone (width r)))
      where
        go : Dec (p < 2 ^ width r) → Dec (p ≡ tombstone (width r)) → p < tombstone (width r)
        go (no n) e = absurd (omega (arith, match.some, rest-large (width r) p (omega arith)))
        go (yes l) (yes e) = absurd (omega (arith, match.some, ap (rest_of (width r)) e, tombstone-rest (width r)))
        go (yes l) (no n) = unfold tombstone in omega (arith, l, n)

    -- ---- as long as fresh ones

    kept-is : fresh r ≤ length_of (width r) (best r main h) → rejuvenated r main queue annex h ≡ refused r main queue annex 0
    unfolding rejuvenated
    kept-is l = rw (le-ltb (length_of (width r) (best r main h)) (fresh r) l, rejuvenated)

    full-bits : fresh r ≤ length_of (width r) p → 3 ≤ fresh r → p ≡ void (width r) → ⊥
    unfolding length_of
    full-bits l f e = omega
        (arith, Rattle.slots.proofs.PayloadLaws.void-rest (width r) (omega (arith, (bounds_of r main queue annex ch.lent).width_4)), ap (rest_of (width r)) e)

    pub renew-kept : fresh r ≤ length_of (width r) p → RenewQuick 0 r main queue
    unfolding rejuvenate give
    renew-kept l =
        let b = bounds_of r main queue annex ch.lent in
        refusal-quick r main queue annex _ _ _ 0
        (ap (λ (n : ℕ). give n (rejuvenated r main queue annex h) (refused r main queue annex n))
        (take-bits r main queue annex h c p ch (full-bits l b.fresh_3))
        ∙ kept-is (subst (λ (x : ℕ). fresh r ≤ length_of (width r) x) ch.entry l))

    -- ---- shorter

    pub renewing : (w l m q : ℕ) → w ≡ width r → l ≡ fresh r → m ≡ length_of w p → m < l → q ≡ fresh_entry r h → Renewing r h p q
    renewing w l m q ew el em h' eq = record { shorter = omega (arith, em, ap (λ (x : ℕ). length_of x p) ew); becomes = eq }

    module _ (q : ℕ) (re : Renewing r h p q) where
      unsound : (n : ℕ) → (Sure r main c p → ⊥) → RenewQuick n r main queue
      unsound n f = unsound-quick r main queue annex _ _ _ n zero-first (λ s. f (sure r main queue annex h c p ch s))

      done : (u n : ℕ) (main' queue' : List ℕ) → take_number r main queue annex h ≡ 0
          → (Sure r main c p → Leaves (rejuvenated r main queue annex h) 0 (change r r.k u n r.dir) main' queue' annex)
          → RenewQuick 0 (change r r.k u n r.dir) main' queue'
      unfolding rejuvenate give
      done u n main' queue' z l =
          done-quick r main queue annex (rejuvenate r main queue annex h) (query_number r main queue annex)
          (sound r main queue annex) u n main' queue' zero-first
          (λ s. rw (z, give) (l (sure r main queue annex h c p ch s)))

      abbrev Exchanges : Bool → List ℕ → Type 0
      Exchanges b main' = (b ≡ false → main' ≡ main)
          × ((runs : Runs) → main ≡ layout runs → total runs < length runs → T (rising (get_or runs c []))
          → (b ≡ has p (get_or runs c [])) × (b ≡ true → main' ≡ layout (set runs c (add q (erase p (get_or runs c []))))))

      pub renew-none : (b : Bool) (main' : List ℕ) → Exchanges b main' → b ≡ false → RenewQuick 6 r main' queue
      renew-none b main' t e =
          subst (λ (x : List ℕ). RenewQuick 6 r x queue) (sym (t.0 e))
          (unsound 6 (λ v. no_true (sym e ∙ (t.1 (decode main) v.laid v.room v.rises).0 ∙ v.inside)))

      shorter : ltb (length_of (width r) (best r main h)) (fresh r) ≡ true
      shorter = lt-ltb _ _ (subst (λ (x : ℕ). length_of (width r) x < fresh r) ch.entry re.shorter)

      changed : (main' : List ℕ) → main' ≡ layout (set (decode main) c (add q (erase p (get_or (decode main) c []))))
          → main' ≡ layout (set (decode main) (home r h) (add (fresh_entry r h) (erase (best r main h) (get_or (decode main) (home r h) []))))
      changed main' e =
          e ∙ ap₂ (λ (a b : ℕ). layout (set (decode main) c (add a (erase b (get_or (decode main) c []))))) re.becomes ch.entry
          ∙ ap (λ (a : ℕ). layout (set (decode main) a (add (fresh_entry r h) (erase (best r main h) (get_or (decode main) a []))))) ch.slot

      left : (v : Bool) → best_is_void r main h ≡ v → (main' queue' : List ℕ)
          → main' ≡ layout (set (decode main) (home r h) (add (fresh_entry r h) (erase (best r main h) (get_or (decode main) (home r h) []))))
          → queue' ≡ elim v [ true ↦ set queue r.queued (home r h * 2 + 1) | false ↦ queue ]
          → Leaves (rejuvenated r main queue annex h) 0 (change r r.k r.used (r.queued + bit v) r.dir) main' queue' annex
      unfolding rejuvenated
      left v ev main' queue' em eq =
          rw (shorter, ev, rejuvenated)
          (record { number_is = refl; rec_is = refl; main_is = em; queue_is = eq; annex_is = refl })

      module _ (ne : p ≡ void (width r) → ⊥) where
        pub renew-bits : (b : Bool) (main' : List ℕ) → Exchanges b main' → b ≡ true → RenewQuick 0 r main' queue
        unfolding change
        renew-bits b main' t e =
            done r.used r.queued main' queue (take-bits r main queue annex h c p ch ne)
            (λ v. subst (λ (n : ℕ). Leaves (rejuvenated r main queue annex h) 0 (change r r.k r.used n r.dir) main' queue annex) (add-zero r.queued)
            (left false (ne_eqb _ _ (λ x. ne (ch.entry ∙ x))) main' queue (changed main' ((t.1 (decode main) v.laid v.room v.rises).1 e)) refl))

      module _ (vo : p ≡ void (width r)) where
        pub renew-full : queue_full r queue ≡ true → RenewQuick 7 r main queue
        renew-full e = refuse 6 (take-full r main queue annex h c p ch vo e)

        pub renew-void : (b : Bool) (main' : List ℕ) (w : ℕ) → Exchanges b main' → b ≡ true → w ≡ c * 2 + 1 → queue_full r queue ≡ false
            → RenewQuick 0 (change r r.k r.used (r.queued + 1) r.dir) main' (set queue r.queued w)
        renew-void b main' w t e ew n =
            done r.used (r.queued + 1) main' (set queue r.queued w) (take-void r main queue annex h c p ch n)
            (λ v. left true (eq-eqb _ _ (sym ch.entry ∙ vo)) main' (set queue r.queued w) (changed main' ((t.1 (decode main) v.laid v.room v.rises).1 e))
            (ap (set queue r.queued) (ew ∙ ap (λ (a : ℕ). a * 2 + 1) ch.slot)))
