-- What Delete and Rejuvenate share: their number by the four tests, and what a sound state says of the entry that they found.
use mathlib.Core.Path.{◌≡◌, refl, sym, ap, ap₂, ◌∙◌, subst}
use mathlib.Core.Bool.{Bool, true, false, not, ◌&&◌, ◌||◌}
use mathlib.Core.List.{List, [], ◌∷◌}
use Prim.Native.Nat.{ℕ, suc, ◌≤◌, ◌<◌, ◌^◌}
use native.Mathlib.Omega.{arith}
use lib.Dec.{T, eqb}
use lib.ListN.{length, get_or}
use borrow.Author.Tests.{eq-eqb, ne_eqb, ltb-true}
use Rattle.lists.specs.Runs.{rising, has, total}
use Rattle.lists.proofs.Tests.{no_true}
use Rattle.lists.proofs.RunLaws.{rises-rising, count-has, length-erase, total-set}
use Rattle.slots.specs.Payload.{void}
use Rattle.layout.specs.Machine.{layout}
use Rattle.layout.specs.Decode.{decode}
use Rattle.rules.specs.Record.{Filter, width}
use Rattle.rules.specs.Refusals.{refusal, record_right, slices_right}
use Rattle.rules.specs.Sound.{sound}
use Rattle.rules.specs.Calls.{asked}
use Rattle.rules.specs.Quick.{home, matched, best, best_is_void, queue_full, take_number}
use Rattle.keeps.proofs.State.{Fine, long}
use Rattle.keeps.proofs.Quick.{Found, found, home-lt}
use Rattle.filter.specs.Promises.{first_number, Chosen}
use Rattle.filter.proofs.Outcomes.{first-right, first-asked}
use Rattle.filter.proofs.Quicks.{less, fine-state, bounds_of, main-length}

-- the four tests, in their order
four : (a b m v q : Bool) → T a → T b → m ≡ true → (n : ℕ) → (v && q ≡ true → n ≡ 7) → (v && q ≡ false → n ≡ 0)
    → refusal (record { right = a; number = 2 } ∷ record { right = b; number = 3 } ∷ record { right = m; number = 6 }
    ∷ record { right = not (v && q); number = 7 } ∷ []) ≡ n
unfolding refusal
four true true true true true s t e n f g = sym (f refl)
four true true true true false s t e n f g = sym (g refl)
four true true true false q s t e n f g = sym (g refl)
four true true false v q s t e n f g = absurd (no_true e)
four true false m v q s t e n f g = absurd t
four false b m v q s t e n f g = absurd s

six : (a b v q : Bool) → T a → T b
    → refusal (record { right = a; number = 2 } ∷ record { right = b; number = 3 } ∷ record { right = false; number = 6 }
    ∷ record { right = not (v && q); number = 7 } ∷ []) ≡ 6
unfolding refusal
six true true v q s t = refl
six true false v q s t = absurd t
six false b v q s t = absurd s

-- on a sound state the entry is in its run, which rises, and main is the layout of its runs
pub record Sure (r : Filter) (main : List ℕ) (c p : ℕ) : Type 0 where
  pub laid : main ≡ layout (decode main)
  pub room : total (decode main) < length (decode main)
  pub rises : T (rising (get_or (decode main) c []))
  pub inside : has p (get_or (decode main) c []) ≡ true
  pub used : 0 < r.used

sure-home : (r : Filter) (main queue annex : List ℕ) (h : ℕ) → Fine r main queue annex (decode main)
    → Found r h (best r main h) (get_or (decode main) (home r h) [])
    → Sure r main (home r h) (best r main h)
sure-home r main queue annex h v f =
    let run : List ℕ = get_or (decode main) (home r h) [] in
    let i : has (best r main h) run ≡ true = count-has (best r main h) run f.chosen.inside in
    let hl : home r h < length (decode main) = omega (arith, v.table.size, home-lt r h) in
    record {
      laid = v.table.laid;
      room = omega (arith, v.table.room, v.table.size);
      rises = rises-rising run f.rises;
      inside = i;
      used = omega (arith, v.table.counted, length-erase (best r main h) run i, total-set (decode main) (home r h) [] hl);
    }

module _ (r : Filter) (main queue annex : List ℕ) (h : ℕ) where
  pub take-first : (n : ℕ) → suc n ≡ first_number r (length main) (length queue) (length annex) → take_number r main queue annex h ≡ suc n
  unfolding take_number
  take-first n e = first-asked r main queue annex n _ (sym e)

  pub take-6 : 0 ≡ first_number r (length main) (length queue) (length annex) → matched r main h ≡ false → take_number r main queue annex h ≡ 6
  unfolding take_number asked
  take-6 z e =
      let x = first-right r (length main) (length queue) (length annex) (sym z) in
      ap (λ (m : Bool). refusal
      (record { right = record_right r; number = 2 } ∷ record { right = slices_right r (length main) (length queue) (length annex); number = 3 }
      ∷ record { right = m; number = 6 } ∷ record { right = not (best_is_void r main h && queue_full r queue); number = 7 } ∷ [])) e
      ∙ six _ _ (best_is_void r main h) (queue_full r queue) x.0 x.1

  module _ (c p : ℕ) (ch : Chosen r main queue annex h c p) where
    numbered : (n : ℕ) → (best_is_void r main h && queue_full r queue ≡ true → n ≡ 7) → (best_is_void r main h && queue_full r queue ≡ false → n ≡ 0)
        → take_number r main queue annex h ≡ n
    unfolding take_number asked
    numbered n f g =
        let x = first-right r (length main) (length queue) (length annex) (sym ch.lent) in
        four _ _ (matched r main h) (best_is_void r main h) (queue_full r queue) x.0 x.1 ch.some n f g

    -- an entry with bits, or a void with room in the queue
    pub take-bits : (p ≡ void (width r) → ⊥) → take_number r main queue annex h ≡ 0
    take-bits ne =
        let e : best_is_void r main h ≡ false = ne_eqb _ _ (λ q. ne (ch.entry ∙ q)) in
        numbered 0 (λ q. absurd (no_true (sym (ap (λ (b : Bool). b && queue_full r queue) e) ∙ q))) (λ q. refl)

    pub take-void : queue_full r queue ≡ false → take_number r main queue annex h ≡ 0
    take-void e = numbered 0 (λ q. absurd (no_true (sym (and_none (best_is_void r main h) (queue_full r queue) e) ∙ q))) (λ q. refl)
      where
        and_none : (a b : Bool) → b ≡ false → a && b ≡ false
        and_none true b e = e
        and_none false b e = refl

    pub take-full : p ≡ void (width r) → queue_full r queue ≡ true → take_number r main queue annex h ≡ 7
    take-full v e =
        let d : best_is_void r main h ≡ true = eq-eqb _ _ (sym ch.entry ∙ v) in
        numbered 7 (λ q. refl) (λ q. absurd (no_true (sym q ∙ ap₂ ◌&&◌ d e)))

    -- numbers that the change of a run asks for
    pub record Place : Type 0 where
      pub inside : c < length main
      pub most : length main ≤ 1048576
      pub more : 1 < length main
      pub slots : c < 1048576
      pub queued : r.queued ≤ length queue

    pub place : Place
    place =
        let b = bounds_of r main queue annex ch.lent in
        let l = main-length r main queue annex ch.lent in
        let e : 2 ^ 1 ≤ 2 ^ r.k = lib.Pow.pow_mono {i = 1} {j = r.k} (omega (arith, b.k_3)) in
        let hc : c < 2 ^ r.k = subst (λ (x : ℕ). x < 2 ^ r.k) (sym ch.slot) (home-lt r h) in
        let q = long r main queue annex (first-right r (length main) (length queue) (length annex) (sym ch.lent)).1 in
        record {
          inside = omega arith;
          most = omega (arith, b.slots);
          more = omega arith;
          slots = omega (arith, b.slots);
          queued = q.queue_long;
        }

    -- a queue that is not full has room for a word
    pub roomy : queue_full r queue ≡ false → (r.queued < length queue) × (r.queued < 1048576)
    roomy e = (
      less _ _ place.queued (λ x. no_true (sym e ∙ or_right (eqb r.queued (2 ^ 20)) _ (eq-eqb _ _ x))),
      less _ _ (bounds_of r main queue annex ch.lent).queued_small
          (λ x. no_true (sym e ∙ ap (λ (b : Bool). b || eqb r.queued (length queue)) (eq-eqb _ _ x))),
    )
      where
        or_right : (a b : Bool) → b ≡ true → a || b ≡ true
        or_right true b e = refl
        or_right false b e = e

    pub sure : T (sound r main queue annex) → Sure r main c p
    sure s =
        let v = fine-state r main queue annex ch.lent s in
        let f = found r main queue annex h (decode main) v (ltb-true _ _ ch.some) in
        subst (λ (x : ℕ). Sure r main x p) (sym ch.slot) (subst (λ (x : ℕ). Sure r main (home r h) x) (sym ch.entry) (sure-home r main queue annex h v f))
