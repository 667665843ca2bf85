-- Double, run by run: what an entry gives to a half, and why a half is a right run at the new width. Giving away the lowest bit keeps the order among entries
-- with the same lowest bit.
use mathlib.Core.Path.{◌≡◌, refl, sym, ap, ◌∙◌, subst}
use mathlib.Core.List.{List, [], ◌∷◌, ◌++◌, map}
use Prim.Native.Nat.{ℕ, zero, suc, ◌+◌, ◌-◌, ◌/◌, ◌%◌, ◌^◌, ◌≤◌, ◌<◌}
use native.Mathlib.Omega.{arith}
use native.Mathlib.Nat.{mod-lt, pow-suc}
use native.Mathlib.Numerals.{sub-one}
use native.Mathlib.Decide.{dec_le, ℕ_discrete}
use lib.Dec.{T}
use lib.Pow.{pow_pos}
use lib.ListN.{length, get_or, length-append, get_or-map}
use borrow.Author.Tests.{eq-eqb, ne_eqb}
use Rattle.lists.specs.Runs.{Runs, count, total}
use Rattle.lists.proofs.Tests.{is-no}
use Rattle.lists.proofs.Alls.{All}
use Rattle.lists.proofs.RunLaws.{Rises, count-append}
use Rattle.slots.specs.Payload.{pay, void, tombstone, rest_of, length_of, fingerprint_of}
use Rattle.slots.proofs.PayloadLaws.{rest-pay, pay-lt, bits-pay, rest_le, rest-one, rising-rest, shrink, shrink-order, void-lt, void-rest, void-tombstone, tombstone-rest}
use Rattle.rules.specs.Sound.{main_entry}
use Rattle.rules.specs.Doubling.{half, half_run}
use Rattle.keeps.proofs.Entries.{passes, passes-6}

pub all_append : {A : Type 0} (P : A → Type 0) (l m : List A) → All P l → All P m → All P (l ++ m)
all_append P [] m a b = b
all_append P (x ∷ l) m a b = (a.0, all_append P l m a.1 b)

-- what an entry of width w is to the half with new top bit t, of width v
pub data Kind (w v t p : ℕ) : Type 0 where
  none_of : rest_of w p ≡ 0 → half w v t p ≡ [] → Kind w v t p
  voided : rest_of w p ≡ 1 → half w v t p ≡ void v ∷ [] → Kind w v t p
  other : 1 < rest_of w p → (fingerprint_of w p % 2 ≡ t → ⊥) → half w v t p ≡ [] → Kind w v t p
  mine : 1 < rest_of w p → fingerprint_of w p % 2 ≡ t → half w v t p ≡ shrink w v p ∷ [] → Kind w v t p

pub kind : (w v t p : ℕ) → Kind w v t p
unfolding shrink half
kind w v t p = go (rest_of w p) refl (ℕ_discrete (fingerprint_of w p % 2) t)
  where
    go : (n : ℕ) → rest_of w p ≡ n → Dec (fingerprint_of w p % 2 ≡ t) → Kind w v t p
    go zero e d = none_of e (rw (e, half))
    go (suc zero) e d = voided e (rw (e, half))
    go (suc (suc l)) e (yes d) = mine (omega arith) d (rw (e, half, eq-eqb (fingerprint_of w p % 2) t d) (ap (λ (m : ℕ). pay v m (fingerprint_of w p / 2) ∷ []) length-l))
      where
        length-l : l ≡ length_of w p - 1
        length-l = unfold length_of in omega arith
    go (suc (suc l)) e (no d) = other (omega arith) d (rw (e, half, ne_eqb (fingerprint_of w p % 2) t d))

pub half-one : (w v t p : ℕ) → length (half w v t p) ≤ 1
half-one w v t p = go (kind w v t p)
  where
    go : Kind w v t p → length (half w v t p) ≤ 1
    go (none_of a e) = omega (arith, ap length e)
    go (voided a e) = omega (arith, ap length e)
    go (other a b e) = omega (arith, ap length e)
    go (mine a b e) = omega (arith, ap length e)

pub half-fewer : (w v t : ℕ) (run : List ℕ) → length (half_run w v t run) ≤ length run
unfolding half_run
half-fewer w v t [] = omega arith
half-fewer w v t (p ∷ run) = omega (arith, length-append (half w v t p) (half_run w v t run), half-one w v t p, half-fewer w v t run)

pub total-half : (w v t : ℕ) (rs : Runs) → total (map (half_run w v t) rs) ≤ total rs
unfolding total
total-half w v t [] = omega arith
total-half w v t (r ∷ rs) = omega (arith, half-fewer w v t r, total-half w v t rs)

pub get_or-half : (w v t : ℕ) (rs : Runs) (c : ℕ) → get_or (map (half_run w v t) rs) c [] ≡ half_run w v t (get_or rs c [])
unfolding half_run
get_or-half w v t rs c = get_or-map (half_run w v t) rs c []

pub fingerprint-lt : (w p : ℕ) → fingerprint_of w p < 2 ^ length_of w p
unfolding fingerprint_of
fingerprint-lt w p = mod-lt p (pow_pos (length_of w p))

-- ---- the entry that is left, at a width that is not smaller

module _ (w v : ℕ) (wpos : 0 < w) (wv : w ≤ v) where
  halved : (l f : ℕ) → 0 < l → f < 2 ^ l → f / 2 < 2 ^ (l - 1)
  halved zero f h lt = absurd (omega arith)
  halved (suc l) f h lt = omega (arith, pow-suc 2 l, ap (λ x. 2 ^ x) (sub-one (suc l)))

  length-lt : (p : ℕ) → length_of w p < v
  unfolding length_of
  length-lt p = omega (arith, rest_le w p)

  pub shrink-rest : (p : ℕ) → 1 < rest_of w p → rest_of v (shrink w v p) ≡ length_of w p
  unfolding shrink
  shrink-rest p b =
      let pos : 0 < length_of w p = unfold length_of in omega arith in
      rest-pay v (length_of w p - 1) (fingerprint_of w p / 2) (omega (arith, length-lt p)) (halved (length_of w p) (fingerprint_of w p) pos (fingerprint-lt w p)) ∙ omega arith

  pub shrink-lt : (p : ℕ) → 1 < rest_of w p → shrink w v p < 2 ^ v
  unfolding shrink
  shrink-lt p b =
      let pos : 0 < length_of w p = unfold length_of in omega arith in
      pay-lt v (length_of w p - 1) (fingerprint_of w p / 2) (omega (arith, length-lt p)) (halved (length_of w p) (fingerprint_of w p) pos (fingerprint-lt w p))

  pub shrink-bits : (p : ℕ) → 1 < rest_of w p → fingerprint_of v (shrink w v p) ≡ fingerprint_of w p / 2
  unfolding shrink
  shrink-bits p b =
      let pos : 0 < length_of w p = unfold length_of in omega arith in
      bits-pay v (length_of w p - 1) (fingerprint_of w p / 2) (omega (arith, length-lt p)) (halved (length_of w p) (fingerprint_of w p) pos (fingerprint-lt w p))

  vpos : 0 < v
  vpos = omega arith

  -- ---- tombstones

  tombstones-one : (t p : ℕ) → count (tombstone v) (half w v t p) ≡ 0
  unfolding count length_of
  tombstones-one t p = go (kind w v t p)
    where
      go : Kind w v t p → count (tombstone v) (half w v t p) ≡ 0
      go (none_of b e) = ap (count (tombstone v)) e
      go (voided b e) = ap (count (tombstone v)) e ∙ omega (arith, is-no (tombstone v) (void v) (λ q. void-tombstone v vpos (sym q)))
      go (other b c e) = ap (count (tombstone v)) e
      go (mine b c e) = ap (count (tombstone v)) e ∙ omega (arith, is-no (tombstone v) (shrink w v p) (λ q. omega (arith, tombstone-rest v, shrink-rest p b, ap (rest_of v) q)))

  pub half-tombstones : (t : ℕ) (run : List ℕ) → count (tombstone v) (half_run w v t run) ≡ 0
  unfolding half_run count
  half-tombstones t [] = refl
  half-tombstones t (p ∷ run) = omega (arith, count-append (tombstone v) (half w v t p) (half_run w v t run), tombstones-one t p, half-tombstones t run)

  -- ---- the order

  -- an entry that is no tombstone is no larger than a void
  le-void : (p : ℕ) → p < 2 ^ v → 0 < rest_of v p → p ≤ void v
  le-void p lt r = go (dec_le p (void v))
    where
      go : Dec (p ≤ void v) → p ≤ void v
      go (yes h) = h
      go (no h) = absurd (h (omega (arith, rest-one v p lt (omega (arith, void-rest v vpos, rising-rest v (void v) p (void-lt v vpos) lt (omega arith))))))

  no-tombstone : (x : ℕ) → x < 2 ^ w → 0 < rest_of w x → x < tombstone w
  unfolding tombstone
  no-tombstone x l r = go (ℕ_discrete x (2 ^ w - 1))
    where
      go : Dec (x ≡ 2 ^ w - 1) → x < 2 ^ w - 1
      go (yes e) = absurd (omega (arith, tombstone-rest w, ap (rest_of w) e))
      go (no e) = omega arith

  module _ (t : ℕ) where
    abbrev Below : List ℕ → List ℕ → Type 0
    Below l m = All (λ x. All (λ y. x ≤ y) m) l

    -- what p gives is at most what a later q gives
    half_le : (p q : ℕ) → p < 2 ^ w → q < 2 ^ w → p ≤ q → Below (half w v t p) (half w v t q)
    half_le p q lp lq le = go (kind w v t p) (kind w v t q)
      where
        pair : (x y : ℕ) → half w v t p ≡ x ∷ [] → half w v t q ≡ y ∷ [] → x ≤ y → Below (half w v t p) (half w v t q)
        pair x y e f l = subst (λ (m : List ℕ). Below m (half w v t q)) (sym e) (subst (All (λ y. x ≤ y)) (sym f) (l, tt), tt)

        nothing : half w v t p ≡ [] → Below (half w v t p) (half w v t q)
        nothing e = subst (λ (m : List ℕ). Below m (half w v t q)) (sym e) tt

        no-later : (l : List ℕ) → half w v t q ≡ [] → Below l (half w v t q)
        no-later [] e = tt
        no-later (x ∷ l) e = (subst (All (λ y. x ≤ y)) (sym e) tt, no-later l e)

        positive : (x : ℕ) → 1 < rest_of w x → 0 < length_of w x
        positive x h = unfold length_of in omega arith

        order : Dec (p ≡ q) → 1 < rest_of w p → 1 < rest_of w q → fingerprint_of w p % 2 ≡ fingerprint_of w q % 2 → shrink w v p ≤ shrink w v q
        order (yes g) a c e = omega (arith, ap (shrink w v) g)
        order (no g) a c e =
            let s = shrink-order w v p q (no-tombstone p lp (omega arith)) (no-tombstone q lq (omega arith)) (omega (arith, length-lt p)) (omega arith) (positive q c) e in
            omega arith

        go : Kind w v t p → Kind w v t q → Below (half w v t p) (half w v t q)
        go (none_of a e) k = nothing e
        go (other a b e) k = nothing e
        go (voided a e) (none_of c f) = no-later (half w v t p) f
        go (voided a e) (other c d f) = no-later (half w v t p) f
        go (voided a e) (voided c f) = pair (void v) (void v) e f (omega arith)
        go (voided a e) (mine c d f) = absurd (omega (arith, rising-rest w p q lp lq le))
        go (mine a b e) (none_of c f) = no-later (half w v t p) f
        go (mine a b e) (other c d f) = no-later (half w v t p) f
        go (mine a b e) (voided c f) = pair (shrink w v p) (void v) e f (le-void (shrink w v p) (shrink-lt p a) (omega (arith, shrink-rest p a, positive p a)))
        go (mine a b e) (mine c d f) = pair (shrink w v p) (shrink w v q) e f (order (ℕ_discrete p q) a c (b ∙ sym d))

    half-below : (p : ℕ) (run : List ℕ) → p < 2 ^ w → All (λ q. q < 2 ^ w) run → All (λ q. p ≤ q) run → Below (half w v t p) (half_run w v t run)
    unfolding half_run
    half-below p [] lp a c = each (half w v t p)
      where
        each : (l : List ℕ) → All (λ x. All (λ y. x ≤ y) []) l
        each [] = tt
        each (x ∷ l) = (tt, each l)
    half-below p (q ∷ run) lp a c = join (half w v t p) (half_le p q lp a.0 c.0) (half-below p run lp a.1 c.1)
      where
        join : (l : List ℕ) → Below l (half w v t q) → Below l (half_run w v t run) → Below l (half w v t q ++ half_run w v t run)
        join [] m n = tt
        join (x ∷ l) m n = (all_append (λ y. x ≤ y) (half w v t q) (half_run w v t run) m.0 n.0, join l m.1 n.1)

    pub half-rises : (run : List ℕ) → All (λ p. p < 2 ^ w) run → Rises run → Rises (half_run w v t run)
    unfolding half_run Rises
    half-rises [] a r = tt
    half-rises (p ∷ run) a r = cons (half w v t p) (half-one w v t p) (half-below p run a.0 a.1 r.0) (half-rises run a.1 r.1)
      where
        cons : (l : List ℕ) → length l ≤ 1 → Below l (half_run w v t run) → Rises (half_run w v t run) → Rises (l ++ half_run w v t run)
        cons [] s m ri = ri
        cons (x ∷ []) s m ri = (m.0, ri)
        cons (x ∷ y ∷ l) s m ri = absurd (omega arith)

    -- ---- its entries are as a main table's should be

    passes-one : (k p : ℕ) → T (main_entry w k p) → All (λ q. T (main_entry v (k + 1) q)) (half w v t p)
    unfolding length_of
    passes-one k p m = go (kind w v t p)
      where
        go : Kind w v t p → All (λ q. T (main_entry v (k + 1) q)) (half w v t p)
        go (none_of a e) = subst (All (λ q. T (main_entry v (k + 1) q))) (sym e) tt
        go (other a b e) = subst (All (λ q. T (main_entry v (k + 1) q))) (sym e) tt
        go (voided a e) = subst (All (λ q. T (main_entry v (k + 1) q))) (sym e) (passes v (k + 1) (void v) (void-lt v vpos) (λ l. absurd (omega (arith, void-rest v vpos))), tt)
        go (mine a b e) =
            subst (All (λ q. T (main_entry v (k + 1) q))) (sym e)
            (passes v (k + 1) (shrink w v p) (shrink-lt p a) (λ l. omega (arith, passes-6 w k p m a, shrink-rest p a)), tt)

    pub half-passes : (k : ℕ) (run : List ℕ) → All (λ p. T (main_entry w k p)) run → All (λ q. T (main_entry v (k + 1) q)) (half_run w v t run)
    unfolding half_run
    half-passes k [] a = tt
    half-passes k (p ∷ run) a = all_append (λ q. T (main_entry v (k + 1) q)) (half w v t p) (half_run w v t run) (passes-one k p a.0) (half-passes k run a.1)
