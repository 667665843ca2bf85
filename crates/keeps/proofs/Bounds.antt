-- The bounds that follow from a record that is in range: of powers, lengths and widths by arithmetic, of the annex since its lengths rise and each table has at
-- most half as many slots as there are hashes of its length.
use mathlib.Core.Path.{◌≡◌}
use mathlib.Core.Bool.{◌&&◌}
use mathlib.Core.List.{List, [], ◌∷◌}
use Prim.Native.Nat.{ℕ, zero, suc, ◌+◌, ◌-◌, ◌^◌, ◌≤◌, ◌<◌}
use native.Mathlib.Omega.{arith}
use native.Mathlib.Nat.{pow-suc}
use native.Mathlib.Decide.{dec_le}
use lib.Dec.{leb, T, leb→le}
use lib.ListN.{length}
use lib.Pow.{pow_mono}
use Rattle.lists.specs.Lists.{within, sum}
use Rattle.lists.proofs.Tests.{and_left, and_right}
use Rattle.lists.proofs.Alls.{All, all_map}
use Rattle.slots.specs.Numbers.{limit}
use Rattle.slots.proofs.NumberLaws.{limit-lt, extra-le, extra-mono}
use Rattle.directory.specs.declared.Place.{Place}
use Rattle.directory.specs.Places.{places_right, words_taken}
use Rattle.rules.specs.Record.{Filter, fresh_at, width_at, fresh, width, in_use, annex_used}
use Rattle.rules.specs.Refusals.{settings_right, record_right}
use Rattle.keeps.proofs.State.{ranges}

-- ---- the settings

pub record Sizes (start f regime : ℕ) : Type 0 where
  pub start_3 : 3 ≤ start
  pub start_10 : start ≤ 10
  pub f_3 : 3 ≤ f
  pub f_15 : f ≤ 15
  pub regime_1 : regime ≤ 1

pub sizes : (start f regime : ℕ) → T (settings_right start f regime) → Sizes start f regime
unfolding settings_right
sizes start f regime t =
    let A = within 3 10 start in
    let B = within 3 15 f in
    let C = leb regime 1 in
    let a = and_left A (B && C) t in
    let u = and_right A (B && C) t in
    let b = and_left B C u in
    record {
      start_3 = leb→le _ _ (and_left (leb 3 start) (leb start 10) a);
      start_10 = leb→le _ _ (and_right (leb 3 start) (leb start 10) a);
      f_3 = leb→le _ _ (and_left (leb 3 f) (leb f 15) b);
      f_15 = leb→le _ _ (and_right (leb 3 f) (leb f 15) b);
      regime_1 = leb→le _ _ (and_right B C u);
    }

-- ---- fresh length and width, in a table of 2^k slots

pub width_is : (r : Filter) (k : ℕ) → width_at r k ≡ fresh_at r k + 1
unfolding width_at
width_is r k = omega arith

pub width-fresh : (r : Filter) (k : ℕ) → fresh_at r k < width_at r k
width-fresh r k = omega (arith, width_is r k)

pub width-pos : (r : Filter) (k : ℕ) → 0 < width_at r k
width-pos r k = omega (arith, width_is r k)

pub fresh_3 : (r : Filter) (k : ℕ) → Sizes r.start r.f r.regime → 3 ≤ fresh_at r k
unfolding fresh_at
fresh_3 r k z = omega arith

pub width_26 : (r : Filter) (k : ℕ) → Sizes r.start r.f r.regime → k ≤ 20 → width_at r k ≤ 26
unfolding fresh_at width_at
width_26 r k z h = omega (arith, extra-le r.regime (k - r.start) (omega arith))

-- the width does not fall from one generation to the next
pub width-rises : (r : Filter) (k : ℕ) → Sizes r.start r.f r.regime → r.start ≤ k → k < 20 → width_at r k ≤ width_at r (k + 1)
unfolding fresh_at width_at
width-rises r k z l h =
    let e : k + 1 - r.start ≡ k - r.start + 1 = omega arith in
    rw e (omega (arith, extra-mono r.regime (k - r.start) (omega arith)))

-- ---- the places in use

pub record PlaceFine (k last : ℕ) (p : Place) : Type 0 where
  pub above : last < p.b
  pub short : p.b ≤ k
  pub s_3 : 3 ≤ p.s
  pub s_b : p.s < p.b
  pub fits : p.count ≤ limit p.s

-- the first of them, and the rest
pub place-fine : (k last : ℕ) (p : Place) (ps : List Place) → T (places_right k last (p ∷ ps)) → PlaceFine k last p × T (places_right k p.b ps)
unfolding places_right
place-fine k last p ps t =
    let A = within (last + 1) k p.b in
    let B = within 3 (p.b - 1) p.s in
    let C = leb p.count (limit p.s) in
    let D = places_right k p.b ps in
    let a = and_left A (B && (C && D)) t in
    let t1 = and_right A (B && (C && D)) t in
    let b = and_left B (C && D) t1 in
    let t2 = and_right B (C && D) t1 in
    let b1 : last + 1 ≤ p.b = leb→le _ _ (and_left (leb (last + 1) p.b) (leb p.b k) a) in
    let s2 : p.s ≤ p.b - 1 = leb→le _ _ (and_right (leb 3 p.s) (leb p.s (p.b - 1)) b) in (
      record {
        above = omega arith;
        short = leb→le _ _ (and_right (leb (last + 1) p.b) (leb p.b k) a);
        s_3 = leb→le _ _ (and_left (leb 3 p.s) (leb p.s (p.b - 1)) b);
        s_b = omega arith;
        fits = leb→le _ _ (and_left C D t2);
      },
      and_right C D t2,
    )

pub places-fine : (k last : ℕ) (ps : List Place) → T (places_right k last ps) → All (PlaceFine k last) ps
places-fine k last [] t = tt
places-fine k last (p ∷ ps) t =
    let f = place-fine k last p ps t in (
      f.0,
      all_map (PlaceFine k p.b) (PlaceFine k last) (λ q g. record { above = omega (arith, f.0.above, g.above); short = g.short; s_3 = g.s_3; s_b = g.s_b; fits = g.fits }) ps
          (places-fine k p.b ps f.1),
    )

-- lengths rise, so there are few of them
pub places-few : (k last : ℕ) (ps : List Place) → T (places_right k last ps) → last ≤ k → length ps + last ≤ k
places-few k last [] t h = omega arith
places-few k last (p ∷ ps) t h =
    let f = place-fine k last p ps t in omega (arith, f.0.above, places-few k p.b ps f.1 f.0.short)

-- and the tables, each of at most 2^(b-1) words, have at most 2^k in all
pub words-few : (k last : ℕ) (ps : List Place) → T (places_right k last ps) → last ≤ k → words_taken ps + 2 ^ last ≤ 2 ^ k
unfolding words_taken sum
words-few k last [] t h = omega (arith, pow_mono {i = last} {j = k} h)
words-few k last (p ∷ ps) t h =
    let f = place-fine k last p ps t in
    omega (arith, words-few k p.b ps f.1 f.0.short, halves p.b p.s last f.0.s_b f.0.above)
  where
    halves : (b s l : ℕ) → s < b → l < b → 2 ^ s + 2 ^ l ≤ 2 ^ b
    halves zero s l x y = absurd (omega arith)
    halves (suc b) s l x y = omega (arith, pow-suc 2 b, pow_mono {i = s} {j = b} (omega arith), pow_mono {i = l} {j = b} (omega arith))

-- ---- a record in range

pub record Bounds (r : Filter) : Type 0 where
  pub settings : Sizes r.start r.f r.regime
  pub k_3 : 3 ≤ r.k
  pub k_20 : r.k ≤ 20
  pub start_k : r.start ≤ r.k
  pub generation : r.k - r.start < 18
  pub slots : 2 ^ r.k ≤ 1048576
  pub fresh_3 : 3 ≤ fresh r
  pub fresh_width : fresh r < width r
  pub width_is : width r ≡ fresh r + 1
  pub width_4 : 4 ≤ width r
  pub width_26 : width r ≤ 26
  pub used_limit : r.used ≤ limit r.k
  pub limit_slots : limit r.k < 2 ^ r.k
  pub queued_small : r.queued ≤ 1048576
  pub places : All (PlaceFine r.k 5) (in_use r)
  pub places_15 : length (in_use r) ≤ 15
  pub annex_slots : annex_used r ≤ 2 ^ r.k
  pub annex_small : annex_used r ≤ 1048576

pub bounds : (r : Filter) → T (record_right r) → Bounds r
bounds r t =
    let v = ranges r t in
    let z = sizes r.start r.f r.regime v.settings in
    let big : 2 ^ r.k ≤ 1048576 = pow_mono {i = r.k} {j = 20} v.high_k in
    let few = annex-few v.places in
    let f3 : 3 ≤ fresh r = fresh_3 r r.k z in
    record {
      settings = z;
      k_3 = omega (arith, z.start_3, v.low_k);
      k_20 = v.high_k;
      start_k = v.low_k;
      generation = omega (arith, z.start_3, v.high_k);
      slots = big;
      fresh_3 = f3;
      fresh_width = width-fresh r r.k;
      width_is = width_is r r.k;
      width_4 = omega (arith, width_is r r.k);
      width_26 = width_26 r r.k z v.high_k;
      used_limit = v.used_fits;
      limit_slots = limit-lt r.k;
      queued_small = v.queue_fits;
      places = places-fine r.k 5 (in_use r) v.places;
      places_15 = omega (arith, few.0, v.high_k);
      annex_slots = few.1;
      annex_small = omega (arith, few.1);
    }
  where
    annex-few : T (places_right r.k 5 (in_use r)) → (length (in_use r) ≤ r.k - 5) × (annex_used r ≤ 2 ^ r.k)
    annex-few t = go (in_use r) t (dec_le 5 r.k)
      where
        go : (ps : List Place) → T (places_right r.k 5 ps) → Dec (5 ≤ r.k) → (length ps ≤ r.k - 5) × (words_taken ps ≤ 2 ^ r.k)
        go ps t (yes h) = (omega (arith, places-few r.k 5 ps t h), omega (arith, words-few r.k 5 ps t h))
        go [] t (no h) = (omega arith, unfold words_taken sum in omega arith)
        go (p ∷ ps) t (no h) = absurd (let f = place-fine r.k 5 p ps t in omega (arith, f.0.above, f.0.short))
