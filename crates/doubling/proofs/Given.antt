-- What the accepted case hands in: since no refusal is given the state is sound, which leaves the bounds and lengths that the code needs.
use mathlib.Core.Path.{◌≡◌, refl, sym, ap, ◌∙◌, subst}
use mathlib.Core.Bool.{Bool, ◌||◌}
use mathlib.Core.List.{List, [], ◌∷◌}
use Prim.Native.Nat.{ℕ, ◌+◌, ◌^◌, ◌≤◌, ◌<◌}
use native.Mathlib.Omega.{arith}
use native.Mathlib.Nat.{pow-suc}
use native.Mathlib.Numerals.{add-one}
use native.Mathlib.Decide.{dec_lt}
use lib.Dec.{T, leb, leb→le}
use lib.Pow.{pow_pos, pow_mono}
use lib.ListN.{length, get_or, get_or-eq_default}
use borrow.Author.Tests.{ne_eqb}
use Rattle.lists.specs.Lists.{every}
use Rattle.lists.specs.Runs.{rising, total}
use Rattle.lists.proofs.Alls.{All, all-get, all_any, all_map, all-every}
use Rattle.lists.proofs.RunLaws.{Rises, rises-rising}
use Rattle.slots.specs.Numbers.{limit}
use Rattle.slots.proofs.NumberLaws.{limit-lt}
use Rattle.layout.specs.Decode.{decode, run_at}
use Rattle.directory.specs.declared.Place.{Place}
use Rattle.directory.specs.Places.{places_in_use, places_not_in_use, places_right, zero_place}
use Rattle.rules.specs.Record.{Filter, width, width_at, in_use, annex_used}
use Rattle.rules.specs.Sound.{main_entry}
use Rattle.rules.specs.Doubling.{doubled, new_hashes, size_for}
use Rattle.rules.specs.Slow.{hashes, room_for, doubled_runs}
use Rattle.keeps.proofs.Holds.{length-words}
use Rattle.keeps.proofs.State.{Good, Fine, fine}
use Rattle.keeps.proofs.Bounds.{Bounds, bounds, width-pos, width_26, width-rises, place-fine, places-few}
use Rattle.keeps.proofs.Entries.{passes-lt}
use Rattle.keeps.proofs.Hashes.{hashes-few}
use Rattle.keeps.proofs.NewTable.{Sized, size-for}
use Rattle.keeps.proofs.Double.{few₂}
use Rattle.keeps.proofs.Doubled.{DoubleHad, number-had}
use Rattle.arriving.specs.Arrivals.{Narrow, Size}
use Rattle.arriving.proofs.Arrivals.{decode-get}
use Rattle.doubling.specs.Accepted.{Accepted}

few-places : (k : ℕ) (ps : List Place) → k < 20 → T (places_right k 5 ps) → length ps < 15
few-places k [] h t = omega arith
few-places k (p ∷ ps) h t =
    let f = place-fine k 5 p ps t in
    omega (arith, f.0.above, f.0.short, places-few k 5 (p ∷ ps) t (omega (arith, f.0.above, f.0.short)))

pub record Facts (main second annex : List ℕ) (k w v taken n : ℕ) (places : List Place) : Type 0 where
  pub main_size : Size main
  pub second_size : Size second
  pub second_long : length second ≡ length main + length main
  pub narrow : Narrow w main
  pub w_1 : 1 ≤ w
  pub w_v : w ≤ v
  pub v_26 : v ≤ 26
  pub rises : T (every rising (decode main))
  pub few : total (doubled w v (decode main)) < length second
  pub main_long : length main ≡ 2 ^ k
  pub k_19 : k ≤ 19
  pub counted : n ≡ length (new_hashes w k 0 (decode main))
  pub s_3 : 3 ≤ size_for n
  pub s_k : size_for n ≤ k
  pub fits : n < 2 ^ size_for n
  pub size : 2 ^ size_for n ≤ 1048576
  pub room : (n ≡ 0 → ⊥) → taken + 2 ^ size_for n ≤ length annex
  pub taken_small : taken ≤ 1048576
  pub free : length (places_in_use places) < 15
  pub zeros : T (every zero_place (places_not_in_use places))

-- ---- a good state

module _ (r : Filter) (main queue annex : List ℕ) (g : Good r main queue annex) where
  f : Fine r main queue annex (decode main)
  f = fine r main queue annex g

  b : Bounds r
  b = bounds r g.record-right

  long : length main ≡ 2 ^ r.k
  long = length-words f.table

  eight : 8 ≤ 2 ^ r.k
  eight = pow_mono {i = 3} {j = r.k} b.k_3

  sizes : Size main
  sizes = (omega (arith, long, eight), omega (arith, long, b.slots))

  narrow : Narrow (width r) main
  narrow c t h = go (dec_lt t (length (run_at main c)))
    where
      all : All (λ p. T (main_entry (width r) r.k p)) (run_at main c)
      all = subst (All (λ p. T (main_entry (width r) r.k p))) (decode-get main c h) (all_any (λ p. T (main_entry (width r) r.k p)) (decode main) c f.table.passes)

      go : Dec (t < length (run_at main c)) → get_or (run_at main c) t 0 < 2 ^ width r
      go (yes l) = passes-lt (width r) r.k (get_or (run_at main c) t 0) (all-get (λ p. T (main_entry (width r) r.k p)) (run_at main c) 0 all t l)
      go (no l) = omega (arith, get_or-eq_default (run_at main c) 0 {n = t} (omega arith), pow_pos (width r))

  -- what `count_new` asks
  pub count-asks : (w : ℕ) → w ≡ width r → Size main × (w ≤ 26) × Narrow w main × (total (decode main) ≤ 1048576)
  count-asks w e =
      (sizes, omega (arith, b.width_26), subst (λ (x : ℕ). Narrow x main) (sym e) narrow, omega (arith, f.table.counted, b.used_limit, b.limit_slots, b.slots))

-- ---- and a Double that is not refused

module _ (r : Filter) (main second queue annex : List ℕ) (d : DoubleHad r main queue annex second) where
  f₂ : Fine r main queue annex (decode main)
  f₂ = f r main queue annex d.state

  b₂ : Bounds r
  b₂ = b r main queue annex d.state

  two : 2 ^ (r.k + 1) ≡ 2 ^ r.k + 2 ^ r.k
  two = ap (λ (x : ℕ). 2 ^ x) (add-one r.k) ∙ pow-suc 2 r.k ∙ omega arith

  long₂ : length main ≡ 2 ^ r.k
  long₂ = long r main queue annex d.state

  few : total (doubled (width r) (width_at r (r.k + 1)) (decode main)) < length second
  few =
      let l : total (doubled (width r) (width_at r (r.k + 1)) (decode main)) ≤ limit (r.k + 1) = unfold doubled_runs in few₂ r main queue annex f₂ d.less d.empty in
      omega (arith, limit-lt (r.k + 1), d.long)

  hash-count : length (hashes r main queue annex) ≤ limit r.k
  unfolding hashes
  hash-count = omega (arith, hashes-few (width r) r.k 0 (decode main), f₂.table.counted, f₂.used_fits)

  sized : Sized r.k (length (hashes r main queue annex)) (size_for (length (hashes r main queue annex)))
  sized = size-for (length (hashes r main queue annex)) r.k b₂.k_3 b₂.k_20 hash-count

  room : (length (hashes r main queue annex) ≡ 0 → ⊥) → annex_used r + 2 ^ size_for (length (hashes r main queue annex)) ≤ length annex
  unfolding room_for
  room n =
      let ms : List ℕ = hashes r main queue annex in
      leb→le _ _ (subst (λ (x : Bool). T (x || leb (annex_used r + 2 ^ size_for (length ms)) (length annex))) (ne_eqb (length ms) 0 n) d.room)

  own : Facts main second annex r.k (width r) (width_at r (r.k + 1)) (annex_used r) (length (hashes r main queue annex)) r.dir
  own =
      let s : ℕ = size_for (length (hashes r main queue annex)) in
      record {
        main_size = sizes r main queue annex d.state;
        second_size = (omega (arith, d.long, two, eight r main queue annex d.state), omega (arith, d.long, pow_mono {i = r.k + 1} {j = 20} (omega (arith, d.less))));
        second_long = omega (arith, d.long, long₂, two);
        narrow = narrow r main queue annex d.state;
        w_1 = width-pos r r.k;
        w_v = width-rises r r.k b₂.settings b₂.start_k d.less;
        v_26 = width_26 r (r.k + 1) b₂.settings (omega (arith, d.less));
        rises = all-every rising (decode main) (all_map Rises (λ x. T (rising x)) rises-rising (decode main) f₂.table.rises);
        few = few;
        main_long = long₂;
        k_19 = omega (arith, d.less);
        counted = unfold hashes in refl;
        s_3 = sized.low;
        s_k = sized.high;
        fits = omega (arith, sized.fits, limit-lt s);
        size = omega (arith, pow_mono {i = s} {j = r.k} sized.high, b₂.slots);
        room = room;
        taken_small = b₂.annex_small;
        free = few-places r.k (in_use r) d.less f₂.places;
        zeros = f₂.zeros;
      }

-- the numbers handed in are those of the record
pub facts : (main second annex : List ℕ) (k w v taken n : ℕ) (places : List Place) → Accepted main second annex k w v taken n places → Facts main second annex k w v taken n places
facts main second annex k w v taken n places g =
    let r : Filter = g.r in
    let q : List ℕ = g.queue in
    let e = g.numbers in
    subst (λ (x : ℕ). Facts main second annex x w v taken n places) (sym e.is_k)
    (subst (λ (x : ℕ). Facts main second annex r.k x v taken n places) (sym e.is_w)
    (subst (λ (x : ℕ). Facts main second annex r.k (width r) x taken n places) (sym e.is_v)
    (subst (λ (x : ℕ). Facts main second annex r.k (width r) (width_at r (r.k + 1)) x n places) (sym e.is_taken)
    (subst (λ (x : ℕ). Facts main second annex r.k (width r) (width_at r (r.k + 1)) (annex_used r) x places) (sym e.is_n)
    (subst (λ (x : List Place). Facts main second annex r.k (width r) (width_at r (r.k + 1)) (annex_used r) (length (hashes r main q annex)) x) (sym e.is_places)
    (own r main second q annex (number-had r main q annex second g.number)))))))
