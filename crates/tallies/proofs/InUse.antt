-- The places in use, one after the other: each is within the limits of number 2, and the tables follow one another in the annex.
use mathlib.Core.Path.{◌≡◌, sym, ap, ◌∙◌, subst}
use mathlib.Core.Bool.{not, ◌&&◌}
use mathlib.Core.List.{List, [], ◌∷◌}
use Prim.Native.Nat.{ℕ, suc, ◌+◌, ◌-◌, ◌^◌, ◌≤◌, ◌<◌}
use native.Mathlib.Omega.{arith}
use native.Mathlib.Numerals.{add-one}
use lib.Dec.{leb, T, le→leb}
use borrow.Author.Tests.{eq-eqb, ne_eqb}
use lib.ListN.{length, get_or, take, drop, length-drop}
use lib.Seq.{drop-cons, drop-drop, length-take-le}
use Rattle.lists.specs.Lists.{within, every, front}
use Rattle.lists.proofs.Tests.{and_both}
use Rattle.lists.proofs.Alls.{All}
use Rattle.slots.specs.Numbers.{limit}
use Rattle.slots.proofs.NumberLaws.{limit-lt}
use Rattle.directory.specs.declared.Place.{Place}
use Rattle.directory.specs.Places.{no_place, taken, places_in_use, places_not_in_use, places_right, zero_place, directory_right, words_taken}
use Rattle.directory.proofs.Front.{front-yes, front-no}
use Rattle.directory.proofs.Laws.{RightPlace, right-used, right-rest, right-first, right-next, right-places, words-cons}

-- lengths up to k are lengths up to 20
more-places : (k last : ℕ) (ps : List Place) → k ≤ 20 → T (places_right k last ps) → T (places_right 20 last ps)
unfolding places_right
more-places k last [] h t = tt
more-places k last (p ∷ ps) h t =
    let r = right-first k last p ps t in
    let few = leb p.count (limit p.s) && places_right 20 p.b ps in
    and_both (within (last + 1) 20 p.b) (within 3 (p.b - 1) p.s && few)
    (and_both (leb (last + 1) p.b) (leb p.b 20) (le→leb (last + 1) p.b (omega (arith, r.b_low))) (le→leb p.b 20 (omega (arith, r.b_high))))
    (and_both (within 3 (p.b - 1) p.s) few
    (and_both (leb 3 p.s) (leb p.s (p.b - 1)) (le→leb 3 p.s r.s_low) (le→leb p.s (p.b - 1) (omega (arith, r.s_high))))
    (and_both (leb p.count (limit p.s)) (places_right 20 p.b ps) (le→leb p.count (limit p.s) r.count_high)
    (more-places k p.b ps h (right-next k last p ps t))))

pub directory-20 : (k : ℕ) (places : List Place) → k ≤ 20 → T (directory_right k places) → T (directory_right 20 places)
unfolding directory_right
directory-20 k places h t =
    and_both (places_right 20 5 (places_in_use places)) (every zero_place (places_not_in_use places))
    (more-places k 5 (places_in_use places) h (right-used k places t))
    (right-rest k places t)

-- ---- after i places, which take `at` words

pub record Walk (places : List Place) (annex : List ℕ) (i at : ℕ) : Type 0 where
  pub limits : All (RightPlace 20 5) (places_in_use (drop i places))
  pub room : at + words_taken (places_in_use (drop i places)) ≤ length annex

pub walk_start : (places : List Place) (annex : List ℕ) → T (directory_right 20 places) → words_taken (places_in_use places) ≤ length annex
    → Walk places annex 0 0
walk_start places annex t h = record { limits = right-places 20 places t; room = omega arith }

pub none_left : (places : List Place) (i : ℕ) → length places ≤ i → places_in_use (drop i places) ≡ []
unfolding front
none_left places i h = ap places_in_use (lib.ListN.drop_of_length-le places {i = i} h)

module _ (places : List Place) (i : ℕ) (p : Place) (hi : i < length places) (ep : p ≡ get_or places i no_place) where
  cut : drop i places ≡ p ∷ drop (i + 1) places
  cut = rw (add-one i) (drop-cons places i no_place hi ∙ ap (λ (x : Place). x ∷ drop (suc i) places) (sym ep))

  pub not_taken : p.b ≡ 0 → places_in_use (drop i places) ≡ []
  not_taken z = ap places_in_use cut ∙ front-no taken p (drop (i + 1) places) (ap not (eq-eqb p.b 0 z))

  module _ (nz : p.b ≡ 0 → ⊥) where
    pub next-taken : places_in_use (drop i places) ≡ p ∷ places_in_use (drop (i + 1) places)
    next-taken = ap places_in_use cut ∙ front-yes taken p (drop (i + 1) places) (ap not (ne_eqb p.b 0 nz))

    module _ (annex : List ℕ) (at : ℕ) (s : Walk places annex i at) where
      both : RightPlace 20 5 p × All (RightPlace 20 5) (places_in_use (drop (i + 1) places))
      both = subst (All (RightPlace 20 5)) next-taken s.limits

      pub walk-least : 3 ≤ p.s
      walk-least = both.0.s_low

      pub walk-below : p.s < p.b
      walk-below = both.0.s_high

      pub walk-most : p.b ≤ 20
      walk-most = both.0.b_high

      pub walk-power : p.s ≤ 20
      walk-power = omega (arith, walk-below, walk-most)

      words_left : at + (2 ^ p.s + words_taken (places_in_use (drop (i + 1) places))) ≤ length annex
      words_left = omega (arith, s.room, ap words_taken next-taken, words-cons p (places_in_use (drop (i + 1) places)))

      module _ (size : ℕ) (es : size ≡ 2 ^ p.s) where
        pub walk-room : at + size ≤ length annex
        walk-room = omega (arith, words_left)

        pub part-is : take (at + size - at) (drop at annex) ≡ take (2 ^ p.s) (drop at annex)
        part-is =
            let z : at + size - at ≡ size = omega arith in
            ap (λ (x : ℕ). take x (drop at annex)) (z ∙ es)

        pub rest-is : drop (2 ^ p.s) (drop at annex) ≡ drop (at + size) annex
        rest-is = drop-drop (2 ^ p.s) at annex ∙ ap (λ (z : ℕ). drop (at + z) annex) (sym es)

        pub walk-size : length (take (at + size - at) (drop at annex)) ≡ 2 ^ p.s
        walk-size = ap length part-is ∙ length-take-le (2 ^ p.s) (drop at annex) (omega (arith, words_left, length-drop at annex))

        pub walk-few : p.count < length (take (at + size - at) (drop at annex))
        walk-few = omega (arith, walk-size, both.0.count_high, limit-lt p.s)

        pub walk-on : Walk places annex (i + 1) (at + size)
        walk-on = record { limits = both.1; room = omega (arith, words_left) }
