-- One step of each loop, and its end: what the definitions say at the code's place, by what its tests found there.
use mathlib.Core.Path.{◌≡◌, sym, ap, ap₂, ◌∙◌}
use mathlib.Core.Bool.{Bool, true, false, cond, not}
use mathlib.Core.List.{List, [], ◌∷◌, ◌++◌}
use Prim.Native.Nat.{ℕ, suc, ◌+◌, ◌-◌, ◌*◌, ◌≤◌, ◌<◌, ◌^◌}
use native.Mathlib.Omega.{arith}
use lib.Dec.{T, eqb}
use lib.ListN.{length, get_or, take, drop, set, length-take}
use lib.Seq.{take-suc, take-length, get_or-take, length-take-le}
use borrow.Author.Tests.{eq-eqb, ne_eqb, eqb-true, ltb-false}
use Rattle.std.proofs.Common.{Some, None, position, refl}
use Rattle.std.specs.List.{position_or_len}
use Rattle.std.proofs.lemmas.List.Sums.{fails_before_first}
use Rattle.std.proofs.lemmas.List.Quantifiers.{position-Some}
use Rattle.lists.specs.Lists.{every}
use Rattle.lists.proofs.Tests.{no_true, true-test}
use Rattle.lists.proofs.Alls.{get-every}
use Rattle.directory.specs.declared.Place.{Place}
use Rattle.directory.specs.Places.{no_place, taken, other, places_in_use, places_not_in_use, zero_place, words_taken, part_in, offset_in, trim, fifteen}
use Rattle.directory.proofs.Front.{front_length, front-get, front-take}
use Rattle.directory.proofs.Laws.{fifteen-in-use, fifteen-add, fifteen-drop, fifteen-last, words_inside, part_none, part_at, offset_at, trim-empty, trim-full}

-- ---- the place of a length

abbrev pub has_length : ℕ → Place → Bool
has_length b p = eqb p.b b

pub in-use : (ps : List Place) (n : ℕ) → n ≡ length (places_in_use ps) → take n ps ≡ places_in_use ps
in-use ps n e =
    sym (front-take taken ps n (omega arith)) ∙ ap (λ (m : ℕ). take m (places_in_use ps)) e ∙ take-length (places_in_use ps)

has-not : (b : ℕ) (p : Place) → has_length b p ≡ false → T (other b p)
has-not b p e = true-test (other b p) (ap not (ne_eqb b p.b (λ d. no_true (sym e ∙ eq-eqb p.b b (sym d)))))

none-past : (n : ℕ) (t : Bool) → cond t (Some n) None ≡ None → t ≡ false
none-past n true e = cc
none-past n false e = refl

-- ---- a part

module _ (b : ℕ) (ps : List Place) where
  abbrev us : List Place
  us = places_in_use ps

  pub part-nothing : (ws : List ℕ) → None ≡ position (has_length b) us → [] ≡ part_in b us ws
  part-nothing ws e =
      let n : length us ≤ position_or_len (has_length b) us = ltb-false _ _ (none-past _ _ (sym e)) in
      sym (part_none b us ws (get-every (other b) us no_place
      (λ k h. has-not b (get_or us k no_place) (fails_before_first (has_length b) us k no_place (omega arith)))))

  module _ (i : ℕ) (e : Some i ≡ position (has_length b) us) where
    found : (i < length us) × (has_length b (get_or us i no_place) ≡ true) × ((k : ℕ) → k < i → has_length b (get_or us k no_place) ≡ false)
    found = position-Some (has_length b) us i no_place (sym e)

    pub place-low : length ps ≡ 15 → i < 15
    place-low l = omega (arith, found.0, front_length taken ps)

    others : T (every (other b) (take i us))
    others =
        get-every (other b) (take i us) no_place
        (λ k h.
        let l : k < i = omega (arith, length-take i us) in
        has-not b (get_or (take i us) k no_place) (ap (has_length b) (get_or-take i us k no_place l) ∙ found.2 k l))

    has : b ≡ (get_or us i no_place).b
    has = sym (eqb-true _ _ found.1)

    module _ (ws : List ℕ) (at z : ℕ) (ea : at ≡ words_taken (take i us)) (ez : z ≡ 2 ^ (get_or ps i no_place).s) where
      same_size : 2 ^ (get_or ps i no_place).s ≡ 2 ^ (get_or us i no_place).s
      same_size = ap (λ (p : Place). 2 ^ p.s) (sym (front-get taken ps i no_place found.0))

      pub part-ends : words_taken us ≤ length ws → at + z ≤ length ws
      part-ends l = omega (arith, words_inside us i found.0, same_size)

      pub part-found : take (at + z - at) (drop at ws) ≡ part_in b us ws
      part-found =
          let n : at + z - at ≡ 2 ^ (get_or us i no_place).s = omega (arith, same_size) in
          ap (λ (m : ℕ). take m (drop at ws)) n
          ∙ ap (λ (m : ℕ). take (2 ^ (get_or us i no_place).s) (drop m ws)) ea
          ∙ sym (part_at b us i ws found.0 others has)

      pub part_lies : (n o : ℕ) → 0 < n → at * 4 + o ≡ o + 4 * offset_in b us
      part_lies n o _ = omega (arith, offset_at b us i found.0 others has)

-- ---- one table more

pub add-table : (ps : List Place) (q : Place) (n : ℕ) → length ps ≡ 15 → T (every zero_place (places_not_in_use ps)) → n ≡ length (places_in_use ps)
    → length (places_in_use ps) < 15
    → set ps n q ≡ fifteen (places_in_use ps ++ (q ∷ []))
add-table ps q n l t e h =
    ap (λ (m : ℕ). set ps m q) e ∙ ap (λ (x : List Place). set x (length (places_in_use ps)) q) (sym (fifteen-in-use ps l t))
    ∙ fifteen-add (places_in_use ps) h q

-- ---- empty tables at the end

-- what is left of the tables us when the places from i on are dropped
pub record Left (us ps : List Place) (i : ℕ) : Type 0 where
  pub high : i ≤ length us
  pub places : ps ≡ fifteen (take i us)
  pub tables : trim us ≡ trim (take i us)

pub left-start : (ps : List Place) (i : ℕ) → length ps ≡ 15 → T (every zero_place (places_not_in_use ps)) → i ≡ length (places_in_use ps)
    → Left (places_in_use ps) ps i
left-start ps i l t e =
    let f : take i (places_in_use ps) ≡ places_in_use ps = ap (λ (n : ℕ). take n (places_in_use ps)) e ∙ take-length (places_in_use ps) in
    record { high = omega arith; places = sym (fifteen-in-use ps l t) ∙ ap fifteen (sym f); tables = ap trim (sym f) }

module _ (us ps : List Place) (i : ℕ) (c : Left us ps i) (l : i ≤ 15) (h : 0 < i) where
  last : Place
  last = get_or us (i - 1) no_place

  one : take i us ≡ take (i - 1) us ++ last ∷ []
  unfolding last
  one = let e : i ≡ suc (i - 1) = omega arith in ap (λ (n : ℕ). take n us) e ∙ take-suc us (i - 1) no_place (omega arith)

  long : length (take (i - 1) us) ≡ i - 1
  long = length-take-le (i - 1) us (omega arith)

  is_last : get_or ps (i - 1) no_place ≡ last
  is_last =
      ap (λ (q : List Place). get_or q (i - 1) no_place) (c.places ∙ ap fifteen one)
      ∙ ap (λ (n : ℕ). get_or (fifteen (take (i - 1) us ++ last ∷ [])) n no_place) (sym long)
      ∙ fifteen-last (take (i - 1) us) (omega (arith, long)) last

  pub left-stop : ((get_or ps (i - 1) no_place).count ≡ 0 → ⊥) → ps ≡ fifteen (trim us)
  left-stop n =
      let f : last.count ≡ 0 → ⊥ = λ q. n (ap (λ (p : Place). p.count) is_last ∙ q) in
      let k : trim us ≡ take i us = c.tables ∙ ap trim one ∙ trim-full (take (i - 1) us) last f ∙ sym one in
      c.places ∙ ap fifteen (sym k)

  pub left-again : (get_or ps (i - 1) no_place).count ≡ 0 → (q : Place) → q ≡ no_place → Left us (set ps (i - 1) q) (i - 1)
  left-again e q d =
      let f : last.count ≡ 0 = sym (ap (λ (p : Place). p.count) is_last) ∙ e in
      let s : set ps (i - 1) q ≡ fifteen (take (i - 1) us)
      = ap₂ (λ (l : List Place) (p : Place). set l (i - 1) p) (c.places ∙ ap fifteen one) d
      ∙ ap (λ (n : ℕ). set (fifteen (take (i - 1) us ++ last ∷ [])) n no_place) (sym long)
      ∙ fifteen-drop (take (i - 1) us) (omega (arith, long)) last in
      record { high = omega arith; places = s; tables = c.tables ∙ ap trim one ∙ trim-empty (take (i - 1) us) last f }

pub left_end : (us ps : List Place) (i : ℕ) → Left us ps i → i ≤ 0 → ps ≡ fifteen (trim us)
unfolding trim
left_end us ps i c h =
    let e : i ≡ 0 = omega arith in
    let f : take i us ≡ [] = ap (λ (n : ℕ). take n us) e in
    let k : trim us ≡ [] = c.tables ∙ ap trim f in
    c.places ∙ ap fifteen (f ∙ sym k)
