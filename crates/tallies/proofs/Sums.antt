-- The mother hashes that match the addresses of a block: the tables in use are counted one after the other, and what is counted and what the others hold make
-- the whole.
use mathlib.Core.Path.{◌≡◌, refl, sym, ap, ap₂, ◌∙◌, subst}
use mathlib.Core.Bool.{Bool, true, false, ◌&&◌}
use mathlib.Core.List.{List, [], ◌∷◌}
use Prim.Native.Nat.{ℕ, ◌+◌, ◌-◌, ◌*◌, ◌%◌, ◌^◌, ◌≤◌, ◌<◌}
use native.Mathlib.Omega.{arith}
use native.Mathlib.Nat.{mod-lt}
use native.Mathlib.Decide.{dec_lt}
use lib.Dec.{T, eqb}
use lib.Pow.{pow_pos, pow_mono}
use lib.ListN.{length, get_or, take, drop}
use Rattle.lists.specs.Lists.{bit, sum}
use Rattle.lists.specs.Runs.{count}
use Rattle.lists.proofs.Tests.{and_left, and_right, test-true}
use Rattle.layout.specs.Decode.{decode}
use Rattle.layout.proofs.Puts.{run_room}
use Rattle.directory.specs.declared.Place.{Place}
use Rattle.directory.specs.Places.{no_place, places_in_use}
use Rattle.rules.specs.Tables.{hash_entry, matching, mothers_of, tables}
use Rattle.rules.specs.Sound.{table_right, annex_entry, annex_right}
use Rattle.annex.specs.Stored.{table_of}
use Rattle.sound.specs.Reading.{Laid}
use Rattle.sound.proofs.Tables.{right-laid}
use Rattle.tallies.specs.Tally.{block_size, AtMost, Raised, Stored}
use Rattle.tallies.proofs.InUse.{Walk, none_left, not_taken, next-taken, part-is, rest-is, walk-below, walk-most, walk-size, walk-few}
use Rattle.tallies.proofs.Carries.{same_size, small}

bit_le : (b : Bool) → bit b ≤ 1
bit_le true = omega arith
bit_le false = omega arith

pub count-le : (p : ℕ) (l : List ℕ) → count p l ≤ length l
unfolding count
count-le p [] = omega arith
count-le p (x ∷ l) = omega (arith, count-le p l, bit_le (eqb p x))

-- ---- sizes

pub power-20 : (k x : ℕ) → k ≤ 20 → x ≡ 2 ^ k → x ≤ 1048576
power-20 k x h e = omega (arith, pow_mono {i = k} {j = 20} h)

pub room-20 : (s b x : ℕ) → x ≡ 2 ^ s → s < b → b ≤ 20 → x ≤ 1048576
room-20 s b x e h l = power-20 s x (omega arith) e

pub room-1 : (s x : ℕ) → x ≡ 2 ^ s → 3 ≤ s → 1 < x
room-1 s x e h = omega (arith, pow_mono {i = 3} {j = s} h)

-- ---- one table

-- it has at most as many mother hashes for an address as slots
few-match : (c b s : ℕ) (part : List ℕ) → Laid part → length part ≡ 2 ^ s → length part ≤ 1048576 → matching c (table_of b s part) ≤ 1048576
unfolding matching
few-match c b s part laid n h =
    let runs = decode part in
    let i = c % 2 ^ s in
    let l : i < length runs = omega (arith, mod-lt c (pow_pos s), same_size part laid) in
    omega (
      arith,
      count-le (hash_entry b s (c % 2 ^ b)) (get_or runs i []),
      run_room runs i l (small part laid),
      laid.small,
    )

-- ---- one table after the other: after i places, with `total` counted

pub record Sum (places : List Place) (annex : List ℕ) (c i at total : ℕ) : Type 0 where
  pub left : mothers_of c (tables (places_in_use places) annex) ≡ total + mothers_of c (tables (places_in_use (drop i places)) (drop at annex))
  pub few : total ≤ i * 1048576

pub sum-start : (places : List Place) (annex : List ℕ) (c : ℕ) → Sum places annex c 0 0 0
sum-start places annex c = record { left = omega arith; few = omega arith }

module _ (places : List Place) (annex : List ℕ) (c i at total : ℕ) (s : Sum places annex c i at total) where
  sum_done : places_in_use (drop i places) ≡ [] → total ≡ mothers_of c (tables (places_in_use places) annex)
  unfolding mothers_of tables sum
  sum_done e =
      let z : mothers_of c (tables (places_in_use (drop i places)) (drop at annex)) ≡ 0 = ap (λ (l : List Place). mothers_of c (tables l (drop at annex))) e in
      omega (arith, s.left)

  pub sum-end : length places ≤ i → total ≡ mothers_of c (tables (places_in_use places) annex)
  sum-end h = sum_done (none_left places i h)

  module _ (p : Place) (hi : i < length places) (ep : p ≡ get_or places i no_place) where
    pub sum-stop : p.b ≡ 0 → total ≡ mothers_of c (tables (places_in_use places) annex)
    sum-stop z = sum_done (not_taken places i p hi ep z)

    pub sum-on : (p.b ≡ 0 → ⊥) → Walk places annex i at → (size x : ℕ) → size ≡ 2 ^ p.s
        → x ≡ matching c (table_of p.b p.s (take (at + size - at) (drop at annex))) → x ≤ 1048576
        → Sum places annex c (i + 1) (at + size) (total + x)
    unfolding mothers_of tables sum
    sum-on nz w size x es ex l =
        let ps = places_in_use (drop (i + 1) places) in
        let rest = mothers_of c (tables ps (drop (2 ^ p.s) (drop at annex))) in
        let e : mothers_of c (tables (places_in_use (drop i places)) (drop at annex)) ≡ x + rest =
        ap (λ (l : List Place). mothers_of c (tables l (drop at annex))) (next-taken places i p hi ep nz)
        ∙ ap (λ (m : ℕ). m + rest)
        (sym (ex ∙ ap (λ (l : List ℕ). matching c (record { b = p.b; s = p.s; runs = decode l })) (part-is places i p hi ep nz annex at w size es))) in
        let f : rest ≡ mothers_of c (tables ps (drop (at + size) annex)) =
        ap (λ (a : List ℕ). mothers_of c (tables ps a)) (rest-is places i p hi ep nz annex at w size es) in
        record { left = omega (arith, s.left); few = omega (arith, s.few) }

-- ---- for each address of a block

pub record Sums (places : List Place) (annex : List ℕ) (base n i at : ℕ) (mothers : List ℕ) : Type 0 where
  pub size : length mothers ≡ block_size
  pub each : (j : ℕ) → j < n → Sum places annex (base + j) i at (get_or mothers j 0)
  pub others : (j : ℕ) → n ≤ j → get_or mothers j 0 ≡ 0
  pub good : T (annex_right (places_in_use (drop i places)) (drop at annex))

module _ (places : List Place) (annex : List ℕ) (base n : ℕ) where
  pub sums-start : (mothers : List ℕ) → length mothers ≡ block_size → AtMost 0 mothers → T (annex_right (places_in_use places) annex)
      → Sums places annex base n 0 0 mothers
  sums-start mothers e z t =
      let none : (j : ℕ) → get_or mothers j 0 ≡ 0 = λ j. omega (arith, z j) in
      record {
        size = e;
        each = λ j h. subst (Sum places annex (base + j) 0 0) (sym (none j)) (sum-start places annex (base + j));
        others = λ j h. none j;
        good = t;
      }

  module _ (i at : ℕ) (mothers : List ℕ) (u : Sums places annex base n i at mothers) where
    pub sums-end : length places ≤ i → Stored base n (tables (places_in_use places) annex) mothers
    sums-end h = record { size = u.size; stored = λ j l. sum-end places annex (base + j) i at (get_or mothers j 0) (u.each j l) h }

    pub sums-small : i ≤ 15 → AtMost 15728640 mothers
    sums-small h j = go (dec_lt j n)
      where
        go : Dec (j < n) → get_or mothers j 0 ≤ 15728640
        go (yes l) = omega (arith, (u.each j l).few)
        go (no l) = omega (arith, u.others j (omega arith))

    module _ (p : Place) (hi : i < length places) (ep : p ≡ get_or places i no_place) where
      pub sums-stop : p.b ≡ 0 → Stored base n (tables (places_in_use places) annex) mothers
      sums-stop z = record { size = u.size; stored = λ j l. sum-stop places annex (base + j) i at (get_or mothers j 0) (u.each j l) p hi ep z }

      module _ (nz : p.b ≡ 0 → ⊥) (w : Walk places annex i at) (size : ℕ) (es : size ≡ 2 ^ p.s) where
        abbrev part : List ℕ
        part = take (at + size - at) (drop at annex)

        abbrev table : Bool
        table = table_right (annex_entry (p.b - p.s)) p.count part

        abbrev others-right : Bool
        others-right = annex_right (places_in_use (drop (i + 1) places)) (drop (at + size) annex)

        right : T (table && others-right)
        unfolding annex_right
        right =
            subst T
            (ap (λ (l : List Place). annex_right l (drop at annex)) (next-taken places i p hi ep nz)
            ∙ ap₂ (λ (x y : List ℕ). table_right (annex_entry (p.b - p.s)) p.count x && annex_right (places_in_use (drop (i + 1) places)) y)
            (sym (part-is places i p hi ep nz annex at w size es)) (rest-is places i p hi ep nz annex at w size es))
            u.good

        pub sums-laid : Laid part
        sums-laid =
            right-laid (annex_entry (p.b - p.s)) p.count part (walk-few places i p hi ep nz annex at w size es)
            (test-true table (and_left table others-right right))

        pub sums_on : (after : List ℕ) → Raised (λ c. matching c (table_of p.b p.s part)) base n mothers after
            → Sums places annex base n (i + 1) (at + size) after
        sums_on after r =
            record {
              size = r.size ∙ u.size;
              each =
                  λ j h. subst (Sum places annex (base + j) (i + 1) (at + size)) (sym (r.raised j h))
                  (sum-on places annex (base + j) i at (get_or mothers j 0) (u.each j h) p hi ep nz w size
                  (matching (base + j) (table_of p.b p.s part)) es refl
                  (few-match (base + j) p.b p.s part sums-laid (walk-size places i p hi ep nz annex at w size es)
                  (room-20 p.s p.b (length part) (walk-size places i p hi ep nz annex at w size es) (walk-below places i p hi ep nz annex at w)
                  (walk-most places i p hi ep nz annex at w))));
              others = λ j h. r.others j h ∙ u.others j h;
              good = and_right table others-right right;
            }
