-- The payload tests are spans of numbers: payloads with more than d bits left lie below 2^w - 2^d.
use mathlib.Core.Path.{◌≡◌, refl}
use mathlib.Core.Logic.{◌⊎◌, inl, inr}
use mathlib.Core.Bool.{Bool, true, false, ◌&&◌, ◌||◌}
use Prim.Native.Nat.{ℕ, suc, ◌+◌, ◌-◌, ◌^◌, ◌≤◌, ◌<◌}
use native.Mathlib.Omega.{arith}
use native.Mathlib.Nat.{pow-suc}
use native.Mathlib.Decide.{dec_lt}
use lib.Dec.{leb, ltb, eqb}
use lib.Pow.{pow_mono}
use borrow.Author.Tests.{eqb-true, ltb-true, leb-true, eq-eqb, lt-ltb, le-leb}
use Rattle.slots.specs.Payload.{rest_of, length_of}
use Rattle.slots.proofs.PayloadLaws.{rest-range}
use Rattle.sound.specs.declared.Spans.{Spans}
use Rattle.sound.specs.Spans.{allowed}
use Rattle.rules.specs.Sound.{main_entry, annex_entry}
use Rattle.lists.proofs.Tests.{no_true, same_test}
use Rattle.sound.proofs.Laps.{and-true, true-and}

or-true : (a b : Bool) → (a || b) ≡ true → (a ≡ true) ⊎ (b ≡ true)
or-true true b e = inl refl
or-true false b e = inr e

or_left : (a b : Bool) → a ≡ true → (a || b) ≡ true
or_left true b e = refl
or_left false b e = absurd (no_true e)

or_right : (a b : Bool) → b ≡ true → (a || b) ≡ true
or_right true b e = refl
or_right false b e = e

-- the payloads with more than d bits left are those below 2^w - 2^d
module _ (w p d : ℕ) (h : p < 2 ^ w) where
  longer : d < rest_of w p → p + 2 ^ d < 2 ^ w
  longer l = let r = rest-range w p h in omega (arith, r.high, pow_mono {i = suc d} {j = rest_of w p} l, pow-suc 2 d)

  shorter : rest_of w p ≤ d → 2 ^ w ≤ p + 2 ^ d
  shorter l = let r = rest-range w p h in omega (arith, r.low, pow_mono {i = rest_of w p} {j = d} l)

  pub longer-if : p + 2 ^ d < 2 ^ w → d < rest_of w p
  longer-if l = go (dec_lt d (rest_of w p))
    where
      go : Dec (d < rest_of w p) → d < rest_of w p
      go (yes g) = g
      go (no g) = absurd (omega (arith, shorter (omega arith)))

  pub shorter-if : 2 ^ w ≤ p + 2 ^ d → rest_of w p ≤ d
  shorter-if l = go (dec_lt d (rest_of w p))
    where
      go : Dec (d < rest_of w p) → rest_of w p ≤ d
      go (yes g) = absurd (omega (arith, longer g))
      go (no g) = omega arith

-- below b, or among the last two
abbrev pub main_spans : ℕ → ℕ → Spans
main_spans w k = record { kept = record { start = 0; end = 2 ^ w - 2 ^ (6 - k) }; lost = record { start = 2 ^ w - 2; end = 2 ^ w } }

abbrev pub annex_spans : ℕ → Spans
annex_spans l = record { kept = record { start = 2 ^ 18 - 2 ^ (l + 1); end = 2 ^ 18 - 2 ^ l }; lost = record { start = 0; end = 0 } }

module _ (w k p : ℕ) where
  main-in : allowed (main_spans w k) p ≡ true → main_entry w k p ≡ true
  unfolding allowed main_entry length_of
  main-in e = go (or-true (leb 0 p && ltb p (2 ^ w - 2 ^ (6 - k))) (leb (2 ^ w - 2) p && ltb p (2 ^ w)) e)
    where
      fin : p < 2 ^ w → (rest_of w p - 1 ≡ 0) ⊎ (6 ≤ k + (rest_of w p - 1))
          → (ltb p (2 ^ w) && (eqb (rest_of w p - 1) 0 || leb 6 (k + (rest_of w p - 1)))) ≡ true
      fin h (inl a) =
          true-and (ltb p (2 ^ w)) (eqb (rest_of w p - 1) 0 || leb 6 (k + (rest_of w p - 1))) (lt-ltb p (2 ^ w) h)
          (or_left (eqb (rest_of w p - 1) 0) (leb 6 (k + (rest_of w p - 1))) (eq-eqb (rest_of w p - 1) 0 a))
      fin h (inr a) =
          true-and (ltb p (2 ^ w)) (eqb (rest_of w p - 1) 0 || leb 6 (k + (rest_of w p - 1))) (lt-ltb p (2 ^ w) h)
          (or_right (eqb (rest_of w p - 1) 0) (leb 6 (k + (rest_of w p - 1))) (le-leb 6 (k + (rest_of w p - 1)) a))

      go : ((leb 0 p && ltb p (2 ^ w - 2 ^ (6 - k))) ≡ true) ⊎ ((leb (2 ^ w - 2) p && ltb p (2 ^ w)) ≡ true)
          → (ltb p (2 ^ w) && (eqb (rest_of w p - 1) 0 || leb 6 (k + (rest_of w p - 1)))) ≡ true
      go (inl a) =
          let b : p < 2 ^ w - 2 ^ (6 - k) = ltb-true p (2 ^ w - 2 ^ (6 - k)) (and-true (leb 0 p) (ltb p (2 ^ w - 2 ^ (6 - k))) a).1 in
          let l : 6 - k < rest_of w p = longer-if w p (6 - k) (omega arith) (omega arith) in
          fin (omega arith) (inr (omega arith))
      go (inr a) =
          let t = and-true (leb (2 ^ w - 2) p) (ltb p (2 ^ w)) a in
          let b : p < 2 ^ w = ltb-true p (2 ^ w) t.1 in
          let l : rest_of w p ≤ 1 = shorter-if w p 1 b (omega (arith, leb-true (2 ^ w - 2) p t.0)) in
          fin b (inl (omega arith))

  in-main : main_entry w k p ≡ true → allowed (main_spans w k) p ≡ true
  unfolding allowed main_entry length_of
  in-main e = go (or-true (eqb (rest_of w p - 1) 0) (leb 6 (k + (rest_of w p - 1))) s.1)
    where
      s : (ltb p (2 ^ w) ≡ true) × ((eqb (rest_of w p - 1) 0 || leb 6 (k + (rest_of w p - 1))) ≡ true)
      s = and-true (ltb p (2 ^ w)) (eqb (rest_of w p - 1) 0 || leb 6 (k + (rest_of w p - 1))) e

      a : Bool
      a = leb 0 p && ltb p (2 ^ w - 2 ^ (6 - k))

      b : Bool
      b = leb (2 ^ w - 2) p && ltb p (2 ^ w)

      h : p < 2 ^ w
      h = ltb-true p (2 ^ w) s.0

      few : rest_of w p ≤ 1 → (a || b) ≡ true
      few l =
          or_right a b
          (true-and (leb (2 ^ w - 2) p) (ltb p (2 ^ w)) (le-leb (2 ^ w - 2) p (omega (arith, shorter w p 1 h l))) s.0)

      go : (eqb (rest_of w p - 1) 0 ≡ true) ⊎ (leb 6 (k + (rest_of w p - 1)) ≡ true) → (a || b) ≡ true
      go (inl y) = few (omega (arith, eqb-true (rest_of w p - 1) 0 y))
      go (inr y) = try (dec_lt (6 - k) (rest_of w p))
        where
          try : Dec (6 - k < rest_of w p) → (a || b) ≡ true
          try (yes l) =
              let g : p + 2 ^ (6 - k) < 2 ^ w = longer w p (6 - k) h l in
              or_left a b (true-and (leb 0 p) (ltb p (2 ^ w - 2 ^ (6 - k))) (le-leb 0 p (omega arith)) (lt-ltb p (2 ^ w - 2 ^ (6 - k)) (omega arith)))
          try (no l) = few (omega (arith, leb-true 6 (k + (rest_of w p - 1)) y))

  pub main-spans : allowed (main_spans w k) p ≡ main_entry w k p
  main-spans = same_test (allowed (main_spans w k) p) (main_entry w k p) main-in in-main

module _ (l p : ℕ) where
  annex-in : allowed (annex_spans l) p ≡ true → annex_entry l p ≡ true
  unfolding allowed annex_entry
  annex-in e = go (or-true (leb (2 ^ 18 - 2 ^ (l + 1)) p && ltb p (2 ^ 18 - 2 ^ l)) (leb 0 p && ltb p 0) e)
    where
      go : ((leb (2 ^ 18 - 2 ^ (l + 1)) p && ltb p (2 ^ 18 - 2 ^ l)) ≡ true) ⊎ ((leb 0 p && ltb p 0) ≡ true)
          → (ltb p (2 ^ 18) && eqb (rest_of 18 p) (l + 1)) ≡ true
      go (inl a) =
          let t = and-true (leb (2 ^ 18 - 2 ^ (l + 1)) p) (ltb p (2 ^ 18 - 2 ^ l)) a in
          let b : p < 2 ^ 18 - 2 ^ l = ltb-true p (2 ^ 18 - 2 ^ l) t.1 in
          let d : 2 ^ 18 - 2 ^ (l + 1) ≤ p = leb-true (2 ^ 18 - 2 ^ (l + 1)) p t.0 in
          let h : p < 2 ^ 18 = omega arith in
          let x : l < rest_of 18 p = longer-if 18 p l h (omega arith) in
          let y : rest_of 18 p ≤ l + 1 = shorter-if 18 p (l + 1) h (omega arith) in
          true-and (ltb p (2 ^ 18)) (eqb (rest_of 18 p) (l + 1)) (lt-ltb p (2 ^ 18) h) (eq-eqb (rest_of 18 p) (l + 1) (omega arith))
      go (inr a) = absurd (omega (arith, ltb-true p 0 (and-true (leb 0 p) (ltb p 0) a).1))

  in-annex : annex_entry l p ≡ true → allowed (annex_spans l) p ≡ true
  unfolding allowed annex_entry
  in-annex e =
      let s = and-true (ltb p (2 ^ 18)) (eqb (rest_of 18 p) (l + 1)) e in
      let h : p < 2 ^ 18 = ltb-true p (2 ^ 18) s.0 in
      let r : rest_of 18 p ≡ l + 1 = eqb-true (rest_of 18 p) (l + 1) s.1 in
      let x : p + 2 ^ l < 2 ^ 18 = longer 18 p l h (omega arith) in
      let y : 2 ^ 18 ≤ p + 2 ^ (l + 1) = shorter 18 p (l + 1) h (omega arith) in
      or_left (leb (2 ^ 18 - 2 ^ (l + 1)) p && ltb p (2 ^ 18 - 2 ^ l)) (leb 0 p && ltb p 0)
      (true-and (leb (2 ^ 18 - 2 ^ (l + 1)) p) (ltb p (2 ^ 18 - 2 ^ l)) (le-leb (2 ^ 18 - 2 ^ (l + 1)) p (omega arith))
      (lt-ltb p (2 ^ 18 - 2 ^ l) (omega arith)))

  pub annex-spans : allowed (annex_spans l) p ≡ annex_entry l p
  annex-spans = same_test (allowed (annex_spans l) p) (annex_entry l p) annex-in in-annex

-- as tests
pub main-test : (w k : ℕ) → allowed (main_spans w k) ≡ main_entry w k
main-test w k = λ i p. main-spans w k p i

pub annex-test : (l : ℕ) → allowed (annex_spans l) ≡ annex_entry l
annex-test l = λ i p. annex-spans l p i

-- what the code makes
pub power_le : (a b x y : ℕ) → x ≡ 2 ^ a → y ≡ 2 ^ b → a ≤ b → x ≤ y
power_le a b x y ex ey h = omega (arith, pow_mono {i = a} {j = b} h)

pub power-low : (w y : ℕ) → y ≡ 2 ^ w → 4 ≤ w → 2 ≤ y
power-low w y ey h = omega (arith, pow_mono {i = 4} {j = w} h)

pub main-made : (w k e d : ℕ) → e ≡ 2 ^ w → d ≡ 2 ^ (6 - k)
    → allowed (record { kept = record { start = 0; end = e - d }; lost = record { start = e - 2; end = e } }) ≡ main_entry w k
main-made w k e d a b = rw (a, b) (main-test w k)

pub annex-made : (l e g d : ℕ) → e ≡ 2 ^ 18 → g ≡ 2 ^ (l + 1) → d ≡ 2 ^ l
    → allowed (record { kept = record { start = e - g; end = e - d }; lost = record { start = 0; end = 0 } }) ≡ annex_entry l
annex-made l e g d a b c = rw (a, b, c) (annex-test l)
