-- The walk over the entries of a run, which carries the slot and the payload from turn to turn: the slot is that of the linear place, and the payload
-- that of the entry there.
use mathlib.Core.Path.{◌≡◌, refl, sym, ap, ◌∙◌, subst}
use mathlib.Core.Bool.{Bool, true, false}
use mathlib.Core.List.{List}
use Prim.Native.Nat.{ℕ, ◌+◌, ◌-◌, ◌/◌, ◌%◌, ◌≤◌, ◌<◌}
use native.Mathlib.Omega.{arith}
use native.Mathlib.Decide.{dec_lt}
use lib.ListN.{length, get_or}
use Rattle.std.proofs.Common.{Some, None}
use Rattle.layout.specs.Moves.{wrap}
use Rattle.layout.specs.Reading.{run_from}
use Rattle.layout.proofs.Searches.{Seeking, seeking-start, seeking-on, true-lt, false-le}
use Rattle.layout.proofs.Wraps.{wrap-next}
use Rattle.layout.proofs.RunLaws.{Answer, run_length, step-first, step-stop, step-on}
use Rattle.lookup.specs.Spots.{First}
use Rattle.lookup.proofs.Finds.{first_found, first-none}

-- the entries before the linear place t are passed; i is its slot, and p the payload there, unless the circle ends
pub record Scanning (f : ℕ → Bool) (ws : List ℕ) (b from n t i p : ℕ) : Type 0 where
  pub past : Seeking f (run_from ws b from) (t - from)
  pub begun : from ≤ t
  pub inside : t ≤ n
  pub slot : t < n → i ≡ wrap n b t
  pub there : t < n → t - from < length (run_from ws b from)
  pub payload : t < n → p ≡ get_or (run_from ws b from) (t - from) 0

module _ (f : ℕ → Bool) (ws : List ℕ) (b from n : ℕ) (hb : b < n) (hn : length ws ≡ n) where
  abbrev run : List ℕ
  run = run_from ws b from

  pub scan-start : from < n → (i v : ℕ) → i ≡ wrap n b from → v ≡ get_or ws i 0 → Scanning f ws b from n from i (v / 8)
  scan-start h i v ei ev =
      let z : 0 ≡ from - from = omega arith in
      let y : from ≡ from + 0 = omega arith in
      let a = step-first ws b from 0 n hb hn (omega arith) i (omega arith) (ei ∙ ap (wrap n b) y) refl in
      record {
        past = subst (Seeking f run) z (seeking-start f run);
        begun = omega arith;
        inside = omega arith;
        slot = λ _. ei;
        there = λ _. omega (arith, true-lt 0 (length run) true a.0 refl);
        payload = λ _. ap (λ (w : ℕ). w / 8) ev ∙ a.1 ∙ ap (λ (j : ℕ). get_or run j 0) z;
      }

  module _ (t i p : ℕ) (s : Scanning f ws b from n t i p) where
    pub scan-end : n ≤ t → First f run None
    scan-end h =
        let begun = s.begun in
        first-none f run (t - from) s.past (omega (arith, run_length ws b from))

    module _ (h : t < n) (m : Bool) (em : m ≡ f p) where
      pub scan-found : m ≡ true → First f run (Some p)
      scan-found e = first_found f run (t - from) s.past (s.there h) p (s.payload h) (sym em ∙ e)

      module _ (e : m ≡ false) (j v : ℕ) (ej : j ≡ wrap n i 1) (ev : v ≡ get_or ws j 0) where
        next : t + 1 - from ≡ t - from + 1
        next = let begun = s.begun in omega arith

        passed-one : Seeking f run (t + 1 - from)
        passed-one = subst (Seeking f run) (sym next) (seeking-on f run (t - from) s.past (s.there h) (ap f (sym (s.payload h)) ∙ sym em ∙ e))

        place : from + (t + 1 - from) ≡ t + 1
        place = let begun = s.begun in omega arith

        at : t + 1 < n → j ≡ wrap n b (from + (t + 1 - from))
        at g = wrap-next n b t i j hb h (s.slot h) ej ∙ ap (wrap n b) (sym place)

        later : t + 1 - from ≡ 0 → ⊥
        later z = let begun = s.begun in omega arith

        pub scan-stop : v / 2 % 2 ≡ 0 → First f run None
        scan-stop z = first-none f run (t + 1 - from) passed-one (go (dec_lt (t + 1) n))
          where
            go : Dec (t + 1 < n) → length run ≤ t + 1 - from
            go (yes g) =
                let a =
                step-stop ws b from (t + 1 - from) n hb hn passed-one.within j (omega (arith, place)) (at g) later
                (ap (λ (w : ℕ). w / 2 % 2) (sym ev) ∙ z) in
                false-le (t + 1 - from) (length run) false a.0 refl
            go (no g) = omega (arith, run_length ws b from)

        answer : (v / 2 % 2 ≡ 0 → ⊥) → t + 1 < n → Answer run (t + 1 - from) true (get_or ws j 0 / 8)
        answer z g =
            step-on ws b from (t + 1 - from) n hb hn passed-one.within j (omega (arith, place)) (at g) later
            (λ y. z (ap (λ (w : ℕ). w / 2 % 2) ev ∙ y))

        pub scan-on : (v / 2 % 2 ≡ 0 → ⊥) → Scanning f ws b from n (t + 1) j (v / 8)
        scan-on z =
            let begun = s.begun in
            record {
              past = passed-one;
              begun = omega arith;
              inside = omega arith;
              slot = λ g. at g ∙ ap (wrap n b) place;
              there = λ g. true-lt (t + 1 - from) (length run) true (answer z g).0 refl;
              payload = λ g. ap (λ (w : ℕ). w / 8) ev ∙ (answer z g).1;
            }
