-- The arms of the code's match on the three low bits are those of the lap's step, and the loop goes on with what is left of the lap.
use mathlib.Core.Path.{◌≡◌, refl, sym, ap, ◌∙◌}
use mathlib.Core.Bool.{Bool, true, false, ◌&&◌}
use mathlib.Core.List.{List, ◌∷◌}
use Prim.Native.Nat.{ℕ, zero, suc, ◌+◌, ◌-◌, ◌/◌, ◌%◌, ◌≤◌, ◌<◌}
use native.Mathlib.Omega.{arith}
use borrow.Author.Tests.{eq-eqb, ne_eqb}
use lib.Dec.{ltb, eqb}
use lib.ListN.{length, take, drop, get_or, length-drop}
use lib.Seq.{take_all, drop-cons}
use Rattle.std.specs.Prelude.{Option, Some, None}
use Rattle.std.specs.Bool.{then_some}
use Rattle.std.specs.Option.{option_map_or}
use Rattle.lists.proofs.Tests.{no_true}
use Rattle.sound.specs.declared.Lap.{Lap}
use Rattle.sound.specs.Lap.{no_entry, an_entry, empty, home, moved, goes_on, next, arm, step, fits}
use Rattle.sound.proofs.Laps.{is_home, is-moved, is-next}
use Rattle.layout.specs.Decode.{turn}
use Rattle.std.specs.Slice.Iter.{iter_rest}
use Rattle.std.specs.Iterator.Adapters.{chain_first, chain_second, chain_first_done, chain_second_done, chain_steps}
use Rattle.std.proofs.lemmas.Fn.{fronts}
use Rattle.std.proofs.lemmas.Iterator.{YieldsList, YieldsList-from_slice}
use Rattle.std.proofs.lemmas.Iterator.Consumers.{YieldsList-from_chain, YieldsList-at}

-- a test of two parts, as the code takes it
pub both_tests : (a b r : Bool) → a ≡ true → r ≡ b → r ≡ (a && b)
both_tests true b r e h = h
both_tests false b r e h = absurd (no_true e)

pub first-fails : (a b r : Bool) → a ≡ false → r ≡ a → r ≡ (a && b)
first-fails true b r e h = absurd (no_true (sym e))
first-fails false b r e h = h

module _ (f : ℕ → Bool) (s : Lap) (w : ℕ) (r : Option Lap) where
  pub step-empty : (b : Bool) → w % 8 ≡ 0 → b ≡ (eqb w 0 && eqb s.begun s.opened) → r ≡ then_some b (no_entry s) → r ≡ step f s w
  unfolding step
  step-empty b a t e = rw (a, sym t) e

  pub step-never : (w % 8 ≡ 0 → ⊥) → (w % 8 ≡ 1 → ⊥) → w % 8 < 4 → r ≡ None → r ≡ step f s w
  unfolding step
  step-never a b l e = go (w % 8) a b l
    where
      go : (k : ℕ) → (k ≡ 0 → ⊥) → (k ≡ 1 → ⊥) → k < 4 → r ≡ arm k (empty s w) (home f s (w / 8)) (moved f s (w / 8) (w % 2)) (next f s (w / 8) (w % 2))
      go zero x y z = absurd (x refl)
      go (suc zero) x y z = absurd (y refl)
      go (suc (suc zero)) x y z = e
      go (suc (suc (suc zero))) x y z = e
      go (suc (suc (suc (suc k)))) x y z = absurd (omega arith)

  module _ (b : Bool) where
    pub step-home : w % 8 ≡ 1 → b ≡ (eqb s.begun s.opened && f (w / 8)) → r ≡ then_some b (an_entry s (w / 8) 1 1) → r ≡ step f s w
    step-home a t er = er ∙ rw t (sym (is_home f s w (w / 8) 0 (omega arith)))

    pub step-moved : 4 ≤ w % 8 → w % 8 < 6 → b ≡ (ltb s.begun s.opened && f (w / 8))
        → r ≡ then_some b (an_entry s (w / 8) (w % 2) 1) → r ≡ step f s w
    step-moved a a' t er = er ∙ rw t (sym (is-moved f s w (w / 8) (w % 2) (omega arith) (omega arith)))

    pub step-next : 6 ≤ w % 8 → b ≡ (goes_on s.last (w / 8) && f (w / 8)) → r ≡ then_some b (an_entry s (w / 8) (w % 2) 0) → r ≡ step f s w
    step-next a t er = er ∙ rw t (sym (is-next f s w (w / 8) (w % 2) (omega arith) (omega arith)))

then-is : (b : Bool) (u v : Lap) → Some v ≡ then_some b u → v ≡ u
then-is true u v e = cc
then-is false u v e = cc

-- the three counts rise by at most one
module _ (f : ℕ → Bool) (s : Lap) (w : ℕ) (v : Lap) where
  rises : (k : ℕ) → Some v ≡ arm k (empty s w) (home f s (w / 8)) (moved f s (w / 8) (w % 2)) (next f s (w / 8) (w % 2))
      → (v.opened ≤ s.opened + 1) × (v.begun ≤ s.begun + 1) × (v.count ≤ s.count + 1)
  rises zero e = rw (then-is (eqb w 0 && eqb s.begun s.opened) (no_entry s) v e) (omega arith, omega arith, omega arith)
  rises (suc zero) e =
      rw (then-is (eqb s.begun s.opened && f (w / 8)) (an_entry s (w / 8) 1 1) v e) (omega arith, omega arith, omega arith)
  rises (suc (suc zero)) e = cc
  rises (suc (suc (suc zero))) e = cc
  rises (suc (suc (suc (suc zero)))) e =
      rw (then-is (ltb s.begun s.opened && f (w / 8)) (an_entry s (w / 8) (w % 2) 1) v e) (omega arith, omega arith, omega arith)
  rises (suc (suc (suc (suc (suc zero))))) e =
      rw (then-is (ltb s.begun s.opened && f (w / 8)) (an_entry s (w / 8) (w % 2) 1) v e) (omega arith, omega arith, omega arith)
  rises (suc (suc (suc (suc (suc (suc k)))))) e =
      rw (then-is (goes_on s.last (w / 8) && f (w / 8)) (an_entry s (w / 8) (w % 2) 0) v e) (omega arith, omega arith, omega arith)

  pub counts-on : (j : ℕ) → Some v ≡ step f s w → (s.opened ≤ j) × (s.begun ≤ j) × (s.count ≤ j) → (v.opened ≤ j + 1) × (v.begun ≤ j + 1) × (v.count ≤ j + 1)
  unfolding step
  counts-on j e h = let r = rises (w % 8) e in (omega arith, omega arith, omega arith)

-- ---- the lap: after j words

-- the iterator over both parts of the circle gives it, begun at z
pub circle_gives : {s t : _} {i : _} (z : ℕ) (words : List ℕ) → iter_rest i ≡ take (length words - z) (drop z words) → chain_first t ≡ i
    → iter_rest (chain_second t) ≡ take z words → chain_first_done t ≡ false → chain_second_done t ≡ false → s ≡ t
    → YieldsList (chain_steps fronts fronts) (λ y. y.now) s (turn z words)
circle_gives z words a e b x y same =
    let whole = take_all (length words - z) (drop z words) (omega (arith, length-drop z words)) in
    YieldsList-at same
    (YieldsList-from_chain (YieldsList-from_slice (drop z words) (ap iter_rest e ∙ a ∙ whole)) (YieldsList-from_slice (take z words) b) x y)

module _ (f : ℕ → Bool) (n : ℕ) (ws : List ℕ) (j w : ℕ) (s : Lap) (goal : Bool) (inv : fits f n s (drop j ws) ≡ goal)
    (at : (j < length ws) × (w ≡ get_or ws j w)) where
  both : (o : Option Lap) → o ≡ step f s w → option_map_or (λ v. fits f n v (drop (suc j) ws)) o false ≡ goal
  unfolding fits
  both o e =
      ap (λ (x : Option Lap). option_map_or (λ v. fits f n v (drop (suc j) ws)) x false) e
      ∙ sym (ap (fits f n s) (drop-cons ws j w at.0 ∙ ap (λ (x : ℕ). x ∷ drop (suc j) ws) (sym at.1))) ∙ inv

  pub lap-on : (v : Lap) → Some v ≡ step f s w → fits f n v (drop (j + 1) ws) ≡ goal
  lap-on v e = rw (native.Mathlib.Numerals.add-one j) (both (Some v) e)

  pub lap-off : None ≡ step f s w → false ≡ goal
  lap-off e = both None e

module _ (f : ℕ → Bool) (n : ℕ) (ws : List ℕ) (j : ℕ) (s : Lap) (goal : Bool) (inv : fits f n s (drop j ws) ≡ goal) (h : j ≡ length ws) where
  end : (eqb s.begun s.opened && eqb s.count n) ≡ goal
  unfolding fits
  end = sym (ap (fits f n s) (lib.ListN.drop_of_length-le ws {i = j} (omega arith))) ∙ inv

  pub all-begun : s.begun ≡ s.opened → eqb s.count n ≡ goal
  all-begun e = sym (ap (λ (b : Bool). b && eqb s.count n) (eq-eqb s.begun s.opened e)) ∙ end

  pub some-wait : (s.begun ≡ s.opened → ⊥) → eqb s.begun s.opened ≡ goal
  some-wait e =
      let b : eqb s.begun s.opened ≡ false = ne_eqb s.begun s.opened e in
      b ∙ sym (ap (λ (x : Bool). x && eqb s.count n) b) ∙ end
