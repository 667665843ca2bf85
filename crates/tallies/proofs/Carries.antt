-- The carry of an address in a laid table, from the one before: with the carry in hand the code reads the run, and the next carry follows from its length.
use mathlib.Core.Path.{◌≡◌, sym, ap, ap₂, ◌∙◌}
use mathlib.Core.List.{List, []}
use Prim.Native.Nat.{ℕ, suc, ◌+◌, ◌-◌, ◌%◌, ◌<◌}
use native.Mathlib.Omega.{arith}
use native.Mathlib.Nat.{mod-eq_of_lt}
use lib.ListN.{length, get_or}
use Rattle.lists.specs.Runs.{total}
use Rattle.layout.specs.Decode.{decode, place_of}
use Rattle.layout.specs.Document.{carry}
use Rattle.layout.proofs.Same.{place-of, carry-next}
use Rattle.layout.proofs.Puts.{layout-length, run_room}
use Rattle.sound.specs.Reading.{Laid, read_at}
use Rattle.sound.proofs.Readings.{run-read}

module _ (words : List ℕ) (p : Laid words) where
  pub same_size : length (decode words) ≡ length words
  same_size = sym (layout-length (decode words)) ∙ ap length (sym p.is)

  pub small : total (decode words) < length (decode words)
  small = omega (arith, p.small, same_size)

  module _ (c k : ℕ) (hc : c < length words) where
    pub in-runs : c < length (decode words)
    in-runs = omega (arith, same_size)

    pub carry-is : k ≡ place_of words c → k ≡ carry (decode words) c
    carry-is e = e ∙ ap (λ (l : List ℕ). place_of l c) p.is ∙ place-of (decode words) c in-runs small

    module _ (ek : k ≡ carry (decode words) c) where
      pub carry-small : k < length words
      carry-small = omega (arith, p.small, run_room (decode words) c in-runs small)

      pub read_is : read_at words c k ≡ get_or (decode words) c []
      read_is = ap (λ (l : List ℕ). read_at l c k) p.is ∙ run-read (decode words) c in-runs small k ek

      -- with the run read here, the carry of the next slot, in a circle
      pub carry-on : (k' : ℕ) → k' ≡ k + length (read_at words c k) - 1 → k' ≡ carry (decode words) (suc c % length words)
      carry-on k' e =
          let runs = decode words in
          let m : c % length runs ≡ c = mod-eq_of_lt in-runs in
          e ∙ ap₂ (λ (a : ℕ) (r : List ℕ). a + length r - 1) ek read_is
          ∙ sym (carry-next runs c small ∙ ap (λ (j : ℕ). carry runs j + length (get_or runs j []) - 1) m) ∙ ap (λ (n : ℕ). carry runs (suc c % n)) same_size
