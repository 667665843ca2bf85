-- The two arrays of a block side by side, numbered: at the turn j stand the counts of both at j.
use mathlib.Core.Path.{◌≡◌, ap, ◌∙◌}
use mathlib.Core.List.{List}
use Prim.Native.Nat.{ℕ, ◌≤◌, ◌<◌}
use native.Mathlib.Omega.{arith}
use lib.ListN.{length, take, get_or}
use lib.Seq.{length-take-le, get_or-take}
use Rattle.std.specs.List.{zip, enumerate_from}
use Rattle.std.specs.Slice.Iter.{iter_rest}
use Rattle.std.specs.Iterator.Adapters.{zip_first, zip_second, enumerate_source, enumerate_count, enumerate_steps}
use Rattle.std.proofs.lemmas.Fn.{fronts}
use Rattle.std.proofs.lemmas.List.{get_or_default}
use Rattle.std.proofs.lemmas.List.FromFn.{length-enumerate_from, get_or-enumerate_from}
use Rattle.std.proofs.lemmas.Slice.Zip.{length-zip, get_or-zip}
use Rattle.std.proofs.lemmas.Iterator.{YieldsList, zips, YieldsList-from_slice, YieldsList-from_zip}
use Rattle.std.proofs.lemmas.Iterator.Consumers.{YieldsList-from_enumerate, YieldsList-at}
use Rattle.tallies.specs.declared.Naming.{Naming}

abbrev pub no_naming : Naming
no_naming = record { words = 0; evens = 0 }

module _ (n : ℕ) (queued : List Naming) (mothers : List ℕ) where
  abbrev pub pairs : List (ℕ × (Naming × ℕ))
  pairs = enumerate_from 0 (zip (take n queued) (take n mothers))

  pub pairs_give : {s t : _} {u : _} {i : _} → iter_rest i ≡ take n queued → zip_first u ≡ i → iter_rest (zip_second u) ≡ take n mothers
      → enumerate_source t ≡ u → enumerate_count t ≡ 0 → s ≡ t
      → YieldsList (enumerate_steps (zips fronts fronts)) (λ p. (p.0, (p.1.0.now, p.1.1.now))) s pairs
  pairs_give a e b x y same =
      YieldsList-at same
      (YieldsList-from_enumerate
      (YieldsList-at x (YieldsList-from_zip (YieldsList-from_slice (take n queued) (ap iter_rest e ∙ a)) (YieldsList-from_slice (take n mothers) b))) y)

  module _ (hq : n ≤ length queued) (hm : n ≤ length mothers) where
    zipped : length (zip (take n queued) (take n mothers)) ≡ n
    zipped = omega (arith, length-zip (take n queued) (take n mothers), length-take-le n queued hq, length-take-le n mothers hm)

    pub length-pairs : length pairs ≡ n
    length-pairs = length-enumerate_from 0 (zip (take n queued) (take n mothers)) ∙ zipped

    pub pair_at : (j i : ℕ) (a : Naming) (m : ℕ) → (j < length pairs) × ((i, (a, m)) ≡ get_or pairs j (i, (a, m)))
        → (j < n) × (i ≡ j) × (a ≡ get_or queued j no_naming) × (m ≡ get_or mothers j 0)
    pair_at j i a m h =
        let l : j < n = omega (arith, h.0, length-pairs) in
        let both =
        get_or-zip (take n queued) (take n mothers) j (a, m) (omega (arith, length-take-le n queued hq)) (omega (arith, length-take-le n mothers hm))
        in
        let e = h.1 ∙ get_or-enumerate_from 0 (zip (take n queued) (take n mothers)) j (i, (a, m)) (omega (arith, zipped)) in
        let f = ap (λ (p : ℕ × (Naming × ℕ)). p.1) e ∙ both in (
          l,
          ap (λ (p : ℕ × (Naming × ℕ)). p.0) e ∙ omega arith,
          ap (λ (p : Naming × ℕ). p.0) f ∙ get_or-take n queued j a l ∙ get_or_default queued j a no_naming (omega arith),
          ap (λ (p : Naming × ℕ). p.1) f ∙ get_or-take n mothers j m l ∙ get_or_default mothers j m 0 (omega arith),
        )
