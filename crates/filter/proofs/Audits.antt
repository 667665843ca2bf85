-- Audit: 2 and 3 first, then 4 exactly where the state is not sound.
use mathlib.Core.Path.{◌≡◌, refl, sym}
use mathlib.Core.Bool.{true, false}
use mathlib.Core.List.{List}
use Prim.Native.Nat.{ℕ, zero, suc, ◌≤◌, ◌^◌}
use lib.Dec.{T}
use lib.ListN.{length}
use Rattle.lists.proofs.Tests.{test-true}
use Rattle.slots.specs.Numbers.{limit}
use Rattle.directory.specs.Places.{directory_right}
use Rattle.rules.specs.Record.{Filter, width, annex_used}
use Rattle.rules.specs.Refusals.{refusal, record_right, slices_right}
use Rattle.rules.specs.Sound.{sound}
use Rattle.rules.specs.Calls.{asked}
use Rattle.rules.specs.Slow.{audit}
use Rattle.keeps.proofs.State.{long}
use Rattle.filter.specs.Promises.{first_number}
use Rattle.filter.proofs.Records.{directory-of}
use Rattle.filter.proofs.Outcomes.{first-right, first-asked}
use Rattle.filter.proofs.Quicks.{bounds_of}

module _ (r : Filter) (main queue annex : List ℕ) where
  pub audit-refused : (n : ℕ) → n ≡ first_number r (length main) (length queue) (length annex) → (n ≡ 0 → ⊥) → n ≡ audit r main queue annex
  unfolding audit
  audit-refused zero e ne = absurd (ne refl)
  audit-refused (suc n) e ne = sym (first-asked r main queue annex n _ (sym e))

  module _ (z : 0 ≡ first_number r (length main) (length queue) (length annex)) where
    -- what the test of soundness asks for
    pub record Asks (w : ℕ) : Type 0 where
      pub k_3 : 3 ≤ r.k
      pub k_20 : r.k ≤ 20
      pub w-4 : 4 ≤ w
      pub w_26 : w ≤ 26
      pub main_long : length main ≡ 2 ^ r.k
      pub used_fits : r.used ≤ limit r.k
      pub places : T (directory_right r.k r.dir)
      pub annex_long : annex_used r ≤ length annex
      pub queue_long : r.queued ≤ length queue
      pub queue_fits : r.queued ≤ 2 ^ 20

    pub asks : (w : ℕ) → w ≡ width r → (4 ≤ w) × (w ≤ 26) → Asks w
    asks w ew hw =
        let x = first-right r (length main) (length queue) (length annex) (sym z) in
        let b = bounds_of r main queue annex z in
        let l = long r main queue annex x.1 in
        record {
          k_3 = b.k_3;
          k_20 = b.k_20;
          w-4 = hw.0;
          w_26 = hw.1;
          main_long = l.main_long;
          used_fits = b.used_limit;
          places = directory-of r x.0;
          annex_long = l.annex_long;
          queue_long = l.queue_long;
          queue_fits = b.queued_small;
        }

    pub audit-0 : sound r main queue annex ≡ true → 0 ≡ audit r main queue annex
    unfolding audit asked refusal
    audit-0 s =
        let x = first-right r (length main) (length queue) (length annex) (sym z) in
        rw (test-true (record_right r) x.0, test-true (slices_right r (length main) (length queue) (length annex)) x.1, s, refusal)

    pub audit-4 : sound r main queue annex ≡ false → 4 ≡ audit r main queue annex
    unfolding audit asked refusal
    audit-4 s =
        let x = first-right r (length main) (length queue) (length annex) (sym z) in
        rw (test-true (record_right r) x.0, test-true (slices_right r (length main) (length queue) (length annex)) x.1, s, refusal)
