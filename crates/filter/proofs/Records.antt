-- The record's tests, put together as the code makes them: each test that holds leaves the rest, and one that fails decides.
use mathlib.Core.Path.{◌≡◌, refl, ap}
use mathlib.Core.Bool.{Bool, true, false, ◌&&◌}
use Prim.Native.Nat.{ℕ, ◌+◌, ◌-◌, ◌≤◌, ◌<◌, ◌^◌}
use lib.Dec.{T, leb, leb→le}
use borrow.Author.Tests.{eq-eqb, ne_eqb, le-leb, lt-leb}
use Rattle.lists.specs.Lists.{within}
use Rattle.lists.proofs.Tests.{and_left, and_right, test-true, true-test}
use Rattle.slots.specs.Numbers.{limit, extra}
use Rattle.directory.specs.Places.{directory_right}
use Rattle.rules.specs.Record.{Filter, fresh_at, width_at, fresh, width, annex_used}
use Rattle.rules.specs.Refusals.{refusal, settings_right, record_right, slices_right}
use Rattle.filter.specs.Promises.{first_number}
use Rattle.filter.specs.Widths.{width_asked}

-- the settings, test by test
module _ (power f regime : ℕ) where
  pub settings-rest : 3 ≤ power → power ≤ 10 → 3 ≤ f → f ≤ 15 → settings_right power f regime ≡ leb regime 1
  unfolding settings_right
  settings-rest a b c d = rw (le-leb _ _ a, le-leb _ _ b, le-leb _ _ c, le-leb _ _ d)

  pub settings-few : power < 3 → settings_right power f regime ≡ false
  unfolding settings_right
  settings-few a = rw (lt-leb _ _ a)

  pub settings-many : 10 < power → settings_right power f regime ≡ false
  unfolding settings_right
  settings-many a = rw (lt-leb _ _ a, none (leb 3 power))
    where
      none : (x : Bool) → x && false ≡ false
      none true = refl
      none false = refl

  pub settings-short : f < 3 → settings_right power f regime ≡ false
  unfolding settings_right
  settings-short a = rw (lt-leb _ _ a, none (leb 3 power && leb power 10))
    where
      none : (x : Bool) → x && false ≡ false
      none true = refl
      none false = refl

  pub settings-long : 15 < f → settings_right power f regime ≡ false
  unfolding settings_right
  settings-long a = rw (lt-leb _ _ a, none (leb 3 power && leb power 10) (leb 3 f))
    where
      none : (x y : Bool) → x && (y && false && leb regime 1) ≡ false
      none true true = refl
      none true false = refl
      none false y = refl

module _ (r : Filter) where
  -- a record whose settings and counts are in range is in range where its directory is right
  pub record-rest : settings_right r.start r.f r.regime ≡ true → r.start ≤ r.k → r.k ≤ 20 → r.used ≤ limit r.k → r.queued ≤ 1048576
      → directory_right r.k r.dir ≡ record_right r
  unfolding record_right
  record-rest a b c d e = rw (a, le-leb _ _ b, le-leb _ _ c, le-leb _ _ d, le-leb r.queued 1048576 e)

  pub record-settings : T (record_right r) → settings_right r.start r.f r.regime ≡ true
  unfolding record_right
  record-settings t = test-true _ (and_left (settings_right r.start r.f r.regime) _ t)

  -- the settings leave 3 at least for k
  pub start-low : settings_right r.start r.f r.regime ≡ true → 3 ≤ r.start
  unfolding settings_right
  start-low a = leb→le _ _ (and_left (leb 3 r.start) (leb r.start 10) (and_left (within 3 10 r.start) _ (true-test _ a)))

  -- the three lengths
  module _ (main queue annex : ℕ) where
    pub lent-annex : (taken : ℕ) → main ≡ 2 ^ r.k → leb r.queued queue ≡ true → taken ≡ annex_used r → leb taken annex ≡ slices_right r main queue annex
    unfolding slices_right
    lent-annex taken e q t = rw (eq-eqb main (2 ^ r.k) e, q, t)

    pub lent-queue : main ≡ 2 ^ r.k → leb r.queued queue ≡ false → false ≡ slices_right r main queue annex
    unfolding slices_right
    lent-queue e q = rw (eq-eqb main (2 ^ r.k) e, q)

    pub lent-main : (main ≡ 2 ^ r.k → ⊥) → false ≡ slices_right r main queue annex
    unfolding slices_right
    lent-main n = rw (ne_eqb main (2 ^ r.k) n)

  -- 2, 3 or neither
  pub first-0 : (m q a : ℕ) → record_right r ≡ true → slices_right r m q a ≡ true → 0 ≡ first_number r m q a
  unfolding first_number refusal
  first-0 m q a x y = rw (x, y, refusal)

  pub first-3 : (m q a : ℕ) → record_right r ≡ true → slices_right r m q a ≡ false → 3 ≡ first_number r m q a
  unfolding first_number refusal
  first-3 m q a x y = rw (x, y, refusal)

  pub first-2 : (m q a : ℕ) → record_right r ≡ false → 2 ≡ first_number r m q a
  unfolding first_number refusal
  first-2 m q a x = rw (x, refusal)

  -- the width that is asked for
  pub asked-width : (w : ℕ) → record_right r ≡ true → w ≡ width r → w ≡ width_asked r
  unfolding width_asked
  asked-width w e ew = rw (e, width_asked) ew

  pub asked-none : record_right r ≡ false → 0 ≡ width_asked r
  unfolding width_asked
  asked-none e = rw (e, width_asked)

  -- fresh length and width, as the code adds them
  pub fresh-is : (e : ℕ) → e ≡ extra r.regime (r.k - r.start) → r.f + e ≡ fresh r
  unfolding fresh_at
  fresh-is e h = ap (λ (x : ℕ). r.f + x) h

  pub width_is : (l : ℕ) → l ≡ fresh r → l + 1 ≡ width r
  unfolding width_at
  width_is l h = ap (λ (x : ℕ). x + 1) h

  pub directory-of : T (record_right r) → T (directory_right r.k r.dir)
  unfolding record_right
  directory-of t =
      let A = settings_right r.start r.f r.regime in
      let B = within r.start 20 r.k in
      let C = leb r.used (limit r.k) in
      let D = leb r.queued (2 ^ 20) in
      let E = directory_right r.k r.dir in
      and_right D E (and_right C (D && E) (and_right B (C && (D && E)) (and_right A (B && (C && (D && E))) t)))
