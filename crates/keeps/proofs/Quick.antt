-- Insert, Delete and Rejuvenate change one run: by an entry with bits, which counts neither as void nor as tombstone, or by a void, which leaves with a queue
-- word.
use mathlib.Core.Path.{◌≡◌, refl, sym, ap, ◌∙◌, subst}
use mathlib.Core.List.{List, [], ◌∷◌}
use Prim.Native.Nat.{ℕ, suc, ◌+◌, ◌-◌, ◌*◌, ◌^◌, ◌≤◌, ◌<◌}
use native.Mathlib.Omega.{arith}
use native.Mathlib.Nat.{mod-lt}
use native.Mathlib.Decide.{ℕ_discrete}
use lib.Dec.{T}
use lib.Pow.{pow_pos}
use lib.ListN.{length, get_or, set}
use Rattle.lists.specs.Runs.{Runs, add, erase, count, hits}
use Rattle.lists.proofs.Tests.{is-yes, is-no}
use Rattle.lists.proofs.Alls.{All, all-get}
use Rattle.lists.proofs.Sums.{same_length}
use Rattle.lists.proofs.RunLaws.{Rises, all-add, rises-add, length-add, all-erase, rises-erase, erase_same, count_add, count_erase_self, count-erase-other, total-set}
use Rattle.slots.specs.Numbers.{limit}
use Rattle.slots.specs.Payload.{void, tombstone, rest_of, canonical_slot, matches}
use Rattle.slots.proofs.PayloadLaws.{Match, match-true, fresh-lt, fresh-rest, fresh-length, void-tombstone, bits-void, bits-tombstone, rest-one, tombstone-lt, tombstone-rest}
use Rattle.layout.specs.Machine.{layout}
use Rattle.layout.specs.Decode.{run_at}
use Rattle.rules.specs.Record.{Filter, change, width, fresh}
use Rattle.rules.specs.Sound.{main_entry}
use Rattle.rules.specs.Calls.{Outcome}
use Rattle.rules.specs.Quick.{home, fresh_entry, matches_in, best, inserted}
use Rattle.keeps.proofs.Holds.{run-read}
use Rattle.keeps.proofs.State.{Good, Fine}
use Rattle.keeps.proofs.Bounds.{sizes, fresh_3, width-fresh, width-pos}
use Rattle.keeps.proofs.Entries.{passes, passes-lt, all-count, Best, hits-best}
use Rattle.keeps.proofs.Edits.{edited-only, edited-queue}

abbrev pub GoodOutcome : Outcome → Type 0
GoodOutcome o = Good o.rec o.main o.queue o.annex

pub home-lt : (r : Filter) (h : ℕ) → home r h < 2 ^ r.k
unfolding canonical_slot
home-lt r h = mod-lt h (pow_pos r.k)

-- ---- the fresh entry

pub record IsFresh (r : Filter) (p : ℕ) : Type 0 where
  pub small : p < 2 ^ width r
  pub rest : rest_of (width r) p ≡ fresh r + 1
  pub bits : 1 < rest_of (width r) p
  pub passed : T (main_entry (width r) r.k p)

pub is-fresh : (r : Filter) (main queue annex : List ℕ) (runs : Runs) → Fine r main queue annex runs → (h : ℕ) → IsFresh r (fresh_entry r h)
is-fresh r main queue annex runs v h =
    let w = width r in
    let l = fresh r in
    let lt : l < w = width-fresh r r.k in
    let z = sizes r.start r.f r.regime v.settings in
    let f3 : 3 ≤ l = fresh_3 r r.k z in
    let small = fresh-lt w l r.k h lt in
    let rest = fresh-rest w l r.k h lt in
    record {
      small = small;
      rest = rest;
      bits = omega (arith, rest, f3);
      passed = passes w r.k (fresh_entry r h) small (λ _. omega (arith, f3, z.start_3, v.low_k, fresh-length w l r.k h lt));
    }

-- ---- INSERT

pub insert-fine : (r : Filter) (main queue annex : List ℕ) (h : ℕ) (runs : Runs) → Fine r main queue annex runs → r.used < limit r.k
    → Fine (inserted r main queue annex h).rec (inserted r main queue annex h).main queue annex (set runs (home r h) (add (fresh_entry r h) (get_or runs (home r h) [])))
unfolding inserted
insert-fine r main queue annex h runs v lt =
    let w = width r in
    let p : ℕ = fresh_entry r h in
    let run : List ℕ = get_or runs (home r h) [] in
    let fr = is-fresh r main queue annex runs v h in
    let hl : home r h < length runs = omega (arith, v.table.size, home-lt r h) in
    rw v.table.held
    (edited-only r main queue annex runs v (home r h) (home-lt r h) (add p run) (r.used + 1)
    (rises-add p run (all-get Rises runs [] v.table.rises (home r h) hl))
    (all-add (λ p. T (main_entry w r.k p)) p run fr.passed (all-get (All (λ p. T (main_entry w r.k p))) runs [] v.table.passes (home r h) hl))
    (omega (arith, length-add p run))
    (omega arith)
    (omega (arith, count_add p (tombstone w) run, is-no (tombstone w) p (bits-tombstone w p fr.bits)))
    (omega (arith, count_add p (void w) run, is-no (void w) p (bits-void w p (width-pos r r.k) fr.bits))))

-- ---- the longest match

pub record Found (r : Filter) (h p : ℕ) (run : List ℕ) : Type 0 where
  pub chosen : Best (matches (width r) r.k h) p run
  pub small : p < 2 ^ width r
  pub match : Match (width r) r.k h p
  pub rises : Rises run
  pub passed : All (λ p. T (main_entry (width r) r.k p)) run

pub found : (r : Filter) (main queue annex : List ℕ) (h : ℕ) (runs : Runs) → Fine r main queue annex runs → 0 < length (matches_in r main h)
    → Found r h (best r main h) (get_or runs (home r h) [])
unfolding best matches_in
found r main queue annex h runs v l =
    let f = matches (width r) r.k h in
    let run : List ℕ = get_or runs (home r h) [] in
    let hl : home r h < length runs = omega (arith, v.table.size, home-lt r h) in
    let e : run_at main (home r h) ≡ run = run-read v.table (home r h) (home-lt r h) in
    let l' : 0 < length (hits f run) = subst (λ (x : List ℕ). 0 < length (hits f x)) e l in
    subst (λ (x : List ℕ). Found r h (get_or (hits f x) 0 (tombstone (width r))) run) (sym e)
    (made (get_or (hits f run) 0 (tombstone (width r))) run (all-get Rises runs [] v.table.rises (home r h) hl)
    (all-get (All (λ p. T (main_entry (width r) r.k p))) runs [] v.table.passes (home r h) hl)
    (hits-best f (tombstone (width r)) run (all-get Rises runs [] v.table.rises (home r h) hl) l'))
  where
    made : (p : ℕ) (run : List ℕ) → Rises run → All (λ p. T (main_entry (width r) r.k p)) run → Best (matches (width r) r.k h) p run → Found r h p run
    made p run ri pa b =
        record {
          chosen = b;
          small = passes-lt (width r) r.k p (all-count (λ p. T (main_entry (width r) r.k p)) run p pa b.inside);
          match = match-true (width r) r.k h p b.hit;
          rises = ri;
          passed = pa;
        }

-- the match has bits, or is void
pub bits_of : (r : Filter) (h p : ℕ) (run : List ℕ) → Found r h p run → (p ≡ void (width r) → ⊥) → 1 < rest_of (width r) p
bits_of r h p run f ne = go (ℕ_discrete (rest_of (width r) p) 1)
  where
    go : Dec (rest_of (width r) p ≡ 1) → 1 < rest_of (width r) p
    go (yes e) = absurd (ne (rest-one (width r) p f.small e))
    go (no e) = omega (arith, f.match.some)

module _ (r : Filter) (main queue annex : List ℕ) (h : ℕ) (runs : Runs) (v : Fine r main queue annex runs) (p : ℕ) (f : Found r h p (get_or runs (home r h) [])) where
  abbrev w : ℕ
  w = width r

  abbrev c : ℕ
  c = home r h

  abbrev run : List ℕ
  run = get_or runs (home r h) []

  abbrev Passed : ℕ → Type 0
  Passed p = T (main_entry (width r) r.k p)

  wpos : 0 < width r
  wpos = width-pos r r.k

  one_less : length (get_or runs (home r h) []) ≡ suc (length (erase p (get_or runs (home r h) [])))
  one_less = same_length run (p ∷ erase p run) (erase_same p run f.chosen.inside)

  -- DELETE of an entry with bits
  pub removed-fine : (p ≡ void (width r) → ⊥)
      → Fine (change r r.k (r.used - 1) r.queued r.dir) (layout (set runs (home r h) (erase p (get_or runs (home r h) [])))) queue annex
      (set runs (home r h) (erase p (get_or runs (home r h) [])))
  removed-fine ne =
      let b : 1 < rest_of w p = bits_of r h p run f ne in
      let t = total-set runs c (erase p run) (omega (arith, v.table.size, home-lt r h)) in
      edited-only r main queue annex runs v c (home-lt r h) (erase p run) (r.used - 1)
      (rises-erase p run f.rises) (all-erase Passed p run f.passed)
      (omega (arith, one_less, v.table.counted)) (omega (arith, v.used_fits))
      (count-erase-other p (tombstone w) run (bits-tombstone w p b)) (count-erase-other p (void w) run (bits-void w p wpos b))

  -- DELETE of a void
  pub void-fine : p ≡ void (width r) → r.queued < 2 ^ 20 → r.queued < length queue
      → Fine (change r r.k r.used (r.queued + 1) r.dir) (layout (set runs (home r h) (add (tombstone (width r)) (erase p (get_or runs (home r h) [])))))
      (set queue r.queued (home r h * 2)) annex (set runs (home r h) (add (tombstone (width r)) (erase p (get_or runs (home r h) []))))
  void-fine e n1 n2 =
      let q = tombstone w in
      edited-queue r main queue annex runs v c (home-lt r h) (add q (erase p run)) r.used (c * 2) (omega arith) n1 n2
      (rises-add q (erase p run) (rises-erase p run f.rises))
      (all-add Passed q (erase p run) (passes w r.k q (tombstone-lt w) (λ l. absurd (omega (arith, tombstone-rest w)))) (all-erase Passed p run f.passed))
      (omega (arith, one_less, length-add q (erase p run)))
      v.used_fits
      (omega (arith, count_add q q (erase p run), is-yes q q refl, is-yes (c * 2) (c * 2) refl, count-erase-other p q run (λ x. void-tombstone w wpos (sym e ∙ sym x))))
      (omega (arith, count_add q (void w) (erase p run), is-no (void w) q (void-tombstone w wpos), ap (λ x. count (void w) (erase x run)) e, count_erase_self (void w) run))

  -- REJUVENATE
  abbrev q : ℕ
  q = fresh_entry r h

  fr : IsFresh r (fresh_entry r h)
  fr = is-fresh r main queue annex runs v h

  again : Rises (add (fresh_entry r h) (erase p (get_or runs (home r h) [])))
  again = rises-add q (erase p run) (rises-erase p run f.rises)

  again-passes : All (λ p. T (main_entry (width r) r.k p)) (add (fresh_entry r h) (erase p (get_or runs (home r h) [])))
  again-passes = all-add Passed q (erase p run) fr.passed (all-erase Passed p run f.passed)

  as_many : r.used + length (get_or runs (home r h) []) ≡ r.used + length (add (fresh_entry r h) (erase p (get_or runs (home r h) [])))
  as_many = omega (arith, one_less, length-add q (erase p run))

  pub renewed-bits : (p ≡ void (width r) → ⊥)
      → Fine (change r r.k r.used r.queued r.dir) (layout (set runs (home r h) (add (fresh_entry r h) (erase p (get_or runs (home r h) []))))) queue annex
      (set runs (home r h) (add (fresh_entry r h) (erase p (get_or runs (home r h) []))))
  renewed-bits ne =
      let b : 1 < rest_of w p = bits_of r h p run f ne in
      edited-only r main queue annex runs v c (home-lt r h) (add q (erase p run)) r.used again again-passes as_many v.used_fits
      (omega (arith, count_add q (tombstone w) (erase p run), is-no (tombstone w) q (bits-tombstone w q fr.bits), count-erase-other p (tombstone w) run (bits-tombstone w p b)))
      (omega (arith, count_add q (void w) (erase p run), is-no (void w) q (bits-void w q wpos fr.bits), count-erase-other p (void w) run (bits-void w p wpos b)))

  pub renewed-void : p ≡ void (width r) → r.queued < 2 ^ 20 → r.queued < length queue
      → Fine (change r r.k r.used (r.queued + 1) r.dir) (layout (set runs (home r h) (add (fresh_entry r h) (erase p (get_or runs (home r h) [])))))
      (set queue r.queued (home r h * 2 + 1)) annex (set runs (home r h) (add (fresh_entry r h) (erase p (get_or runs (home r h) []))))
  renewed-void e n1 n2 =
      edited-queue r main queue annex runs v c (home-lt r h) (add q (erase p run)) r.used (c * 2 + 1) (omega arith) n1 n2 again again-passes as_many v.used_fits
      (omega (
        arith,
        count_add q (tombstone w) (erase p run),
        is-no (tombstone w) q (bits-tombstone w q fr.bits),
        is-no (c * 2) (c * 2 + 1) (λ x. omega arith),
        count-erase-other p (tombstone w) run (λ x. void-tombstone w wpos (sym e ∙ sym x)),
      ))
      (omega (arith, count_add q (void w) (erase p run), is-no (void w) q (bits-void w q wpos fr.bits), ap (λ x. count (void w) (erase x run)) e, count_erase_self (void w) run))
