-- Double changes no string: an entry gives its lowest bit to its address and stays the same string, or loses its last bit, and then the new mother hash is that
-- string. Shown entry by entry, by what each is to the two halves.
use mathlib.Core.Path.{◌≡◌, refl, sym, ap, ap₂, ◌∙◌}
use mathlib.Core.Bool.{cond}
use mathlib.Core.List.{List, [], ◌∷◌, ◌++◌, map}
use Prim.Native.Nat.{ℕ, zero, suc, ◌+◌, ◌-◌, ◌*◌, ◌/◌, ◌%◌, ◌^◌, ◌≤◌, ◌<◌}
use native.Mathlib.Omega.{arith}
use native.Mathlib.Nat.{add-suc, mul_comm, mul_assoc, add-mul, pow-suc}
use native.Mathlib.Numerals.{add-one, sub-one}
use native.Mathlib.Decide.{dec_lt, ℕ_discrete}
use lib.ListN.{length, length-map}
use borrow.Author.Tests.{lt-ltb, le-ltb}
use Rattle.lists.specs.Lists.{sum}
use Rattle.lists.specs.Runs.{Runs}
use Rattle.lists.proofs.Sums.{sum-append}
use Rattle.slots.specs.Payload.{void, rest_of, length_of, fingerprint_of}
use Rattle.slots.proofs.PayloadLaws.{rest_le, bits-pay, shrink, void-rest}
use Rattle.rules.specs.Doubling.{half, half_run, doubled, become_void, new_hashes}
use Rattle.keeps.proofs.Halves.{Kind, none_of, voided, other, mine, kind, fingerprint-lt, shrink-rest}
use Rattle.keeps.proofs.Hashes.{become-cases}
use Rattle.history.proofs.Strings.{Item}
use Rattle.history.proofs.Bridge.{length_rest, entry, weight, load, weightless, table_items, table-sum, table-append}
use Rattle.history.proofs.Hashes.{item}

-- the lowest bit of f goes to the address
lowest : (f k b c : ℕ) → f % 2 ≡ b → f / 2 * 2 ^ (k + 1) + (b * 2 ^ k + c) ≡ f * 2 ^ k + c
lowest f k b c e =
    let a : f / 2 * 2 + b ≡ f = omega arith in
    let p : 2 ^ (k + 1) ≡ 2 * 2 ^ k = ap (λ x. 2 ^ x) (add-one k) ∙ pow-suc 2 k ∙ mul_comm (2 ^ k) 2 in
    let q : f / 2 * 2 ^ (k + 1) ≡ f / 2 * 2 * 2 ^ k = ap (λ x. f / 2 * x) p ∙ sym (mul_assoc (f / 2) 2 (2 ^ k)) in
    let r : (f / 2 * 2 + b) * 2 ^ k ≡ f / 2 * 2 * 2 ^ k + b * 2 ^ k = add-mul (f / 2 * 2) b (2 ^ k) in
    omega (arith, q, r, ap (λ x. x * 2 ^ k) a)

halved : (l f : ℕ) → 0 < l → f < 2 ^ l → f / 2 < 2 ^ (l - 1)
halved zero f h lt = absurd (omega arith)
halved (suc l) f h lt = omega (arith, pow-suc 2 l, ap (λ x. 2 ^ x) (sub-one (suc l)))

shrink-bits : (w v p : ℕ) → w ≤ v → 1 < rest_of w p → fingerprint_of v (shrink w v p) ≡ fingerprint_of w p / 2
unfolding shrink
shrink-bits w v p wv b =
    let l : length_of w p ≡ rest_of w p - 1 = length_rest w p in
    bits-pay v (length_of w p - 1) (fingerprint_of w p / 2) (omega (arith, rest_le w p)) (halved (length_of w p) (fingerprint_of w p) (omega arith) (fingerprint-lt w p))

module _ (f : Item → ℕ) (w v k : ℕ) (wpos : 0 < w) (wv : w ≤ v) where
  -- what payload p weighs in the half with top bit t, at address a
  abbrev part : ℕ → ℕ → ℕ → ℕ
  part t a p = load f v (k + 1) a (half w v t p)

  -- what new mother hashes weigh
  abbrev new : List ℕ → ℕ
  new ms = sum (λ m. f (item (k + 1) m)) ms

  single : (a q : ℕ) (l : List ℕ) → l ≡ q ∷ [] → load f v (k + 1) a l ≡ weight f v (k + 1) a q
  unfolding sum
  single a q l e = ap (load f v (k + 1) a) e ∙ omega arith

  empty : (a : ℕ) (l : List ℕ) → l ≡ [] → load f v (k + 1) a l ≡ 0
  unfolding sum
  empty a l e = ap (load f v (k + 1) a) e

  part-void : (t a p : ℕ) → rest_of w p ≤ 1 → part t a p ≡ 0
  part-void t a p le = go (kind w v t p)
    where
      go : Kind w v t p → part t a p ≡ 0
      go (none_of b e) = empty a (half w v t p) e
      go (voided b e) = single a (void v) (half w v t p) e ∙ weightless f v (k + 1) a (void v) (omega (arith, void-rest v (omega arith)))
      go (other b d e) = empty a (half w v t p) e
      go (mine b d e) = absurd (omega arith)

  part-other : (t a p : ℕ) → 1 < rest_of w p → (fingerprint_of w p % 2 ≡ t → ⊥) → part t a p ≡ 0
  part-other t a p lt ne = go (kind w v t p)
    where
      go : Kind w v t p → part t a p ≡ 0
      go (none_of b e) = empty a (half w v t p) e
      go (voided b e) = absurd (omega arith)
      go (other b d e) = empty a (half w v t p) e
      go (mine b d e) = absurd (ne d)

  part-mine : (t a p : ℕ) → 1 < rest_of w p → fingerprint_of w p % 2 ≡ t → part t a p ≡ weight f v (k + 1) a (shrink w v p)
  part-mine t a p lt ft = go (kind w v t p)
    where
      go : Kind w v t p → part t a p ≡ weight f v (k + 1) a (shrink w v p)
      go (none_of b e) = absurd (omega arith)
      go (voided b e) = absurd (omega arith)
      go (other b d e) = absurd (d ft)
      go (mine b d e) = single a (shrink w v p) (half w v t p) e

  -- two bits or more: the string stays
  part-long : (t c p : ℕ) → 2 < rest_of w p → fingerprint_of w p % 2 ≡ t → part t (t * 2 ^ k + c) p ≡ f (entry w k c p)
  part-long t c p lt ft =
      let a : ℕ = t * 2 ^ k + c in
      let q : ℕ = shrink w v p in
      let l : length_of w p ≡ rest_of w p - 1 = length_rest w p in
      let sr : rest_of v q ≡ length_of w p = shrink-rest w v wpos wv p (omega arith) in
      let sl : length_of v q ≡ length_of w p - 1 = length_rest v q ∙ ap (λ n. n - 1) sr in
      let len : k + 1 + length_of v q ≡ k + length_of w p = omega arith in
      let val : fingerprint_of v q * 2 ^ (k + 1) + a ≡ fingerprint_of w p * 2 ^ k + c =
      ap (λ x. x * 2 ^ (k + 1) + a) (shrink-bits w v p wv (omega arith)) ∙ lowest (fingerprint_of w p) k t c ft in
      part-mine t a p (omega arith) ft
      ∙ ap (λ b. cond b (f (entry v (k + 1) a q)) 0) (lt-ltb 1 (rest_of v q) (omega arith))
      ∙ ap₂ (λ x y. f (record { len = x; val = y })) len val

  -- one bit: the entry becomes void
  part-last : (t a p : ℕ) → rest_of w p ≡ 2 → part t a p ≡ 0
  part-last t a p e = go (ℕ_discrete (fingerprint_of w p % 2) t)
    where
      l : length_of w p ≡ 1
      l = length_rest w p ∙ ap (λ n. n - 1) e

      go : Dec (fingerprint_of w p % 2 ≡ t) → part t a p ≡ 0
      go (no d) = part-other t a p (omega arith) d
      go (yes d) = part-mine t a p (omega arith) d ∙ weightless f v (k + 1) a (shrink w v p) (omega (arith, shrink-rest w v wpos wv p (omega arith), l))

  -- and its string is the new mother hash
  last-string : (c p : ℕ) → rest_of w p ≡ 2 → f (entry w k c p) ≡ f (item (k + 1) (c + 2 ^ k * fingerprint_of w p))
  last-string c p e =
      let l : length_of w p ≡ 1 = length_rest w p ∙ ap (λ n. n - 1) e in
      ap₂ (λ x y. f (record { len = x; val = y })) (ap (λ x. k + x) l) (ap (λ x. x + c) (mul_comm (fingerprint_of w p) (2 ^ k)) ∙ omega arith)

  -- both halves of an entry that keeps bits, or has none
  one_kept : (c p : ℕ) → (rest_of w p ≡ 2 → ⊥) → weight f w k c p ≡ part 0 c p + part 1 (2 ^ k + c) p
  one_kept c p ne = go (dec_lt 1 (rest_of w p)) (ℕ_discrete (fingerprint_of w p % 2) 0)
    where
      zero-c : part 0 (0 * 2 ^ k + c) p ≡ part 0 c p
      zero-c = let e : 0 * 2 ^ k + c ≡ c = omega arith in ap (λ x. part 0 x p) e

      one-c : part 1 (1 * 2 ^ k + c) p ≡ part 1 (2 ^ k + c) p
      one-c = let e : 1 * 2 ^ k + c ≡ 2 ^ k + c = omega arith in ap (λ x. part 1 x p) e

      go : Dec (1 < rest_of w p) → Dec (fingerprint_of w p % 2 ≡ 0) → weight f w k c p ≡ part 0 c p + part 1 (2 ^ k + c) p
      go (no a) b = rw (le-ltb 1 (rest_of w p) (omega arith)) (omega (arith, part-void 0 c p (omega arith), part-void 1 (2 ^ k + c) p (omega arith)))
      go (yes a) (yes b) =
          rw (lt-ltb 1 (rest_of w p) a) (omega (arith, zero-c, part-long 0 c p (omega arith) b, part-other 1 (2 ^ k + c) p a (λ e. omega arith)))
      go (yes a) (no b) =
          rw (lt-ltb 1 (rest_of w p) a) (omega (arith, one-c, part-other 0 c p a b, part-long 1 c p (omega arith) (omega arith)))

  run-split : (c : ℕ) (run : List ℕ)
      → load f w k c run ≡ load f v (k + 1) c (half_run w v 0 run) + load f v (k + 1) (2 ^ k + c) (half_run w v 1 run) + new (become_void w k c run)
  unfolding half_run sum
  run-split c [] = unfold become_void in refl
  run-split c (p ∷ run) =
      let rest = run-split c run in
      let here = sum-append (weight f v (k + 1) c) (half w v 0 p) (half_run w v 0 run) in
      let there = sum-append (weight f v (k + 1) (2 ^ k + c)) (half w v 1 p) (half_run w v 1 run) in
      become-cases
      (λ l. weight f w k c p + load f w k c run ≡ load f v (k + 1) c (half w v 0 p ++ half_run w v 0 run) + load f v (k + 1) (2 ^ k + c) (half w v 1 p ++ half_run w v 1 run) + new l)
      w k c p run
      (λ e. omega (
        arith,
        here,
        there,
        rest,
        ap (λ b. cond b (f (entry w k c p)) 0) (lt-ltb 1 (rest_of w p) (omega arith)),
        last-string c p e,
        part-last 0 c p e,
        part-last 1 (2 ^ k + c) p e,
      ))
      (λ e. omega (arith, here, there, rest, one_kept c p e))

  table-split : (c : ℕ) (rs : Runs)
      → sum f (table_items w k c rs)
      ≡ sum f (table_items v (k + 1) c (map (half_run w v 0) rs)) + sum f (table_items v (k + 1) (2 ^ k + c) (map (half_run w v 1) rs)) + new (new_hashes w k c rs)
  unfolding new_hashes sum
  table-split c [] = unfold table_items in refl
  table-split c (r ∷ rs) =
      omega (
        arith,
        table-sum f w k c r rs,
        table-sum f v (k + 1) c (half_run w v 0 r) (map (half_run w v 0) rs),
        table-sum f v (k + 1) (2 ^ k + c) (half_run w v 1 r) (map (half_run w v 1) rs),
        run-split c r,
        table-split (suc c) rs,
        sum-append (λ m. f (item (k + 1) m)) (become_void w k c r) (new_hashes w k (suc c) rs),
        ap (λ m. sum f (table_items v (k + 1) m (map (half_run w v 1) rs))) (add-suc (2 ^ k) c),
      )

  -- the doubled table and the new mother hashes have the strings of the table
  pub doubled-strings : (rs : Runs) → length rs ≡ 2 ^ k
      → sum f (table_items v (k + 1) 0 (doubled w v rs)) + sum (λ m. f (item (k + 1) m)) (new_hashes w k 0 rs) ≡ sum f (table_items w k 0 rs)
  unfolding doubled
  doubled-strings rs len =
      omega (
        arith,
        table-append f v (k + 1) 0 (map (half_run w v 0) rs) (map (half_run w v 1) rs),
        table-split 0 rs,
        ap (λ m. sum f (table_items v (k + 1) m (map (half_run w v 1) rs))) start,
      )
    where
      start : length (map (half_run w v 0) rs) + 0 ≡ 2 ^ k + 0
      start = omega (arith, length-map rs (half_run w v 0))
