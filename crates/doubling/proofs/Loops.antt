-- The size that a search finds, and what one entry stores or counts.
use mathlib.Core.Path.{◌≡◌, refl, sym, ap, ◌∙◌, subst}
use mathlib.Core.Bool.{Bool, true, false}
use mathlib.Core.List.{List, [], ◌∷◌, ◌++◌}
use Prim.Native.Nat.{ℕ, zero, suc, ◌+◌, ◌-◌, ◌*◌, ◌/◌, ◌%◌, ◌^◌, ◌≤◌, ◌<◌}
use native.Mathlib.Omega.{arith}
use native.Mathlib.Decide.{ℕ_discrete}
use native.Mathlib.Nat.{mod-lt, mod-eq_of_lt}
use lib.Dec.{eqb}
use lib.Pow.{pow_pos}
use lib.ListN.{length, length-append}
use borrow.Author.Tests.{le-leb, lt-leb, eqb-true}
use Rattle.std.specs.Prelude.{Option, Some, None, MatchOption, unwrap_or, cond, filter}
use Rattle.lists.specs.Runs.{Runs, add, at, total}
use Rattle.slots.specs.Numbers.{limit}
use Rattle.slots.specs.Payload.{rest_of, length_of, fingerprint_of}
use Rattle.layout.specs.Machine.{layout}
use Rattle.rules.specs.Tables.{hash_entry}
use Rattle.rules.specs.Doubling.{become_void, size_from, size_for}
use Rattle.keeps.proofs.Mothers.{hash-fits}
use Rattle.arriving.specs.Arrivals.{arrival, Arrived, of_run}
use Rattle.arriving.proofs.Arrivals.{arrived-none, arrived-one}
use Rattle.arriving.proofs.Payloads.{pay-small}
use Rattle.doubling.specs.NewHashes.{new_hash, hash_arrival, stored}

-- ---- the size

size-none : (d s n : ℕ) → ((k : ℕ) → s ≤ k → k < s + d → limit k < n) → s + d ≡ size_from d s n
unfolding size_from
size-none zero s n f = omega arith
size-none (suc d) s n f =
    let e : s + suc d ≡ suc s + d = omega arith in
    rw (lt-leb n (limit s) (f s (omega arith) (omega arith)), size_from) (e ∙ size-none d (suc s) n (λ k a b. f k (omega arith) (omega arith)))

size-some : (d s n i : ℕ) → s ≤ i → i < s + d → n ≤ limit i → ((k : ℕ) → s ≤ k → k < i → limit k < n) → i ≡ size_from d s n
unfolding size_from
size-some zero s n i a b h f = absurd (omega arith)
size-some (suc d) s n i a b h f =
    go (ℕ_discrete s i) (λ more. size-some d (suc s) n i (omega arith) (omega arith) h (λ k c l. f k (omega arith) l))
  where
    go : Dec (s ≡ i) → (s < i → i ≡ size_from d (suc s) n) → i ≡ size_from (suc d) s n
    go (yes e) on = rw (le-leb n (limit s) (subst (λ (x : ℕ). n ≤ limit x) (sym e) h), size_from) (sym e)
    go (no ne) on = rw (lt-leb n (limit s) (f s (omega arith) (omega arith)), size_from) (on (omega arith))

-- the first of the sizes 3 to 22 that is large enough, or 23
pub size-found : (n : ℕ) (r : Option ℕ)
    → MatchOption r ((k : ℕ) → 3 ≤ k → k < 23 → limit k < n) (λ i. (3 ≤ i) × (i < 23) × (n ≤ limit i) × ((k : ℕ) → 3 ≤ k → k < i → limit k < n))
    → (unwrap_or r 23 ≡ size_for n) × (unwrap_or r 23 ≤ 23)
size-found n None h = (size-none 20 3 n h, omega arith)
size-found n (Some i) h = (size-some 20 3 n i h.0 (omega (arith, h.1)) h.2 h.3, omega (arith, h.1))

-- ---- the new mother hash of an entry

become-is : (w k c p : ℕ) (b : Bool) → eqb (rest_of w p) 2 ≡ b
    → become_void w k c (p ∷ []) ≡ elim b [ true ↦ (c + 2 ^ k * fingerprint_of w p) ∷ [] | false ↦ [] ]
unfolding become_void
become-is w k c p b e = rw (e, become_void)

-- a mother hash without its s lowest bits fits a slot word
pub entry-small : (b s m x : ℕ) → s ≤ b → b - s < 18 → x ≡ hash_entry b s (m % 2 ^ b) → x < 536870912
entry-small b s m x h l e = pay-small 18 (b - s) (m % 2 ^ b / 2 ^ s) x (omega arith) l (hash-fits b s (m % 2 ^ b) h (mod-lt m (pow_pos b))) e

module _ (w k c p : ℕ) where
  hash-yes : eqb (rest_of w p) 2 ≡ true → new_hash w k c p ≡ (c + 2 ^ k * (p % 2)) ∷ []
  unfolding new_hash fingerprint_of
  hash-yes e =
      let r = eqb-true (rest_of w p) 2 e in
      let f : length_of w p ≡ 1 = unfold length_of in omega (arith, r) in
      become-is w k c p true e ∙ ap (λ (j : ℕ). (c + 2 ^ k * (p % 2 ^ j)) ∷ []) f

  hash-no : eqb (rest_of w p) 2 ≡ false → new_hash w k c p ≡ []
  unfolding new_hash
  hash-no e = become-is w k c p false e

  hash-length : (b : Bool) → b ≡ eqb (rest_of w p) 2 → length (new_hash w k c p) ≡ cond b 1 0
  hash-length true e = ap length (hash-yes (sym e))
  hash-length false e = ap length (hash-no (sym e))

  pub stored_no : (s : ℕ) (ws : List ℕ) → eqb (rest_of w p) 2 ≡ false → Arrived ws ws (stored w k s c p)
  unfolding stored
  stored_no s ws e = rw (hash-no e) (arrived-none ws)

  -- m is the new address, i its slot and x its payload
  pub stored-yes : (s m i x : ℕ) (ws ws' : List ℕ) → eqb (rest_of w p) 2 ≡ true → m ≡ c + 2 ^ k * (p % 2) → m < 2 ^ (k + 1) → i ≡ m % 2 ^ s
      → x ≡ hash_entry (k + 1) s (m % 2 ^ (k + 1)) → ((rs : Runs) → ws ≡ layout rs → suc (total rs) < length rs → ws' ≡ layout (at i (add x) rs))
      → Arrived ws ws' (stored w k s c p)
  unfolding stored
  stored-yes s m i x ws ws' e em hm ei ex f =
      let ex' : x ≡ hash_entry (k + 1) s m = ex ∙ ap (hash_entry (k + 1) s) (mod-eq_of_lt hm) in
      rw (hash-yes e)
      (subst (λ (j : ℕ). Arrived ws ws' (hash_arrival (k + 1) s j ∷ [])) em
      (subst (λ (j : ℕ). Arrived ws ws' (arrival j (hash_entry (k + 1) s m) ∷ [])) ei
      (subst (λ (j : ℕ). Arrived ws ws' (arrival i j ∷ [])) ex' (arrived-one ws ws' i x f))))

-- ---- how many entries of a run become void

pub hashes-counted : (w k c : ℕ) (run : List ℕ) → length (filter (λ p. eqb (rest_of w p) 2) run) ≡ length (of_run (new_hash w k c) run)
unfolding of_run
hashes-counted w k c [] = refl
hashes-counted w k c (p ∷ run) = go (eqb (rest_of w p) 2) (hash-length w k c p (eqb (rest_of w p) 2) refl) (hashes-counted w k c run)
  where
    rest : List ℕ
    rest = filter (λ p. eqb (rest_of w p) 2) run

    both : List ℕ
    both = of_run (new_hash w k c) run

    go : (b : Bool) → length (new_hash w k c p) ≡ cond b 1 0 → length rest ≡ length both → length (cond b (p ∷ rest) rest) ≡ length (new_hash w k c p ++ both)
    go true e ih = omega (arith, length-append (new_hash w k c p) both)
    go false e ih = omega (arith, length-append (new_hash w k c p) both)

pub filter-few : (test : ℕ → Bool) (run : List ℕ) → length (filter test run) ≤ length run
filter-few test [] = omega arith
filter-few test (p ∷ run) = go (test p) (filter-few test run)
  where
    rest : List ℕ
    rest = filter test run

    go : (b : Bool) → length rest ≤ length run → length (cond b (p ∷ rest) rest) ≤ suc (length run)
    go true h = omega arith
    go false h = omega arith
