-- Query on bytes: its two tests decide its number, and where neither fails the numbers that the walk asks for hold, and what it found is the answer.
use mathlib.Core.Path.{◌≡◌, refl, sym, ap, ◌∙◌}
use mathlib.Core.Bool.{Bool, ◌&&◌}
use mathlib.Core.List.{List, []}
use Prim.Native.Nat.{ℕ, zero, suc, ◌*◌, ◌^◌, ◌≤◌, ◌<◌}
use native.Mathlib.Omega.{arith}
use lib.Dec.{T, leb, ltb, eqb, leb→le, eqb→eq}
use lib.ListN.{length}
use lib.Pow.{pow_mono}
use borrow.Author.Tests.{eq-eqb, ne_eqb, le-leb}
use Rattle.std.specs.Prelude.{Option, is_some}
use Rattle.lists.specs.Lists.{bit, within}
use Rattle.lists.specs.Runs.{hits}
use Rattle.lists.proofs.Tests.{and_left, and_right, true-test}
use Rattle.slots.specs.Payload.{canonical_slot, matches}
use Rattle.layout.specs.Decode.{run_at}
use Rattle.layout.specs.Bytes.{words_of}
use Rattle.rules.specs.Refusals.{refusal}
use Rattle.rules.specs.Lookups.{bytes_number, answer_in, query_bytes}
use Rattle.keeps.proofs.Refusals.{refusal-zero}
use Rattle.lookup.specs.Spots.{First}
use Rattle.lookup_bytes.proofs.Words.{words_length}
use Rattle.filter.proofs.Firsts.{any-hit}
use Rattle.filter.proofs.Refused.{not-true}

-- k and w are in range
pub record In (k w : ℕ) : Type 0 where
  pub k_3 : 3 ≤ k
  pub k_20 : k ≤ 20
  pub w-4 : 4 ≤ w
  pub w_26 : w ≤ 26

abbrev Ranged : ℕ → ℕ → Bool
Ranged k w = within 3 20 k && within 4 26 w

ranged : (k w : ℕ) → T (Ranged k w) → In k w
ranged k w t =
    let a = and_left (within 3 20 k) (within 4 26 w) t in
    let b = and_right (within 3 20 k) (within 4 26 w) t in
    record {
      k_3 = leb→le _ _ (and_left (leb 3 k) (leb k 20) a);
      k_20 = leb→le _ _ (and_right (leb 3 k) (leb k 20) a);
      w-4 = leb→le _ _ (and_left (leb 4 w) (leb w 26) b);
      w_26 = leb→le _ _ (and_right (leb 4 w) (leb w 26) b);
    }

pub number-2 : (k w n : ℕ) → (In k w → ⊥) → 2 ≡ bytes_number k w n
unfolding bytes_number refusal
number-2 k w n f = rw (not-true (Ranged k w) (λ e. f (ranged k w (true-test _ e))), refusal)

module _ (k w n slots : ℕ) (v : In k w) (es : slots ≡ 2 ^ k) where
  pub number-3 : (n ≡ 4 * slots → ⊥) → 3 ≡ bytes_number k w n
  unfolding bytes_number refusal
  number-3 ne =
      rw (
        le-leb 3 k v.k_3,
        le-leb k 20 v.k_20,
        le-leb 4 w v.w-4,
        le-leb w 26 v.w_26,
        ne_eqb n (4 * 2 ^ k) (λ x. ne (x ∙ ap (λ (s : ℕ). 4 * s) (sym es))),
        refusal,
      )

  pub number-0 : n ≡ 4 * slots → 0 ≡ bytes_number k w n
  unfolding bytes_number refusal
  number-0 en =
      rw (le-leb 3 k v.k_3, le-leb k 20 v.k_20, le-leb 4 w v.w-4, le-leb w 26 v.w_26, eq-eqb n (4 * 2 ^ k) (en ∙ ap (λ (s : ℕ). 4 * s) es), refusal)

-- numbers that the walk over the words asks for
pub record Walk (k w n c : ℕ) : Type 0 where
  pub inside : c < n
  pub most : n ≤ 1048576
  pub more : 1 < n
  pub wide : w ≤ 26

module _ (k w : ℕ) (bytes : List ℕ) (z : 0 ≡ bytes_number k w (length bytes)) where
  rights : In k w × (length bytes ≡ 4 * 2 ^ k)
  unfolding bytes_number
  rights =
      let x = refusal-zero (Ranged k w) 1 _ (sym z) in
      (ranged k w x.0, eqb→eq (length bytes) (4 * 2 ^ k) (refusal-zero (eqb (length bytes) (4 * 2 ^ k)) 2 [] x.1).0)

  pub low : k ≤ 20
  low = rights.0.k_20

  pub walk : (c : ℕ) → c < 2 ^ k → Walk k w (length (words_of bytes)) c
  walk c hc =
      let v = rights.0 in
      let l : length (words_of bytes) ≡ 2 ^ k = omega (arith, words_length bytes, rights.1) in
      let m : 2 ^ 3 ≤ 2 ^ k = pow_mono {i = 3} {j = k} v.k_3 in
      let u : 2 ^ k ≤ 2 ^ 20 = pow_mono {i = k} {j = 20} v.k_20 in
      record { inside = omega arith; most = omega arith; more = omega arith; wide = v.w_26 }

refused : (n m : ℕ) → n ≡ m → (n ≡ 0 → ⊥) → (b : ℕ) → n ≡ elim m [ zero ↦ b | suc k ↦ suc k ]
refused n zero e ne b = absurd (ne e)
refused n (suc m) e ne b = e

answered : (m b : ℕ) → 0 ≡ m → b ≡ elim m [ zero ↦ b | suc k ↦ suc k ]
answered zero b e = refl
answered (suc m) b e = absurd (omega arith)

module _ (k w : ℕ) (bytes : List ℕ) (h : ℕ) where
  pub bytes-refused : (n : ℕ) → n ≡ bytes_number k w (length bytes) → (n ≡ 0 → ⊥) → n ≡ query_bytes k w bytes h
  unfolding query_bytes
  bytes-refused n e ne = refused n (bytes_number k w (length bytes)) e ne (answer_in k w (words_of bytes) h)

  pub bytes-answered : 0 ≡ bytes_number k w (length bytes) → (c : ℕ) → c ≡ canonical_slot k h → (o : Option ℕ)
      → First (matches w k h) (run_at (words_of bytes) c) o
      → bit (is_some o) ≡ query_bytes k w bytes h
  unfolding query_bytes answer_in
  bytes-answered z c ec o m =
      ap bit
      (any-hit (matches w k h) (run_at (words_of bytes) c) o m
      ∙ ap (λ (s : ℕ). ltb 0 (length (hits (matches w k h) (run_at (words_of bytes) s)))) ec)
      ∙ answered (bytes_number k w (length bytes)) (answer_in k w (words_of bytes) h) z
