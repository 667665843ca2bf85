-- The mother hashes that Double stores: an address gains as many voids as new mother hashes are that address, since both are the entries of one bit that go
-- there. Each is an address of the new table.
use mathlib.Core.Path.{◌≡◌, refl, sym, ap, ◌∙◌, subst}
use mathlib.Core.Bool.{true, false}
use mathlib.Core.List.{List, [], ◌∷◌, ◌++◌}
use Prim.Native.Nat.{ℕ, zero, suc, ◌+◌, ◌*◌, ◌/◌, ◌%◌, ◌^◌, ◌≤◌, ◌<◌}
use native.Mathlib.Omega.{arith}
use native.Mathlib.Nat.{pow-suc, mul_comm, add_comm, add_left_cancel}
use native.Mathlib.Numerals.{add-one}
use native.Mathlib.Decide.{ℕ_discrete}
use lib.Dec.{eqb, T}
use lib.Pow.{shl-shr, low}
use lib.ListN.{length, get_or, length-append}
use borrow.Author.Tests.{eq-eqb, ne_eqb}
use Rattle.lists.specs.Runs.{Runs, count, total}
use Rattle.lists.proofs.Tests.{is, is-yes, is-no}
use Rattle.lists.proofs.Alls.{All}
use Rattle.lists.proofs.RunLaws.{count-append}
use Rattle.slots.specs.Payload.{void, rest_of, length_of, fingerprint_of}
use Rattle.slots.proofs.PayloadLaws.{rest-one, shrink, void-rest, bits-void}
use Rattle.rules.specs.Sound.{main_entry}
use Rattle.rules.specs.Doubling.{half, half_run, become_void, new_hashes}
use Rattle.keeps.proofs.Entries.{passes-6}
use Rattle.keeps.proofs.Halves.{all_append, Kind, none_of, voided, other, mine, kind, fingerprint-lt, shrink-rest, shrink-lt}

-- one step of become_void, by the test of one bit
pub become-cases : (P : List ℕ → Type 0) (w k c p : ℕ) (ps : List ℕ) → (rest_of w p ≡ 2 → P ((c + 2 ^ k * fingerprint_of w p) ∷ become_void w k c ps))
    → ((rest_of w p ≡ 2 → ⊥) → P (become_void w k c ps)) → P (become_void w k c (p ∷ ps))
unfolding become_void
become-cases P w k c p ps f g = go (ℕ_discrete (rest_of w p) 2)
  where
    go : Dec (rest_of w p ≡ 2) → P (elim (eqb (rest_of w p) 2) [ true ↦ (c + 2 ^ k * fingerprint_of w p) ∷ become_void w k c ps | false ↦ become_void w k c ps ])
    go (yes e) = rw (eq-eqb (rest_of w p) 2 e) (f e)
    go (no e) = rw (ne_eqb (rest_of w p) 2 e) (g e)

-- a fingerprint of one bit
pub one_bit : (w p : ℕ) → rest_of w p ≡ 2 → fingerprint_of w p < 2
one_bit w p e =
    let l : length_of w p ≡ 1 = unfold length_of in omega arith in
    subst (λ n. fingerprint_of w p < 2 ^ n) l (fingerprint-lt w p)

-- ---- how many there are of an address

-- the address of c with top bit t, and that of other low bits
pub same-top : (k c f t : ℕ) → c + 2 ^ k * f ≡ c + 2 ^ k * t → f ≡ t
same-top k c f t e =
    sym (shl-shr f k) ∙ ap (λ x. x / 2 ^ k) (mul_comm f (2 ^ k) ∙ add_left_cancel c e ∙ mul_comm (2 ^ k) t) ∙ shl-shr t k

pub same_low : (k c d f t : ℕ) → c < 2 ^ k → d < 2 ^ k → c + 2 ^ k * f ≡ d + 2 ^ k * t → c ≡ d
same_low k c d f t hc hd e = sym (lows c f hc) ∙ ap (λ x. x % 2 ^ k) e ∙ lows d t hd
  where
    lows : (x y : ℕ) → x < 2 ^ k → (x + 2 ^ k * y) % 2 ^ k ≡ x
    lows x y h = ap (λ z. z % 2 ^ k) (add_comm x (2 ^ k * y) ∙ ap (λ z. z + x) (mul_comm (2 ^ k) y)) ∙ low y k h

-- none from a run of another address
pub other-run : (w k a c t : ℕ) → a < 2 ^ k → c < 2 ^ k → (a ≡ c → ⊥) → (run : List ℕ) → count (a + 2 ^ k * t) (become_void w k c run) ≡ 0
unfolding count
other-run w k a c t ha hc ne [] = unfold become_void in refl
other-run w k a c t ha hc ne (p ∷ run) =
    become-cases (λ l. count (a + 2 ^ k * t) l ≡ 0) w k c p run
    (λ e. omega (arith, is-no (a + 2 ^ k * t) (c + 2 ^ k * fingerprint_of w p) (λ q. ne (same_low k a c t (fingerprint_of w p) ha hc q)), other-run w k a c t ha hc ne run))
    (λ e. other-run w k a c t ha hc ne run)

hashes-none : (w k a t i : ℕ) (rs : Runs) → a < i → i + length rs ≤ 2 ^ k → count (a + 2 ^ k * t) (new_hashes w k i rs) ≡ 0
unfolding new_hashes
hashes-none w k a t i [] h l = unfold count in refl
hashes-none w k a t i (r ∷ rs) h l =
    omega (
      arith,
      count-append (a + 2 ^ k * t) (become_void w k i r) (new_hashes w k (suc i) rs),
      other-run w k a i t (omega arith) (omega arith) (λ e. omega arith) r,
      hashes-none w k a t (suc i) rs (omega arith) (omega arith),
    )

-- those of an address come from the run of its low bits
pub hashes-at : (w k t i : ℕ) (rs : Runs) (c : ℕ) → c < length rs → i + length rs ≤ 2 ^ k
    → count (i + c + 2 ^ k * t) (new_hashes w k i rs) ≡ count (i + c + 2 ^ k * t) (become_void w k (i + c) (get_or rs c []))
unfolding new_hashes
hashes-at w k t i [] c h l = absurd (omega arith)
hashes-at w k t i (r ∷ rs) zero h l =
    let z : i + 0 ≡ i = omega arith in
    rw z (omega (arith, count-append (i + 2 ^ k * t) (become_void w k i r) (new_hashes w k (suc i) rs), hashes-none w k i t (suc i) rs (omega arith) (omega arith)))
hashes-at w k t i (r ∷ rs) (suc c) h l =
    let s : i + suc c ≡ suc i + c = omega arith in
    rw s (omega (
      arith,
      count-append (suc i + c + 2 ^ k * t) (become_void w k i r) (new_hashes w k (suc i) rs),
      other-run w k (suc i + c) i t (omega arith) (omega arith) (λ e. omega arith) r,
      hashes-at w k t (suc i) rs c (omega arith) (omega arith),
    ))

-- ---- the voids of a half: those of the run, and one for each new mother hash

module _ (w v : ℕ) (wpos : 0 < w) (wv : w ≤ v) (k c t : ℕ) (t-1 : t < 2) where
  pub half-voids : (run : List ℕ) → All (λ p. p < 2 ^ w) run → count (void v) (half_run w v t run) ≡ count (void w) run + count (c + 2 ^ k * t) (become_void w k c run)
  unfolding half_run count
  half-voids [] x = unfold become_void in refl
  half-voids (p ∷ run) x =
      become-cases (λ l. count (void v) (half w v t p ++ half_run w v t run) ≡ count (void w) (p ∷ run) + count (c + 2 ^ k * t) l) w k c p run
      (λ e. omega (arith, count-append (void v) (half w v t p) (half_run w v t run), half-voids run x.1, one e (kind w v t p)))
      (λ e. omega (arith, count-append (void v) (half w v t p) (half_run w v t run), half-voids run x.1, none e (kind w v t p)))
    where
      vpos : 0 < v
      vpos = omega arith

      single : (l : List ℕ) (y : ℕ) → l ≡ y ∷ [] → count (void v) l ≡ is (void v) y
      single l y e = ap (count (void v)) e ∙ omega arith

      empty : (l : List ℕ) → l ≡ [] → count (void v) l ≡ 0
      empty l e = ap (count (void v)) e

      -- an entry of one bit
      one : rest_of w p ≡ 2 → Kind w v t p → count (void v) (half w v t p) ≡ is (void w) p + is (c + 2 ^ k * t) (c + 2 ^ k * fingerprint_of w p)
      one q (none_of b e) = absurd (omega arith)
      one q (voided b e) = absurd (omega arith)
      one q (other b d e) =
          omega (
            arith,
            empty (half w v t p) e,
            is-no (void w) p (bits-void w p wpos b),
            is-no (c + 2 ^ k * t) (c + 2 ^ k * fingerprint_of w p) (λ s. d (omega (arith, one_bit w p q, same-top k c t (fingerprint_of w p) s))),
          )
      one q (mine b d e) =
          let l : length_of w p ≡ 1 = unfold length_of in omega arith in
          let f : t ≡ fingerprint_of w p = omega (arith, one_bit w p q) in
          omega (
            arith,
            single (half w v t p) (shrink w v p) e,
            is-no (void w) p (bits-void w p wpos b),
            is-yes (void v) (shrink w v p) (sym (rest-one v (shrink w v p) (shrink-lt w v wpos wv p b) (shrink-rest w v wpos wv p b ∙ l))),
            is-yes (c + 2 ^ k * t) (c + 2 ^ k * fingerprint_of w p) (ap (λ y. c + 2 ^ k * y) f),
          )

      -- another
      none : (rest_of w p ≡ 2 → ⊥) → Kind w v t p → count (void v) (half w v t p) ≡ is (void w) p
      none q (none_of b e) = omega (arith, empty (half w v t p) e, is-no (void w) p (λ s. omega (arith, void-rest w wpos, ap (rest_of w) s)))
      none q (voided b e) = omega (arith, single (half w v t p) (void v) e, is-yes (void w) p (sym (rest-one w p x.0 b)), is-yes (void v) (void v) refl)
      none q (other b d e) = omega (arith, empty (half w v t p) e, is-no (void w) p (bits-void w p wpos b))
      none q (mine b d e) =
          let l : 1 < length_of w p = unfold length_of in omega arith in
          omega (
            arith,
            single (half w v t p) (shrink w v p) e,
            is-no (void w) p (bits-void w p wpos b),
            is-no (void v) (shrink w v p) (bits-void v (shrink w v p) vpos (omega (arith, shrink-rest w v wpos wv p b))),
          )

-- ---- each is an address of the new table, and there are no more than entries

run-hashes : (w k c : ℕ) (run : List ℕ) → c < 2 ^ k → All (λ p. T (main_entry w k p)) run → All (λ m. (m < 2 ^ (k + 1)) × (6 ≤ k + 1)) (become_void w k c run)
run-hashes w k c [] h a = unfold become_void in tt
run-hashes w k c (p ∷ run) h a =
    become-cases (All (λ m. (m < 2 ^ (k + 1)) × (6 ≤ k + 1))) w k c p run
    (λ e. ((omega (arith, two, times (fingerprint_of w p) (one_bit w p e)), omega (arith, passes-6 w k p a.0 (omega arith), length-1 e)), run-hashes w k c run h a.1))
    (λ e. run-hashes w k c run h a.1)
  where
    two : 2 ^ (k + 1) ≡ 2 ^ k * 2
    two = ap (λ x. 2 ^ x) (add-one k) ∙ pow-suc 2 k

    length-1 : rest_of w p ≡ 2 → length_of w p ≡ 1
    length-1 e = unfold length_of in omega arith

    times : (f : ℕ) → f < 2 → 2 ^ k * f ≤ 2 ^ k
    times zero l = omega arith
    times (suc zero) l = omega arith
    times (suc (suc f)) l = absurd (omega arith)

pub hashes-right : (w k c : ℕ) (rs : Runs) → c + length rs ≤ 2 ^ k → All (All (λ p. T (main_entry w k p))) rs → All (λ m. (m < 2 ^ (k + 1)) × (6 ≤ k + 1)) (new_hashes w k c rs)
unfolding new_hashes
hashes-right w k c [] h a = tt
hashes-right w k c (r ∷ rs) h a =
    all_append (λ m. (m < 2 ^ (k + 1)) × (6 ≤ k + 1)) (become_void w k c r) (new_hashes w k (suc c) rs) (run-hashes w k c r (omega arith) a.0) (hashes-right w k (suc c) rs (omega arith) a.1)

run-few : (w k c : ℕ) (run : List ℕ) → length (become_void w k c run) ≤ length run
run-few w k c [] = unfold become_void in omega arith
run-few w k c (p ∷ run) = become-cases (λ l. length l ≤ suc (length run)) w k c p run (λ e. omega (arith, run-few w k c run)) (λ e. omega (arith, run-few w k c run))

pub hashes-few : (w k c : ℕ) (rs : Runs) → length (new_hashes w k c rs) ≤ total rs
unfolding new_hashes total
hashes-few w k c [] = omega arith
hashes-few w k c (r ∷ rs) = omega (arith, length-append (become_void w k c r) (new_hashes w k (suc c) rs), run-few w k c r, hashes-few w k (suc c) rs)
