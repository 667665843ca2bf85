-- The steps of the loop over the entries of a run, and what each entry gives.
use mathlib.Core.Path.{◌≡◌, refl, sym, ap, ap₂, ◌∙◌, subst}
use mathlib.Core.Bool.{Bool, true, false}
use mathlib.Core.List.{List, [], ◌∷◌, ◌++◌, map, append-nil}
use Prim.Native.Nat.{ℕ, suc, ◌+◌, ◌-◌, ◌/◌, ◌%◌, ◌^◌, ◌≤◌, ◌<◌}
use native.Mathlib.Omega.{arith}
use lib.Dec.{eqb}
use lib.ListN.{length, length-append}
use borrow.Author.Tests.{eq-eqb, ne_eqb}
use Rattle.lists.specs.Runs.{Runs, add, at, total}
use Rattle.slots.specs.Payload.{pay, void, rest_of, length_of, fingerprint_of}
use Rattle.layout.specs.Machine.{layout}
use Rattle.rules.specs.Doubling.{half}
use Rattle.arriving.specs.Arrivals.{Arrival, arrival, Arrived, of_run, halves, Sent}
use Rattle.arriving.proofs.Arrivals.{arrived-none, arrived-one, arrived-both, run-append}

-- ---- the entries of a run

-- one entry more
run-again : {A : Type 0} (f : ℕ → List A) (run : List ℕ) (p : ℕ) → of_run f (run ++ p ∷ []) ≡ of_run f run ++ f p
unfolding of_run
run-again f run p = run-append f run (p ∷ []) ∙ ap (λ (x : List _). of_run f run ++ x) (append-nil (f p))

pub run-start : {A : Type 0} (f : ℕ → List A) → 0 ≡ length (of_run f [])
unfolding of_run
run-start f = refl

pub run-count : {A : Type 0} (f : ℕ → List A) (run : List ℕ) (p m x : ℕ) → m ≡ length (of_run f run) → x ≡ length (f p)
    → m + x ≡ length (of_run f (run ++ p ∷ []))
run-count f run p m x em ex = omega (arith, ap length (run-again f run p), length-append (of_run f run) (f p))

pub arrive-start : (f : ℕ → List Arrival) (ws : List ℕ) → Arrived ws ws (of_run f [])
unfolding of_run
arrive-start f ws = arrived-none ws

pub arrive-again : (f : ℕ → List Arrival) (run : List ℕ) (p : ℕ) (a b c : List ℕ) → Arrived a b (of_run f run) → Arrived b c (f p)
    → Arrived a c (of_run f (run ++ p ∷ []))
arrive-again f run p a b c x y = rw (run-again f run p) (arrived-both a b c (of_run f run) (f p) x y)

-- ---- the halves of an entry

half-none : (w v t p : ℕ) → rest_of w p ≡ 0 → half w v t p ≡ []
unfolding half
half-none w v t p e = rw (e, half)

half-void : (w v t p : ℕ) → rest_of w p ≡ 1 → half w v t p ≡ void v ∷ []
unfolding half
half-void w v t p e = rw (e, half)

half-some : (w v t p l : ℕ) (b : Bool) → rest_of w p ≡ suc (suc l) → eqb (fingerprint_of w p % 2) t ≡ b
    → half w v t p ≡ elim b [ true ↦ pay v l (fingerprint_of w p / 2) ∷ [] | false ↦ [] ]
unfolding half
half-some w v t p l b e f = rw (e, half, f)

module _ (w v n c p m : ℕ) (em : m ≡ rest_of w p) where
  both : (x y : List ℕ) → half w v 0 p ≡ x → half w v 1 p ≡ y → halves w v n c p ≡ map (arrival c) x ++ map (arrival (c + n)) y
  unfolding halves
  both x y e f = ap₂ (λ (i j : List ℕ). map (arrival c) i ++ map (arrival (c + n)) j) e f

  sent : (es : List Arrival) (ws ws' : List ℕ) (added : ℕ) → halves w v n c p ≡ es → Arrived ws ws' es → added ≡ length es → added ≤ 2
      → Sent w v n c p ws ws' added
  sent es ws ws' added e a l f = record { arrived = subst (Arrived ws ws') (sym e) a; counted = l ∙ sym (ap length e); few = f }

  -- what the code knows after an insertion
  abbrev Put : List ℕ → List ℕ → ℕ → ℕ → Type 0
  Put ws ws' i x = (rs : Runs) → ws ≡ layout rs → suc (total rs) < length rs → ws' ≡ layout (at i (add x) rs)

  pub sent-none : (ws : List ℕ) → m ≡ 0 → Sent w v n c p ws ws 0
  sent-none ws e = sent [] ws ws 0 (both [] [] (half-none w v 0 p (sym em ∙ e)) (half-none w v 1 p (sym em ∙ e))) (arrived-none ws) refl (omega arith)

  pub sent-void : (x : ℕ) (ws ws' ws'' : List ℕ) → m ≡ 1 → x ≡ void v → Put ws ws' c x → Put ws' ws'' (c + n) x → Sent w v n c p ws ws'' 2
  sent-void x ws ws' ws'' e ex f g =
      sent (arrival c x ∷ arrival (c + n) x ∷ []) ws ws'' 2 (both (x ∷ []) (x ∷ []) (each 0) (each 1))
      (arrived-both ws ws' ws'' (arrival c x ∷ []) (arrival (c + n) x ∷ []) (arrived-one ws ws' c x f) (arrived-one ws' ws'' (c + n) x g)) refl (omega arith)
    where
      each : (t : ℕ) → half w v t p ≡ x ∷ []
      each t = half-void w v t p (sym em ∙ e) ∙ ap (λ (y : ℕ). y ∷ []) (sym ex)

  module _ (f x : ℕ) (lo : m ≡ 0 → ⊥) (hi : m ≡ 1 → ⊥) (ef : f ≡ p % 2 ^ (m - 1)) (ex : x ≡ pay v (m - 2) (f / 2)) where
    bits : fingerprint_of w p ≡ f
    bits = unfold fingerprint_of length_of in ap (λ (j : ℕ). p % 2 ^ (j - 1)) (sym em) ∙ sym ef

    rest : rest_of w p ≡ suc (suc (m - 2))
    rest = omega arith

    own : (t : ℕ) → f % 2 ≡ t → half w v t p ≡ x ∷ []
    own t e =
        half-some w v t p (m - 2) true rest (eq-eqb (fingerprint_of w p % 2) t (ap (λ (j : ℕ). j % 2) bits ∙ e))
        ∙ ap (λ (j : ℕ). pay v (m - 2) (j / 2) ∷ []) bits ∙ ap (λ (y : ℕ). y ∷ []) (sym ex)

    other : (t : ℕ) → (f % 2 ≡ t → ⊥) → half w v t p ≡ []
    other t n = half-some w v t p (m - 2) false rest (ne_eqb (fingerprint_of w p % 2) t (λ e. n (ap (λ (j : ℕ). j % 2) (sym bits) ∙ e)))

    pub sent-low : (ws ws' : List ℕ) → f % 2 ≡ 0 → Put ws ws' c x → Sent w v n c p ws ws' 1
    sent-low ws ws' z g =
        sent (arrival c x ∷ []) ws ws' 1 (both (x ∷ []) [] (own 0 z) (other 1 (λ e. omega arith))) (arrived-one ws ws' c x g) refl (omega arith)

    pub sent-high : (ws ws' : List ℕ) → (f % 2 ≡ 0 → ⊥) → Put ws ws' (c + n) x → Sent w v n c p ws ws' 1
    sent-high ws ws' z g =
        sent (arrival (c + n) x ∷ []) ws ws' 1 (both [] (x ∷ []) (other 0 z) (own 1 (omega arith))) (arrived-one ws ws' (c + n) x g) refl (omega arith)
