-- The entries of a main table: what passes its test, and the first entry of a rising run that passes some other test, which is the least.
use mathlib.Core.Path.{◌≡◌, refl, sym, ap, ◌∙◌, subst}
use mathlib.Core.Bool.{Bool, true, false, cond, ◌||◌}
use mathlib.Core.List.{List, [], ◌∷◌}
use Prim.Native.Nat.{ℕ, ◌+◌, ◌^◌, ◌≤◌, ◌<◌}
use native.Mathlib.Omega.{arith}
use native.Mathlib.Decide.{ℕ_discrete}
use lib.Dec.{leb, ltb, eqb, T, leb→le, le→leb, ltb→lt, lt→ltb}
use lib.ListN.{length, get_or}
use borrow.Author.Tests.{eq-eqb, ne_eqb}
use Rattle.lists.specs.Runs.{count, hits}
use Rattle.lists.proofs.Tests.{and_left, and_right, and_both, no_true, is-yes, is-no}
use Rattle.lists.proofs.Alls.{All, all_map}
use Rattle.lists.proofs.RunLaws.{Rises}
use Rattle.slots.specs.Payload.{rest_of, length_of}
use Rattle.rules.specs.Sound.{main_entry}

-- ---- the test of a main entry

pub passes : (w k p : ℕ) → p < 2 ^ w → (1 < rest_of w p → 6 ≤ k + length_of w p) → T (main_entry w k p)
unfolding main_entry length_of
passes w k p lt h =
    and_both (ltb p (2 ^ w)) (eqb (length_of w p) 0 || leb 6 (k + length_of w p)) (lt→ltb p (2 ^ w) lt) (go (ℕ_discrete (length_of w p) 0))
  where
    go : Dec (length_of w p ≡ 0) → T (eqb (length_of w p) 0 || leb 6 (k + length_of w p))
    go (yes e) = rw (eq-eqb (length_of w p) 0 e) tt
    go (no e) = rw (ne_eqb (length_of w p) 0 e) (le→leb 6 (k + length_of w p) (h (omega arith)))

pub passes-lt : (w k p : ℕ) → T (main_entry w k p) → p < 2 ^ w
unfolding main_entry
passes-lt w k p t = ltb→lt p (2 ^ w) (and_left (ltb p (2 ^ w)) (eqb (length_of w p) 0 || leb 6 (k + length_of w p)) t)

pub passes-6 : (w k p : ℕ) → T (main_entry w k p) → 1 < rest_of w p → 6 ≤ k + length_of w p
unfolding main_entry length_of
passes-6 w k p t l =
    leb→le 6 (k + length_of w p)
    (rw (ne_eqb (length_of w p) 0 (λ e. omega arith)) at (and_right (ltb p (2 ^ w)) (eqb (length_of w p) 0 || leb 6 (k + length_of w p)) t))

-- ---- the first that passes

-- an element that is there passes what all pass
pub all-count : (P : ℕ → Type 0) (l : List ℕ) (p : ℕ) → All P l → 0 < count p l → P p
unfolding count
all-count P [] p a c = absurd (omega arith)
all-count P (x ∷ l) p a c = go (ℕ_discrete p x) (λ d. all-count P l p a.1 d)
  where
    go : Dec (p ≡ x) → (0 < count p l → P p) → P p
    go (yes e) rec = subst P (sym e) a.0
    go (no e) rec = rec (omega (arith, is-no p x e))

pub record Best (f : ℕ → Bool) (p : ℕ) (run : List ℕ) : Type 0 where
  pub inside : 0 < count p run
  pub hit : f p ≡ true
  pub first : All (λ q. f q ≡ true → p ≤ q) run

pub hits-best : (f : ℕ → Bool) (d : ℕ) (run : List ℕ) → Rises run → 0 < length (hits f run) → Best f (get_or (hits f run) 0 d) run
unfolding hits Rises count
hits-best f d [] r l = absurd (omega arith)
hits-best f d (p ∷ ps) r l = go (f p) refl (hits-best f d ps r.1) l
  where
    go : (b : Bool) → f p ≡ b → (0 < length (hits f ps) → Best f (get_or (hits f ps) 0 d) ps) → 0 < length (cond b (p ∷ hits f ps) (hits f ps))
        → Best f (get_or (cond b (p ∷ hits f ps) (hits f ps)) 0 d) (p ∷ ps)
    go true e rec l =
        record {
          inside = omega (arith, is-yes p p refl);
          hit = e;
          first = (λ _. omega arith, all_map (λ y. p ≤ y) (λ q. f q ≡ true → p ≤ q) (λ q le _. le) ps r.0);
        }
    go false e rec l =
        let b = rec l in
        record { inside = omega (arith, b.inside); hit = b.hit; first = (λ t. absurd (no_true (sym e ∙ t)), b.first) }

-- some entry passes: there is a hit
pub match-hits : (f : ℕ → Bool) (run : List ℕ) (p : ℕ) → 0 < count p run → f p ≡ true → 0 < length (hits f run)
unfolding hits count
match-hits f [] p c m = absurd (omega arith)
match-hits f (q ∷ qs) p c m = go (f q) refl (ℕ_discrete p q) (λ x. match-hits f qs p x m)
  where
    go : (b : Bool) → f q ≡ b → Dec (p ≡ q) → (0 < count p qs → 0 < length (hits f qs)) → 0 < length (cond b (q ∷ hits f qs) (hits f qs))
    go true e eq rec = omega arith
    go false e (yes eq) rec = absurd (no_true (sym e ∙ ap f (sym eq) ∙ m))
    go false e (no ne) rec = rec (omega (arith, is-no p q ne))
