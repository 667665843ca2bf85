-- A refusal number, one test at a time: a test that holds is passed, and one that does not gives its number. What a call whose number is 0 did.
use mathlib.Core.Path.{◌≡◌, refl, ap, ◌∙◌}
use mathlib.Core.Bool.{Bool, true, false, not}
use mathlib.Core.List.{List, ◌∷◌}
use Prim.Native.Nat.{ℕ, zero, suc}
use native.Mathlib.Omega.{arith}
use lib.Dec.{T}
use lib.ListN.{length}
use Rattle.rules.specs.Record.{Filter}
use Rattle.rules.specs.Refusals.{Test, refusal, record_right, slices_right}
use Rattle.rules.specs.Calls.{Outcome, give, refused, asked}

pub refusal-passed : (t : Test) (ts : List Test) → T t.right → refusal (t ∷ ts) ≡ refusal ts
unfolding refusal
refusal-passed t ts h = go t.right h
  where
    go : (b : Bool) → T b → ◌≡◌ {A = ℕ} (elim b [ true ↦ refusal ts | false ↦ t.number ]) (refusal ts)
    go true h = refl
    go false h = absurd h

pub refusal-given : (t : Test) (ts : List Test) → T (not t.right) → refusal (t ∷ ts) ≡ t.number
unfolding refusal
refusal-given t ts h = go t.right h
  where
    go : (b : Bool) → T (not b) → ◌≡◌ {A = ℕ} (elim b [ true ↦ refusal ts | false ↦ t.number ]) t.number
    go true h = absurd h
    go false h = refl

-- 0: every test holds
pub refusal-zero : (b : Bool) (n : ℕ) (ts : List Test) → refusal (record { right = b; number = suc n } ∷ ts) ≡ 0 → T b × (refusal ts ≡ 0)
unfolding refusal
refusal-zero true n ts e = (tt, e)
refusal-zero false n ts e = absurd (omega arith)

pub asked-zero : (r : Filter) (main queue annex : List ℕ) (ts : List Test) → refusal (asked r main queue annex ts) ≡ 0
    → T (record_right r) × T (slices_right r (length main) (length queue) (length annex)) × (refusal ts ≡ 0)
unfolding asked
asked-zero r main queue annex ts e =
    let a = refusal-zero (record_right r) 1 _ e in
    let b = refusal-zero (slices_right r (length main) (length queue) (length annex)) 2 ts a.1 in
    (a.0, b.0, b.1)

pub zero-asked : (r : Filter) (main queue annex : List ℕ) (ts : List Test) → T (record_right r) → T (slices_right r (length main) (length queue) (length annex))
    → refusal (asked r main queue annex ts) ≡ refusal ts
unfolding asked
zero-asked r main queue annex ts a b = refusal-passed _ _ a ∙ refusal-passed _ ts b

-- a call's number is 0: it was done
pub given-done : (n : ℕ) (done other : Outcome) → other.number ≡ n → (give n done other).number ≡ 0 → (n ≡ 0) × (give n done other ≡ done)
unfolding give
given-done zero d o e z = (refl, refl)
given-done (suc n) d o e z = absurd (omega arith)

-- its number is not 0: it was refused
pub given-refused : (n : ℕ) (done other : Outcome) → done.number ≡ 0 → ((give n done other).number ≡ 0 → ⊥) → give n done other ≡ other
unfolding give
given-refused zero d o e ne = absurd (ne e)
given-refused (suc n) d o e ne = refl

-- a refused call changes nothing
pub record Unchanged (r : Filter) (main queue annex : List ℕ) (o : Outcome) : Type 0 where
  pub same_record : o.rec ≡ r
  pub same_main : o.main ≡ main
  pub same_queue : o.queue ≡ queue
  pub same_annex : o.annex ≡ annex

pub unchanged : (r : Filter) (main queue annex : List ℕ) (o : Outcome) (n : ℕ) → o ≡ refused r main queue annex n → Unchanged r main queue annex o
unfolding refused
unchanged r main queue annex o n e =
    record {
      same_record = ap (λ (o : Outcome). o.rec) e;
      same_main = ap (λ (o : Outcome). o.main) e;
      same_queue = ap (λ (o : Outcome). o.queue) e;
      same_annex = ap (λ (o : Outcome). o.annex) e;
    }
