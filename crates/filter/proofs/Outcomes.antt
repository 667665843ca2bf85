-- How a quick call's contract is met on each of its ways out: refused as the definition refuses, done, or at memory that is not sound.
use mathlib.Core.Path.{◌≡◌, refl, ap}
use mathlib.Core.Bool.{Bool, true, false}
use mathlib.Core.List.{List, [], ◌∷◌}
use Prim.Native.Nat.{ℕ, zero, suc}
use native.Mathlib.Omega.{arith}
use lib.Dec.{T}
use lib.ListN.{length}
use Rattle.rules.specs.Record.{Filter, change}
use Rattle.rules.specs.Refusals.{Test, refusal, record_right, slices_right}
use Rattle.rules.specs.Calls.{Outcome, give, refused, asked}
use Rattle.keeps.proofs.Refusals.{refusal-zero}
use Rattle.filter.specs.Promises.{first_number, Leaves, Quick}

-- an outcome leaves itself
pub leaves : (o : Outcome) → Leaves o o.number o.rec o.main o.queue o.annex
leaves o = record { number_is = refl; rec_is = refl; main_is = refl; queue_is = refl; annex_is = refl }

-- 2 and 3 come first
first-refused : (a b : Bool) (n : ℕ) (ts : List Test) → refusal (record { right = a; number = 2 } ∷ record { right = b; number = 3 } ∷ []) ≡ suc n
    → refusal (record { right = a; number = 2 } ∷ record { right = b; number = 3 } ∷ ts) ≡ suc n
unfolding refusal
first-refused true true n ts e = absurd (omega arith)
first-refused true false n ts e = e
first-refused false b n ts e = e

pub first-right : (r : Filter) (m q a : ℕ) → first_number r m q a ≡ 0 → T (record_right r) × T (slices_right r m q a)
unfolding first_number
first-right r m q a e =
    let x = refusal-zero (record_right r) 1 _ e in
    (x.0, (refusal-zero (slices_right r m q a) 2 [] x.1).0)

module _ (r : Filter) (main queue annex : List ℕ) where
  pub first-asked : (n : ℕ) (ts : List Test) → first_number r (length main) (length queue) (length annex) ≡ suc n
      → refusal (asked r main queue annex ts) ≡ suc n
  unfolding first_number asked
  first-asked n ts e = first-refused (record_right r) (slices_right r (length main) (length queue) (length annex)) n ts e

  pub given : (n m : ℕ) (done : Outcome) → n ≡ suc m → give n done (refused r main queue annex n) ≡ refused r main queue annex (suc m)
  unfolding give
  given zero m done e = absurd (omega arith)
  given (suc n) m done e = ap (refused r main queue annex) e

  -- what was handed in, with this number
  as-given : (n : ℕ) → Leaves (refused r main queue annex n) n r main queue annex
  unfolding refused
  as-given n = leaves (refused r main queue annex n)

  same-settings : r ≡ change r r.k r.used r.queued r.dir
  unfolding change
  same-settings = refl

  -- the definition's outcome is this refusal
  pub refusal-quick : (o : Outcome) (first : ℕ) (s : Bool) (n : ℕ) → o ≡ refused r main queue annex n → Quick o first s r main queue annex n r main queue annex
  refusal-quick o first s n e =
      record {
        decided = λ m d. rw e (as-given n);
        determined = λ t. rw e (as-given n);
        kept_annex = refl;
        kept_settings = same-settings;
        refused_record = λ ne. refl;
        refused_main = λ ne. refl;
        refused_queue = λ ne. refl;
      }

  -- memory is not sound: nothing is changed
  pub unsound-quick : (o : Outcome) (first : ℕ) (s : Bool) (n : ℕ) → first ≡ 0 → (T s → ⊥) → Quick o first s r main queue annex n r main queue annex
  unsound-quick o first s n z no-sound =
      record {
        decided = λ m d. absurd (omega arith);
        determined = λ t. absurd (no-sound t);
        kept_annex = refl;
        kept_settings = same-settings;
        refused_record = λ ne. refl;
        refused_main = λ ne. refl;
        refused_queue = λ ne. refl;
      }

  -- it is done
  pub done-quick : (o : Outcome) (first : ℕ) (s : Bool) (u n : ℕ) (main' queue' : List ℕ) → first ≡ 0
      → (T s → Leaves o 0 (change r r.k u n r.dir) main' queue' annex)
      → Quick o first s r main queue annex 0 (change r r.k u n r.dir) main' queue' annex
  unfolding change
  done-quick o first s u n main' queue' z l =
      record {
        decided = λ m d. absurd (omega arith);
        determined = l;
        kept_annex = refl;
        kept_settings = refl;
        refused_record = λ ne. absurd (ne refl);
        refused_main = λ ne. absurd (ne refl);
        refused_queue = λ ne. absurd (ne refl);
      }
