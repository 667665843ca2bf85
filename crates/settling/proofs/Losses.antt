-- Entries that go, one change of the runs after the other: what goes adds up.
use mathlib.Core.Path.{◌≡◌, refl, sym, ap, ◌∙◌}
use mathlib.Core.Bool.{Bool, true, false}
use mathlib.Core.List.{List, [], ◌∷◌}
use Prim.Native.Nat.{ℕ, zero, suc, ◌+◌, ◌<◌}
use native.Mathlib.Omega.{arith}
use native.Mathlib.Decide.{ℕ_discrete}
use lib.Dec.{T}
use lib.ListN.{length, get_or, set, length-set}
use Rattle.lists.specs.Lists.{every}
use Rattle.lists.specs.Runs.{Runs, rising, erase, has, count, at, total}
use Rattle.lists.proofs.Tests.{no_true}
use Rattle.lists.proofs.Alls.{All, every-all, all-every, every_get, all_set, all_map}
use Rattle.lists.proofs.RunLaws.{Rises, rising-rises, rises-rising, rises-erase, length-erase, erase-none, count-has, total-set}
use Rattle.layout.specs.Machine.{layout}
use Rattle.layout.proofs.Puts.{layout-length}
use Rattle.settling.specs.State.{Lost}

-- the table keeps its size and its order
pub record Keeps (f : Runs → Runs) : Type 0 where
  pub long : (runs : Runs) → length (f runs) ≡ length runs
  pub rises : (runs : Runs) → T (every rising runs) → T (every rising (f runs))

pub lost-none : (f : Runs → Runs) (a : List ℕ) → ((runs : Runs) → f runs ≡ runs) → Lost f a a 0
lost-none f a e = record { words = λ runs l m r. l ∙ ap layout (sym (e runs)); counted = λ runs l m r. omega (arith, ap total (e runs)) }

pub lost_as : (f g : Runs → Runs) (a b : List ℕ) (n : ℕ) → ((runs : Runs) → length runs ≡ length a → f runs ≡ g runs) → Lost f a b n → Lost g a b n
lost_as f g a b n e v =
    record {
      words = λ runs l m r. v.words runs l m r ∙ ap layout (e runs (size runs l));
      counted = λ runs l m r. ap (λ (x : Runs). n + total x) (sym (e runs (size runs l))) ∙ v.counted runs l m r;
    }
  where
    size : (runs : Runs) → a ≡ layout runs → length runs ≡ length a
    size runs l = sym (ap length l ∙ layout-length runs)

-- first f and then g
pub lost-then : (f g : Runs → Runs) (a b c : List ℕ) (m n : ℕ) → Keeps f → Lost f a b m → Lost g b c n → Lost (λ runs. g (f runs)) a c (m + n)
lost-then f g a b c m n k v w =
    record {
      words = λ runs l s r. w.words (f runs) (v.words runs l s r) (fits runs l s r) (k.rises runs r);
      counted = λ runs l s r. omega (arith, v.counted runs l s r, w.counted (f runs) (v.words runs l s r) (fits runs l s r) (k.rises runs r));
    }
  where
    fits : (runs : Runs) → a ≡ layout runs → total runs < length runs → T (every rising runs) → total (f runs) < length (f runs)
    fits runs l s r = omega (arith, v.counted runs l s r, k.long runs)

-- rising runs, as facts
pub all-rises : (runs : Runs) → T (every rising runs) → All Rises runs
all-rises runs t = all_map (λ x. T (rising x)) Rises rising-rises runs (every-all rising runs t)

pub rises-all : (runs : Runs) → All Rises runs → T (every rising runs)
rises-all runs a = all-every rising runs (all_map Rises (λ x. T (rising x)) rises-rising runs a)

any-rises : (runs : Runs) (c : ℕ) → All Rises runs → Rises (get_or runs c [])
unfolding Rises
any-rises [] c a = tt
any-rises (r ∷ rs) zero a = a.0
any-rises (r ∷ rs) (suc c) a = any-rises rs c a.1

-- one entry goes from the run of c
module _ (c x : ℕ) where
  pub erase-keeps : Keeps (at c (erase x))
  erase-keeps =
      record {
        long = λ runs. length-set runs c (erase x (get_or runs c []));
        rises = λ runs t. rises-all (at c (erase x) runs) (kept runs (all-rises runs t));
      }
    where
      kept : (runs : Runs) → All Rises runs → All Rises (at c (erase x) runs)
      kept runs a = all_set Rises runs c (erase x (get_or runs c [])) a (rises-erase x (get_or runs c []) (any-rises runs c a))

  -- as much as the answer says
  less : (run : List ℕ) (r : Bool) (n : ℕ) → r ≡ has x run → (r ≡ true → n ≡ 1) → (r ≡ false → n ≡ 0) → n + length (erase x run) ≡ length run
  less run true n e f g = omega (arith, length-erase x run (sym e), f refl)
  less run false n e f g = go (ℕ_discrete (count x run) 0)
    where
      go : Dec (count x run ≡ 0) → n + length (erase x run) ≡ length run
      go (yes z) = omega (arith, ap length (erase-none x run z), g refl)
      go (no z) = absurd (no_true (e ∙ count-has x run (omega arith)))

  pub lost-one : (a b : List ℕ) (r : Bool) (n : ℕ) → c < length a
      → ((runs : Runs) → a ≡ layout runs → total runs < length runs → T (rising (get_or runs c [])) → (r ≡ has x (get_or runs c [])) × (b ≡ layout (set runs c (erase x (get_or runs c [])))))
      → (r ≡ true → n ≡ 1) → (r ≡ false → n ≡ 0) → Lost (at c (erase x)) a b n
  lost-one a b r n h q f g =
      record {
        words = λ runs l s t. (q runs l s (every_get rising runs [] t c (inside runs l))).1;
        counted = λ runs l s t.
            omega (arith, total-set runs c (erase x (get_or runs c [])) (inside runs l), less (get_or runs c []) r n (q runs l s (every_get rising runs [] t c (inside runs l))).0 f g);
      }
    where
      inside : (runs : Runs) → a ≡ layout runs → c < length runs
      inside runs l = omega (arith, ap length l, layout-length runs)
