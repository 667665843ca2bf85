-- The first payload for which a test holds is the first of its hits, by induction on the run.
use mathlib.Core.Path.{◌≡◌, refl, sym}
use mathlib.Core.Bool.{Bool, true, false, cond}
use mathlib.Core.List.{List, [], ◌∷◌}
use Prim.Native.Nat.{ℕ, suc}
use native.Mathlib.Omega.{arith}
use lib.Dec.{ltb}
use borrow.Author.Tests.{lt-ltb}
use lib.ListN.{length, get_or}
use Rattle.std.specs.Prelude.{Option, Some, is_some, slice_get}
use Rattle.lists.specs.Runs.{hits}
use Rattle.layout.specs.Reading.{index}
use Rattle.lookup.specs.Spots.{First}

first-hit : (f : ℕ → Bool) (run : List ℕ) → slice_get run (index f run) ≡ slice_get (hits f run) 0
unfolding index hits
first-hit f [] = refl
first-hit f (y ∷ ys) = go (f y) (first-hit f ys)
  where
    go : (b : Bool) → slice_get ys (index f ys) ≡ slice_get (hits f ys) 0
        → slice_get (y ∷ ys) (cond b 0 (suc (index f ys))) ≡ slice_get (cond b (y ∷ hits f ys) (hits f ys)) 0
    go true ih = refl
    go false ih = ih

pub any-hit : (f : ℕ → Bool) (run : List ℕ) (o : Option ℕ) → First f run o → is_some o ≡ ltb 0 (length (hits f run))
any-hit f run o m = rw (m, first-hit f run) (some (hits f run))
  where
    some : (hs : List ℕ) → is_some (slice_get hs 0) ≡ ltb 0 (length hs)
    some [] = refl
    some (h ∷ hs) = sym (lt-ltb 0 (suc (length hs)) (omega arith))

pub hit-is : (f : ℕ → Bool) (run : List ℕ) (o : Option ℕ) (p d : ℕ) → First f run o → o ≡ Some p → p ≡ get_or (hits f run) 0 d
hit-is f run o p d m e = first (hits f run) (let h = first-hit f run in cc)
  where
    first : (hs : List ℕ) → slice_get hs 0 ≡ Some p → p ≡ get_or hs 0 d
    first [] e = absurd cc
    first (h ∷ hs) e = cc
