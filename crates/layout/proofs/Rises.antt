-- A rising run as facts: none is below the one before it. (`Rises` of crate lists says it of all before it.)
use mathlib.Core.List.{List, [], ◌∷◌}
use Prim.Native.Nat.{ℕ, ◌≤◌}
use lib.Dec.{T, leb, leb→le}
use Rattle.lists.specs.Runs.{rising, rises_from}
use Rattle.lists.proofs.Tests.{and_left, and_right}

unfoldable pub Above : ℕ → List ℕ → Type 0
Above x [] = Unit {0}
Above x (y ∷ ys) = x ≤ y

unfoldable pub Rising : List ℕ → Type 0
Rising [] = Unit {0}
Rising (x ∷ xs) = Above x xs × Rising xs

from-test : (x : ℕ) (xs : List ℕ) → T (rises_from x xs) → Above x xs × Rising xs
unfolding rises_from Above Rising
from-test x [] t = (tt, tt)
from-test x (y ∷ ys) t =
    (leb→le x y (and_left (leb x y) (rises_from y ys) t), from-test y ys (and_right (leb x y) (rises_from y ys) t))

pub rising-facts : (r : List ℕ) → T (rising r) → Rising r
unfolding rising Rising
rising-facts [] t = tt
rising-facts (x ∷ xs) t = from-test x xs t
