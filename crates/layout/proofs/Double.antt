-- How a circle doubles: each run c gives one at c and one at c + N. Where nothing waits in the old circle, nothing waits at either place of the new one.
use mathlib.Core.Path.{◌≡◌, ap, ◌∙◌}
use mathlib.Core.List.{List, [], ◌∷◌, ◌++◌, map}
use Prim.Native.Nat.{ℕ, ◌≤◌}
use native.Mathlib.Omega.{arith}
use lib.ListN.{length}
use Rattle.layout.specs.Machine.{Entry, rest, scan, left, pend, layout}
use Rattle.layout.proofs.Laws.{rest-length, left-append, scan-append, empty}

-- runs with fewer entries leave fewer waiting
pub fewer : (f : List ℕ → List ℕ) → ((r : List ℕ) → length (f r) ≤ length r) → (rs : List (List ℕ)) (q' q : List Entry) → length q' ≤ length q
    → length (left (map f rs) q') ≤ length (left rs q)
unfolding left
fewer f h [] q' q l = l
fewer f h (r ∷ rs) q' q l = fewer f h rs (rest q' (f r)) (rest q r) (omega (arith, h r, rest-length q' (f r), rest-length q r))

module _ (lo hi : List ℕ → List ℕ) (hlo : (r : List ℕ) → length (lo r) ≤ length r) (hhi : (r : List ℕ) → length (hi r) ≤ length r) where
  lane : (a b : List (List ℕ)) → left (b ++ a) [] ≡ [] → left (map lo b ++ map hi a) [] ≡ []
  lane a b e =
      empty (left (map lo b ++ map hi a) [])
      (omega (
        arith,
        ap length (left-append (map lo b) (map hi a) []),
        ap length (left-append b a []),
        ap length e,
        fewer hi hhi a (left (map lo b) []) (left b []) (fewer lo hlo b [] [] (omega arith)),
      ))

-- the new circle begun at z, where nothing waits in the old one, is two lanes, each from nothing to nothing
module _ (lo hi : List ℕ → List ℕ) (hlo : (r : List ℕ) → length (lo r) ≤ length r) (hhi : (r : List ℕ) → length (hi r) ≤ length r) where
  pub lanes : (a b : List (List ℕ)) → left (b ++ a) [] ≡ []
      → layout ((map lo b ++ map hi a) ++ (map hi b ++ map lo a)) ≡ scan (map lo b ++ map hi a) [] ++ scan (map hi b ++ map lo a) []
  unfolding layout pend
  lanes a b e =
      let x = map lo b ++ map hi a in
      let y = map hi b ++ map lo a in
      let ex : left x [] ≡ [] = lane lo hi hlo hhi a b e in
      let ey : left y [] ≡ [] = lane hi lo hhi hlo a b e in
      let z : left (x ++ y) [] ≡ [] = left-append x y [] ∙ ap (left y) ex ∙ ey in
      ap (scan (x ++ y)) z ∙ scan-append x y [] ∙ ap (λ (q : List Entry). scan x [] ++ scan y q) ex
