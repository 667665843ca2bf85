-- Changes of one run, put together: an exchange at one address, and the table with nothing in it.
use mathlib.Core.Path.{◌≡◌, refl, ap, ◌∙◌}
use mathlib.Core.Bool.{true}
use mathlib.Core.List.{List, [], ◌∷◌}
use Prim.Native.Nat.{ℕ, zero, suc, ◌<◌}
use native.Mathlib.Omega.{arith}
use lib.ListN.{length, get_or, set, replicate, length-set}
use lib.Seq.{get_or-set_same, set-set}
use Rattle.lists.specs.Runs.{Runs, add, erase, has, total}
use Rattle.lists.proofs.RunLaws.{total-set, length-erase}
use Rattle.layout.specs.Machine.{emit, rest, scan, left, pend, layout}

-- x goes, then y comes, at the same address
pub exchange-fits : (runs : Runs) (c x : ℕ) → c < length runs → total runs < length runs → has x (get_or runs c []) ≡ true
    → suc (total (set runs c (erase x (get_or runs c [])))) < length (set runs c (erase x (get_or runs c [])))
exchange-fits runs c x hc h e =
    let r = get_or runs c [] in
    omega (arith, total-set runs c (erase x r) hc, length-erase x r e, length-set runs c (erase x r))

pub exchanged : (runs : Runs) (c y : ℕ) (q : List ℕ) → c < length runs → layout (set (set runs c q) c (add y (get_or (set runs c q) c []))) ≡ layout (set runs c (add y q))
exchanged runs c y q hc =
    ap layout (ap (λ (r : List ℕ). set (set runs c q) c (add y r)) (get_or-set_same runs c q [] hc) ∙ set-set runs c q (add y q))

left-none : (n : ℕ) → left (replicate n []) [] ≡ []
unfolding left rest
left-none zero = refl
left-none (suc n) = left-none n

scan-none : (n : ℕ) → scan (replicate n []) [] ≡ replicate n 0
unfolding scan rest emit
scan-none zero = refl
scan-none (suc n) = ap (λ (l : List ℕ). 0 ∷ l) (scan-none n)

pub layout-none : (n : ℕ) → layout (replicate n []) ≡ replicate n 0
unfolding layout pend
layout-none n = ap (scan (replicate n [])) (left-none n) ∙ scan-none n
