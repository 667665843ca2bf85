-- All runs of main: the steps of the loops over the addresses, and what has been written when they end.
use mathlib.Core.Path.{◌≡◌, refl, sym, ap, ◌∙◌, subst}
use mathlib.Core.List.{List, [], ◌++◌}
use Prim.Native.Nat.{ℕ, ◌+◌, ◌^◌, ◌≤◌, ◌<◌}
use native.Mathlib.Omega.{arith}
use lib.Dec.{T}
use lib.ListN.{length, take, replicate, length-append, length-replicate}
use lib.Seq.{take_all}
use Rattle.lists.specs.Lists.{every}
use Rattle.lists.specs.Runs.{Runs, rising, total}
use Rattle.lists.proofs.Alls.{All, get-all, all_map, every-all}
use Rattle.lists.proofs.RunLaws.{Rises, rising-rises, total-none}
use Rattle.layout.specs.Machine.{layout}
use Rattle.layout.specs.Decode.{decode, run_at}
use Rattle.layout.proofs.Keeps.{layout-none}
use Rattle.rules.specs.Doubling.{doubled}
use Rattle.keeps.proofs.Holds.{length-decode}
use Rattle.arriving.specs.Arrivals.{Arrival, arrive, Arrived, Narrow, of_run, of_runs, halves}
use Rattle.arriving.proofs.Arrivals.{arrived-none, arrived-both, runs-more, runs-part, decode-get}
use Rattle.arriving.proofs.Filled.{filled-total, filled}

-- ---- one address more

main-more : {A : Type 0} (f : ℕ → ℕ → List A) (main : List ℕ) (c : ℕ) → c < length main
    → of_runs f 0 (take (c + 1) (decode main)) ≡ of_runs f 0 (take c (decode main)) ++ of_run (f c) (run_at main c)
main-more f main c h =
    runs-more f (decode main) c (omega (arith, length-decode main)) ∙ ap (λ (r : List ℕ). of_runs f 0 (take c (decode main)) ++ of_run (f c) r) (decode-get main c h)

pub main-end : {A : Type 0} (f : ℕ → ℕ → List A) (main : List ℕ) (c : ℕ) → length main ≤ c → of_runs f 0 (take c (decode main)) ≡ of_runs f 0 (decode main)
main-end f main c h = ap (of_runs f 0) (take_all c (decode main) (omega (arith, length-decode main)))

pub main-start : {A : Type 0} (f : ℕ → ℕ → List A) (main : List ℕ) → 0 ≡ length (of_runs f 0 (take 0 (decode main)))
unfolding of_runs
main-start f main = refl

pub main-count : {A : Type 0} (f : ℕ → ℕ → List A) (main : List ℕ) (c m x : ℕ) → c < length main → m ≡ length (of_runs f 0 (take c (decode main)))
    → x ≡ length (of_run (f c) (run_at main c)) → m + x ≡ length (of_runs f 0 (take (c + 1) (decode main)))
main-count f main c m x h em ex = omega (arith, ap length (main-more f main c h), length-append (of_runs f 0 (take c (decode main))) (of_run (f c) (run_at main c)))

-- a part of all
pub main-part : {A : Type 0} (f : ℕ → ℕ → List A) (main : List ℕ) (c m x : ℕ) → c < length main → m ≡ length (of_runs f 0 (take c (decode main)))
    → x ≡ length (of_run (f c) (run_at main c)) → m + x ≤ length (of_runs f 0 (decode main))
main-part f main c m x h em ex = omega (arith, main-count f main c m x h em ex, runs-part f (decode main) (c + 1))

pub main-none : (f : ℕ → ℕ → List Arrival) (main ws : List ℕ) (m n : ℕ) → ws ≡ replicate m 0 → m ≡ n → Arrived (replicate n 0) ws (of_runs f 0 (take 0 (decode main)))
unfolding of_runs
main-none f main ws m n e f' = subst (λ (l : List ℕ). Arrived l ws []) (e ∙ ap (λ (j : ℕ). replicate j 0) f') (arrived-none ws)

pub main-arrive : (f : ℕ → ℕ → List Arrival) (main : List ℕ) (c : ℕ) (x y z : List ℕ) → c < length main → Arrived x y (of_runs f 0 (take c (decode main)))
    → Arrived y z (of_run (f c) (run_at main c)) → Arrived x z (of_runs f 0 (take (c + 1) (decode main)))
main-arrive f main c x y z h p q = rw (main-more f main c h) (arrived-both x y z (of_runs f 0 (take c (decode main))) (of_run (f c) (run_at main c)) p q)

-- ---- what has arrived in an empty table

pub in-empty : (n : ℕ) (ws : List ℕ) (es : List Arrival) → length es < n → Arrived (replicate n 0) ws es → ws ≡ layout (arrive es (replicate n []))
unfolding Arrived
in-empty n ws es h f =
    f (replicate n []) (sym (layout-none n)) (omega (arith, total-none n, length-replicate {A = List ℕ} n []))

pub narrow-all : (w : ℕ) (main : List ℕ) → Narrow w main → All (All (λ p. p < 2 ^ w)) (decode main)
narrow-all w main h =
    get-all (All (λ p. p < 2 ^ w)) (decode main) []
    (λ c l.
    let hc : c < length main = omega (arith, length-decode main) in
    subst (All (λ p. p < 2 ^ w)) (sym (decode-get main c hc)) (get-all (λ p. p < 2 ^ w) (run_at main c) 0 (λ t _. h c t hc)))

pub second-done : (main second : List ℕ) (w v n : ℕ) → length main ≡ n → Narrow w main → 1 ≤ w → w ≤ v → T (every rising (decode main)) → total (doubled w v (decode main)) < n + n
    → Arrived (replicate (n + n) 0) second (of_runs (halves w v n) 0 (decode main)) → second ≡ layout (doubled w v (decode main))
second-done main second w v n en na w1 wv ri few ar =
    let rs : Runs = decode main in
    let e : length rs ≡ n = length-decode main ∙ en in
    in-empty (n + n) second (of_runs (halves w v n) 0 rs) (omega (arith, filled-total w v n rs)) ar
    ∙ ap layout (subst (λ (j : ℕ). arrive (of_runs (halves w v j) 0 rs) (replicate (j + j) []) ≡ doubled w v rs) e
    (filled w v (omega arith) wv rs (narrow-all w main na) (all_map (λ x. T (rising x)) Rises rising-rises rs (every-all rising rs ri))))

pub used-done : (main : List ℕ) (w v n c used : ℕ) → length main ≤ c → used ≡ length (of_runs (halves w v n) 0 (take c (decode main))) → used ≡ total (doubled w v (decode main))
used-done main w v n c used h e = e ∙ ap length (main-end (halves w v n) main c h) ∙ filled-total w v n (decode main)
