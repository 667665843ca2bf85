-- The second main: when the halves of all entries have arrived in an empty table, its runs are the doubled ones. An address gets entries from one run only, in
-- rising order.
use mathlib.Core.Path.{◌≡◌, refl, sym, ap, ap₂, ◌∙◌, subst}
use mathlib.Core.List.{List, [], ◌∷◌, ◌++◌, map, append-nil}
use Prim.Native.Nat.{ℕ, suc, ◌+◌, ◌-◌, ◌^◌, ◌≤◌, ◌<◌}
use native.Mathlib.Omega.{arith}
use native.Mathlib.Nat.{zero-add}
use native.Mathlib.Decide.{dec_lt}
use lib.ListN.{length, get_or, replicate, length-append, length-map, length-replicate, get_or-replicate, get_or-append}
use lib.Seq.{ext_get_or, get_or-append-add}
use Rattle.lists.specs.Runs.{Runs, total}
use Rattle.lists.proofs.Alls.{All, all-get}
use Rattle.lists.proofs.RunLaws.{Rises}
use Rattle.layout.proofs.Laws.{total-append}
use Rattle.rules.specs.Doubling.{half, half_run, doubled}
use Rattle.keeps.proofs.Halves.{get_or-half, half-rises}
use Rattle.arriving.specs.Arrivals.{Arrival, arrival, arrive, of_run, of_runs, halves}
use Rattle.arriving.proofs.Arrivals.{arrive-length}
use Rattle.arriving.proofs.Gathered.{come_to, add_all, add-rising, arrive-at, come-same, come-other, come-pair, runs_to}

half-run : (w v t : ℕ) (run : List ℕ) → of_run (half w v t) run ≡ half_run w v t run
unfolding of_run half_run
half-run w v t [] = refl
half-run w v t (p ∷ run) = ap (λ (l : List ℕ). half w v t p ++ l) (half-run w v t run)

-- ---- how many there are

length-halves : (w v n c p : ℕ) → length (halves w v n c p) ≡ length (half w v 0 p) + length (half w v 1 p)
unfolding halves
length-halves w v n c p =
    length-append (map (arrival c) (half w v 0 p)) (map (arrival (c + n)) (half w v 1 p)) ∙ ap₂ ◌+◌ (length-map (half w v 0 p) (arrival c)) (length-map (half w v 1 p) (arrival (c + n)))

run-halves : (w v n c : ℕ) (run : List ℕ) → length (of_run (halves w v n c) run) ≡ length (half_run w v 0 run) + length (half_run w v 1 run)
unfolding of_run half_run
run-halves w v n c [] = refl
run-halves w v n c (p ∷ run) =
    omega (
      arith,
      length-append (halves w v n c p) (of_run (halves w v n c) run),
      length-halves w v n c p,
      run-halves w v n c run,
      length-append (half w v 0 p) (half_run w v 0 run),
      length-append (half w v 1 p) (half_run w v 1 run),
    )

runs-halves : (w v n c : ℕ) (rs : Runs) → length (of_runs (halves w v n) c rs) ≡ total (map (half_run w v 0) rs) + total (map (half_run w v 1) rs)
unfolding of_runs total
runs-halves w v n c [] = refl
runs-halves w v n c (r ∷ rs) =
    omega (arith, length-append (of_run (halves w v n c) r) (of_runs (halves w v n) (suc c) rs), run-halves w v n c r, runs-halves w v n (suc c) rs)

pub filled-total : (w v n : ℕ) (rs : Runs) → length (of_runs (halves w v n) 0 rs) ≡ total (doubled w v rs)
unfolding doubled
filled-total w v n rs = runs-halves w v n 0 rs ∙ sym (total-append (map (half_run w v 0) rs) (map (half_run w v 1) rs))

-- ---- and what they make

module _ (w v n : ℕ) where
  low-own : (c p : ℕ) → c < n → come_to c (halves w v n c p) ≡ half w v 0 p
  unfolding halves
  low-own c p h =
      come-pair c (map (arrival c) (half w v 0 p)) (map (arrival (c + n)) (half w v 1 p)) (half w v 0 p) [] (come-same c c (half w v 0 p) refl)
      (come-other c (c + n) (half w v 1 p) (λ e. omega arith))
      ∙ append-nil (half w v 0 p)

  high-own : (c p : ℕ) → c < n → come_to (n + c) (halves w v n c p) ≡ half w v 1 p
  unfolding halves
  high-own c p h =
      come-pair (n + c) (map (arrival c) (half w v 0 p)) (map (arrival (c + n)) (half w v 1 p)) [] (half w v 1 p)
      (come-other (n + c) c (half w v 0 p) (λ e. omega arith)) (come-same (n + c) (c + n) (half w v 1 p) (omega arith))

  none-own : (a c p : ℕ) → (a ≡ c → ⊥) → (a ≡ c + n → ⊥) → come_to a (halves w v n c p) ≡ []
  unfolding halves
  none-own a c p l h =
      come-pair a (map (arrival c) (half w v 0 p)) (map (arrival (c + n)) (half w v 1 p)) [] [] (come-other a c (half w v 0 p) l) (come-other a (c + n) (half w v 1 p) h)

module _ (w v : ℕ) (wpos : 0 < w) (wv : w ≤ v) (rs : Runs) (small : All (All (λ p. p < 2 ^ w)) rs) (rises : All Rises rs) where
  abbrev n : ℕ
  n = length rs

  abbrev all : List Arrival
  all = of_runs (halves w v n) 0 rs

  abbrev none : Runs
  none = replicate (n + n) []

  -- a run that arrives in an empty one
  whole : (t c a : ℕ) → c < n → a < n + n → come_to a all ≡ of_run (half w v t) (get_or rs c []) → get_or (arrive all none) a [] ≡ half_run w v t (get_or rs c [])
  whole t c a h l e =
      let run : List ℕ = get_or rs c [] in
      arrive-at all none a (omega (arith, length-replicate {A = List ℕ} (n + n) []))
      ∙ ap₂ add_all (e ∙ half-run w v t run) (get_or-replicate (n + n) a [] [] l)
      ∙ add-rising (half_run w v t run) (half-rises w v wpos wv t run (all-get (All (λ p. p < 2 ^ w)) rs [] small c h) (all-get Rises rs [] rises c h))

  low : (c : ℕ) → c < n → get_or (arrive all none) c [] ≡ half_run w v 0 (get_or rs c [])
  low c h =
      whole 0 c c h (omega arith)
      (runs_to c (halves w v n) (half w v 0) 0 rs c h
      (subst (λ (d : ℕ). (p : ℕ) → come_to c (halves w v n d p) ≡ half w v 0 p) (sym (zero-add c)) (λ p. low-own w v n c p h))
      (λ d l ne p. none-own w v n c d p (λ e. ne (omega arith)) (λ e. omega arith)))

  high : (c : ℕ) → c < n → get_or (arrive all none) (n + c) [] ≡ half_run w v 1 (get_or rs c [])
  high c h =
      whole 1 c (n + c) h (omega arith)
      (runs_to (n + c) (halves w v n) (half w v 1) 0 rs c h
      (subst (λ (d : ℕ). (p : ℕ) → come_to (n + c) (halves w v n d p) ≡ half w v 1 p) (sym (zero-add c)) (λ p. high-own w v n c p h))
      (λ d l ne p. none-own w v n (n + c) d p (λ e. omega arith) (λ e. ne (omega arith))))

  pub filled : arrive all none ≡ doubled w v rs
  unfolding doubled
  filled = ext_get_or [] (arrive all none) (L ++ H) size each
    where
      L : Runs
      L = map (half_run w v 0) rs

      H : Runs
      H = map (half_run w v 1) rs

      len : length (arrive all none) ≡ n + n
      len = arrive-length all none ∙ length-replicate {A = List ℕ} (n + n) []

      size : length (arrive all none) ≡ length (L ++ H)
      size = len ∙ sym (length-append L H ∙ ap₂ ◌+◌ (length-map rs (half_run w v 0)) (length-map rs (half_run w v 1)))

      each : (i : ℕ) → i < length (arrive all none) → get_or (arrive all none) i [] ≡ get_or (L ++ H) i []
      each i h = go (dec_lt i n)
        where
          go : Dec (i < n) → get_or (arrive all none) i [] ≡ get_or (L ++ H) i []
          go (yes l) =
              low i l ∙ sym (get_or-append L H [] i (omega (arith, length-map rs (half_run w v 0))) ∙ get_or-half w v 0 rs i)
          go (no l) =
              let c : ℕ = i - n in
              let e : i ≡ n + c = omega arith in
              let f : i ≡ length L + c = omega (arith, length-map rs (half_run w v 0)) in
              ap (λ (j : ℕ). get_or (arrive all none) j []) e ∙ high c (omega (arith, len))
              ∙ sym (ap (λ (j : ℕ). get_or (L ++ H) j []) f ∙ get_or-append-add L H c [] ∙ get_or-half w v 1 rs c)
