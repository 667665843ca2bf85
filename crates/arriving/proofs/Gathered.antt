-- What has arrived at one address: its payloads added to its run. The order of adding does not matter, and a rising run added to nothing is that run.
use mathlib.Core.Path.{◌≡◌, refl, sym, ap, ap₂, ◌∙◌, subst}
use mathlib.Core.Bool.{Bool, cond}
use mathlib.Core.List.{List, [], ◌∷◌, ◌++◌, map, append-nil}
use Prim.Native.Nat.{ℕ, zero, suc, ◌+◌, ◌≤◌, ◌<◌}
use native.Mathlib.Omega.{arith}
use native.Mathlib.Decide.{dec_le, ℕ_discrete}
use lib.Dec.{eqb}
use lib.ListN.{length, get_or, length-set}
use lib.Seq.{get_or-set_same, get_or-set_other}
use borrow.Author.Tests.{eq-eqb, ne_eqb}
use Rattle.lists.specs.Runs.{Runs, add, at}
use Rattle.lists.proofs.Alls.{All}
use Rattle.lists.proofs.RunLaws.{Rises, add-here, add-swap}
use Rattle.arriving.specs.Arrivals.{Arrival, arrival, arrive, of_run, of_runs}

-- the payloads of those that arrive at address a
unfoldable pub come_to : ℕ → List Arrival → List ℕ
come_to a [] = []
come_to a (x ∷ xs) = cond (eqb a x.address) (x.payload ∷ come_to a xs) (come_to a xs)

unfoldable pub add_all : List ℕ → List ℕ → List ℕ
add_all [] run = run
add_all (x ∷ xs) run = add x (add_all xs run)

-- ---- adding

swap : (x y : ℕ) (run : List ℕ) → add x (add y run) ≡ add y (add x run)
swap x y run = go (dec_le x y)
  where
    go : Dec (x ≤ y) → add x (add y run) ≡ add y (add x run)
    go (yes h) = add-swap x y run h
    go (no h) = sym (add-swap y x run (omega arith))

add-all : (x : ℕ) (xs run : List ℕ) → add_all xs (add x run) ≡ add x (add_all xs run)
unfolding add_all
add-all x [] run = refl
add-all x (y ∷ xs) run = ap (add y) (add-all x xs run) ∙ swap y x (add_all xs run)

add-least : (x : ℕ) (xs : List ℕ) → All (λ y. x ≤ y) xs → add x xs ≡ x ∷ xs
add-least x [] a = unfold add in refl
add-least x (y ∷ ys) a = add-here x y ys a.0

pub add-rising : (xs : List ℕ) → Rises xs → add_all xs [] ≡ xs
unfolding add_all Rises
add-rising [] r = refl
add-rising (x ∷ xs) r = ap (add x) (add-rising xs r.1) ∙ add-least x xs r.0

-- ---- one address

pub come-here : (a : ℕ) (x : Arrival) (xs : List Arrival) → a ≡ x.address → come_to a (x ∷ xs) ≡ x.payload ∷ come_to a xs
unfolding come_to
come-here a x xs e = ap (λ (b : Bool). cond b (x.payload ∷ come_to a xs) (come_to a xs)) (eq-eqb a x.address e)

pub come-else : (a : ℕ) (x : Arrival) (xs : List Arrival) → (a ≡ x.address → ⊥) → come_to a (x ∷ xs) ≡ come_to a xs
unfolding come_to
come-else a x xs n = ap (λ (b : Bool). cond b (x.payload ∷ come_to a xs) (come_to a xs)) (ne_eqb a x.address n)

pub arrive-at : (es : List Arrival) (rs : Runs) (a : ℕ) → a < length rs → get_or (arrive es rs) a [] ≡ add_all (come_to a es) (get_or rs a [])
unfolding arrive
arrive-at [] rs a h = unfold come_to add_all in refl
arrive-at (x ∷ es) rs a h =
    let c : ℕ = x.address in
    let new : List ℕ = add x.payload (get_or rs c []) in
    arrive-at es (at c (add x.payload) rs) a (omega (arith, length-set rs c new)) ∙ go (ℕ_discrete a c)
  where
    go : Dec (a ≡ x.address) → add_all (come_to a es) (get_or (at x.address (add x.payload) rs) a []) ≡ add_all (come_to a (x ∷ es)) (get_or rs a [])
    go (yes e) =
        let c : ℕ = x.address in
        let new : List ℕ = add x.payload (get_or rs c []) in
        let hc : c < length rs = omega arith in
        ap (add_all (come_to a es)) (ap (λ (i : ℕ). get_or (at c (add x.payload) rs) i []) e ∙ get_or-set_same rs c new [] hc)
        ∙ add-all x.payload (come_to a es) (get_or rs c [])
        ∙ ap (λ (i : ℕ). add x.payload (add_all (come_to a es) (get_or rs i []))) (sym e)
        ∙ one (come_to a es) (get_or rs a [])
        ∙ ap (λ (l : List ℕ). add_all l (get_or rs a [])) (sym (come-here a x es e))
      where
        one : (l run : List ℕ) → add x.payload (add_all l run) ≡ add_all (x.payload ∷ l) run
        one l run = unfold add_all in refl
    go (no n) =
        ap (add_all (come_to a es)) (get_or-set_other rs x.address a (add x.payload (get_or rs x.address [])) [] n)
        ∙ ap (λ (l : List ℕ). add_all l (get_or rs a [])) (sym (come-else a x es n))

-- ---- what comes to an address from the entries of a run, and of all runs

come-append : (a : ℕ) (l m : List Arrival) → come_to a (l ++ m) ≡ come_to a l ++ come_to a m
come-append a [] m = unfold come_to in refl
come-append a (x ∷ l) m = go (ℕ_discrete a x.address) (come-append a l m)
  where
    go : Dec (a ≡ x.address) → come_to a (l ++ m) ≡ come_to a l ++ come_to a m → come_to a (x ∷ (l ++ m)) ≡ come_to a (x ∷ l) ++ come_to a m
    go (yes e) ih = come-here a x (l ++ m) e ∙ ap (λ (y : List ℕ). x.payload ∷ y) ih ∙ ap (λ (y : List ℕ). y ++ come_to a m) (sym (come-here a x l e))
    go (no n) ih = come-else a x (l ++ m) n ∙ ih ∙ ap (λ (y : List ℕ). y ++ come_to a m) (sym (come-else a x l n))

pub come-same : (a c : ℕ) (xs : List ℕ) → a ≡ c → come_to a (map (arrival c) xs) ≡ xs
come-same a c [] e = unfold come_to in refl
come-same a c (x ∷ xs) e = come-here a (arrival c x) (map (arrival c) xs) e ∙ ap (λ (l : List ℕ). x ∷ l) (come-same a c xs e)

pub come-other : (a c : ℕ) (xs : List ℕ) → (a ≡ c → ⊥) → come_to a (map (arrival c) xs) ≡ []
come-other a c [] n = unfold come_to in refl
come-other a c (x ∷ xs) n = come-else a (arrival c x) (map (arrival c) xs) n ∙ come-other a c xs n

pub come-pair : (a : ℕ) (l m : List Arrival) (x y : List ℕ) → come_to a l ≡ x → come_to a m ≡ y → come_to a (l ++ m) ≡ x ++ y
come-pair a l m x y e f = come-append a l m ∙ ap₂ (λ (i j : List ℕ). i ++ j) e f

module _ (a : ℕ) (f : ℕ → ℕ → List Arrival) where
  run-to : (c : ℕ) (g : ℕ → List ℕ) → ((p : ℕ) → come_to a (f c p) ≡ g p) → (run : List ℕ) → come_to a (of_run (f c) run) ≡ of_run g run
  unfolding of_run
  run-to c g h [] = unfold come_to in refl
  run-to c g h (p ∷ run) = come-pair a (f c p) (of_run (f c) run) (g p) (of_run g run) (h p) (run-to c g h run)

  abbrev None : ℕ → Type 0
  None c = (p : ℕ) → come_to a (f c p) ≡ []

  run_none : (c : ℕ) → None c → (run : List ℕ) → come_to a (of_run (f c) run) ≡ []
  unfolding of_run
  run_none c h [] = unfold come_to in refl
  run_none c h (p ∷ run) = come-pair a (f c p) (of_run (f c) run) [] [] (h p) (run_none c h run)

  runs_none : (i : ℕ) (rs : Runs) → ((d : ℕ) → i ≤ d → d < i + length rs → None d) → come_to a (of_runs f i rs) ≡ []
  unfolding of_runs
  runs_none i [] h = unfold come_to in refl
  runs_none i (r ∷ rs) h =
      come-pair a (of_run (f i) r) (of_runs f (suc i) rs) [] [] (run_none i (h i (omega arith) (omega arith)) r) (runs_none (suc i) rs (λ d l m. h d (omega arith) (omega arith)))

  -- one run alone gives to this address
  pub runs_to : (g : ℕ → List ℕ) (i : ℕ) (rs : Runs) (c : ℕ) → c < length rs → ((p : ℕ) → come_to a (f (i + c) p) ≡ g p)
      → ((d : ℕ) → d < i + length rs → (d ≡ i + c → ⊥) → None d) → come_to a (of_runs f i rs) ≡ of_run g (get_or rs c [])
  unfolding of_runs
  runs_to g i [] c h one rest = absurd (omega arith)
  runs_to g i (r ∷ rs) zero h one rest =
      let e : i + 0 ≡ i = omega arith in
      come-pair a (of_run (f i) r) (of_runs f (suc i) rs) (of_run g r) [] (run-to i g (subst (λ (j : ℕ). (p : ℕ) → come_to a (f j p) ≡ g p) e one) r)
      (runs_none (suc i) rs (λ d l m. rest d (omega arith) (λ q. omega arith)))
      ∙ append-nil (of_run g r)
  runs_to g i (r ∷ rs) (suc c) h one rest =
      let e : i + suc c ≡ suc i + c = omega arith in
      come-pair a (of_run (f i) r) (of_runs f (suc i) rs) [] (of_run g (get_or rs c [])) (run_none i (rest i (omega arith) (λ q. omega arith)) r)
      (runs_to g (suc i) rs c (omega arith) (subst (λ (j : ℕ). (p : ℕ) → come_to a (f j p) ≡ g p) e one) (λ d l n. rest d (omega arith) (λ q. n (omega arith))))
