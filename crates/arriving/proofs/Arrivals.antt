-- Entries that arrive in a table one by one: what arrives in two parts arrives, since each arrival makes the table's runs longer by at most one entry.
use mathlib.Core.Path.{◌≡◌, refl, sym, ap, ◌∙◌}
use mathlib.Core.List.{List, [], ◌∷◌, ◌++◌, append_assoc, append-nil}
use Prim.Native.Nat.{ℕ, zero, suc, ◌+◌, ◌≤◌, ◌<◌}
use native.Mathlib.Omega.{arith}
use native.Mathlib.Numerals.{add-one}
use native.Mathlib.Nat.{zero-add}
use native.Mathlib.Decide.{dec_lt}
use lib.ListN.{length, get_or, take, drop, length-set, length-append, take-append-drop}
use lib.Seq.{take-suc, length-take-le, set_out}
use Rattle.lists.specs.Runs.{Runs, add, at, total}
use Rattle.lists.proofs.RunLaws.{length-add, total-set}
use Rattle.layout.specs.Machine.{layout}
use Rattle.layout.specs.Decode.{decode, run_at, runs_from}
use Rattle.arriving.specs.Arrivals.{Arrival, arrival, arrive, Arrived, of_run, of_runs}

pub arrive-append : (es bs : List Arrival) (rs : Runs) → arrive (es ++ bs) rs ≡ arrive bs (arrive es rs)
unfolding arrive
arrive-append [] bs rs = refl
arrive-append (a ∷ es) bs rs = arrive-append es bs (at a.address (add a.payload) rs)

pub arrive-length : (es : List Arrival) (rs : Runs) → length (arrive es rs) ≡ length rs
unfolding arrive
arrive-length [] rs = refl
arrive-length (a ∷ es) rs =
    arrive-length es (at a.address (add a.payload) rs) ∙ length-set rs a.address (add a.payload (get_or rs a.address []))

-- an address past the end takes nothing
one_more : (c x : ℕ) (rs : Runs) → total (at c (add x) rs) ≤ suc (total rs)
one_more c x rs = go (dec_lt c (length rs))
  where
    go : Dec (c < length rs) → total (at c (add x) rs) ≤ suc (total rs)
    go (yes h) = omega (arith, total-set rs c (add x (get_or rs c [])) h, length-add x (get_or rs c []))
    go (no h) = omega (arith, ap total (set_out rs c (add x (get_or rs c [])) (omega arith)))

pub arrive-total : (es : List Arrival) (rs : Runs) → total (arrive es rs) ≤ total rs + length es
unfolding arrive
arrive-total [] rs = omega arith
arrive-total (a ∷ es) rs = omega (arith, arrive-total es (at a.address (add a.payload) rs), one_more a.address a.payload rs)

pub arrived-none : (ws : List ℕ) → Arrived ws ws []
unfolding Arrived arrive
arrived-none ws rs e h = e

pub arrived-one : (ws ws' : List ℕ) (c x : ℕ) → ((rs : Runs) → ws ≡ layout rs → suc (total rs) < length rs → ws' ≡ layout (at c (add x) rs))
    → Arrived ws ws' (arrival c x ∷ [])
unfolding Arrived arrive
arrived-one ws ws' c x f rs e h = f rs e (omega arith)

pub arrived-both : (a b c : List ℕ) (es bs : List Arrival) → Arrived a b es → Arrived b c bs → Arrived a c (es ++ bs)
unfolding Arrived
arrived-both a b c es bs f g rs e h =
    let l = length-append es bs in
    g (arrive es rs) (f rs e (omega arith)) (omega (arith, arrive-total es rs, arrive-length es rs)) ∙ ap layout (sym (arrive-append es bs rs))

-- ---- what the entries of runs give

module _ {A : Type 0} where
  pub run-append : (f : ℕ → List A) (l m : List ℕ) → of_run f (l ++ m) ≡ of_run f l ++ of_run f m
  unfolding of_run
  run-append f [] m = refl
  run-append f (p ∷ l) m = ap (λ (x : List A). f p ++ x) (run-append f l m) ∙ sym (append_assoc (f p) (of_run f l) (of_run f m))

  pub runs_append : (f : ℕ → ℕ → List A) (c : ℕ) (l m : Runs) → of_runs f c (l ++ m) ≡ of_runs f c l ++ of_runs f (c + length l) m
  unfolding of_runs
  runs_append f c [] m = let e : c ≡ c + 0 = omega arith in ap (λ (i : ℕ). of_runs f i m) e
  runs_append f c (r ∷ l) m =
      let e : suc c + length l ≡ c + suc (length l) = omega arith in
      ap (λ (x : List A). of_run (f c) r ++ x) (runs_append f (suc c) l m ∙ ap (λ (i : ℕ). of_runs f (suc c) l ++ of_runs f i m) e)
      ∙ sym (append_assoc (of_run (f c) r) (of_runs f (suc c) l) (of_runs f (c + suc (length l)) m))

  pub runs-more : (f : ℕ → ℕ → List A) (runs : Runs) (c : ℕ) → c < length runs
      → of_runs f 0 (take (c + 1) runs) ≡ of_runs f 0 (take c runs) ++ of_run (f c) (get_or runs c [])
  unfolding of_runs
  runs-more f runs c h =
      ap (λ (i : ℕ). of_runs f 0 (take i runs)) (add-one c) ∙ ap (of_runs f 0) (take-suc runs c [] h) ∙ runs_append f 0 (take c runs) (get_or runs c [] ∷ [])
      ∙ ap (λ (i : ℕ). of_runs f 0 (take c runs) ++ of_runs f i (get_or runs c [] ∷ [])) (zero-add (length (take c runs)) ∙ length-take-le c runs (omega arith))
      ∙ ap (λ (x : List A). of_runs f 0 (take c runs) ++ x) (append-nil (of_run (f c) (get_or runs c [])))

  -- a part gives no more than the whole
  pub runs-part : (f : ℕ → ℕ → List A) (runs : Runs) (c : ℕ) → length (of_runs f 0 (take c runs)) ≤ length (of_runs f 0 runs)
  runs-part f runs c =
      omega (
        arith,
        ap (λ (l : Runs). length (of_runs f 0 l)) (take-append-drop c runs),
        ap length (runs_append f 0 (take c runs) (drop c runs)),
        length-append (of_runs f 0 (take c runs)) (of_runs f (0 + length (take c runs)) (drop c runs)),
      )

-- ---- the runs that are read

from-get : (ws : List ℕ) (i n c : ℕ) → c < n → get_or (runs_from ws i n) c [] ≡ run_at ws (i + c)
unfolding runs_from
from-get ws i zero c h = absurd (omega arith)
from-get ws i (suc n) zero h = let e : i ≡ i + 0 = omega arith in ap (run_at ws) e
from-get ws i (suc n) (suc c) h = let e : suc i + c ≡ i + suc c = omega arith in from-get ws (suc i) n c (omega arith) ∙ ap (run_at ws) e

pub decode-get : (ws : List ℕ) (c : ℕ) → c < length ws → get_or (decode ws) c [] ≡ run_at ws c
unfolding decode
decode-get ws c h = from-get ws 0 (length ws) c h ∙ ap (run_at ws) (zero-add c)
