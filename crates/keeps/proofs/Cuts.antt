-- Settle in the main table: one void goes at each other address with the low bits of the queue word's, and at the end all tombstones. Order and entries stay
-- right, and the totals fall.
use mathlib.Core.Path.{◌≡◌, refl, sym, ap, ap₂, ◌∙◌, subst}
use mathlib.Core.Bool.{Bool, true, false, not, ◌&&◌}
use mathlib.Core.List.{List, [], ◌∷◌, map}
use Prim.Native.Nat.{ℕ, suc, ◌+◌, ◌-◌, ◌%◌, ◌^◌, ◌≤◌, ◌<◌}
use native.Mathlib.Omega.{arith}
use native.Mathlib.Nat.{zero-add}
use native.Mathlib.Decide.{ℕ_discrete}
use lib.Dec.{eqb}
use lib.ListN.{length, get_or, length-map, get_or-map}
use borrow.Author.Tests.{eq-eqb, ne_eqb}
use Rattle.lists.specs.Lists.{sum}
use Rattle.lists.specs.Runs.{Runs, erase, erase_all, count, total}
use Rattle.lists.proofs.Tests.{eqb-cases, is, is-no}
use Rattle.lists.proofs.Alls.{All, all-get, get-all, length-map_at, get_or-map_at}
use Rattle.lists.proofs.Sums.{same_length}
use Rattle.lists.proofs.RunLaws.{Rises, count-sum, count_erase_self, erase_same, erase-none}
use Rattle.slots.specs.Payload.{void}
use Rattle.rules.specs.Settling.{take_voids}

-- ---- runs that change place by place

pub total-le : (rs rs' : Runs) → length rs' ≡ length rs → ((j : ℕ) → j < length rs → length (get_or rs' j []) ≤ length (get_or rs j [])) → total rs' ≤ total rs
unfolding total
total-le [] [] e h = omega arith
total-le [] (x ∷ rs') e h = absurd (omega arith)
total-le (x ∷ rs) [] e h = omega arith
total-le (x ∷ rs) (y ∷ rs') e h = omega (arith, h 0 (omega arith), total-le rs rs' (omega arith) (λ j l. h (suc j) (omega arith)))

erase-short : (p : ℕ) (run : List ℕ) → length (erase p run) ≤ length run
erase-short p run = go (ℕ_discrete (count p run) 0)
  where
    go : Dec (count p run ≡ 0) → length (erase p run) ≤ length run
    go (yes e) = omega (arith, ap length (erase-none p run e))
    go (no e) = omega (arith, same_length run (p ∷ erase p run) (erase_same p run (omega arith)))

-- ---- one void of some runs

-- what take_voids does to the run of d
abbrev pub cut : ℕ → ℕ → ℕ → ℕ → List ℕ → List ℕ
cut w c b d run = elim (not (eqb d c) && eqb (d % 2 ^ b) (c % 2 ^ b)) [ true ↦ erase (void w) run | false ↦ run ]

pub cut-is : (P : List ℕ → Type 0) (w c b d : ℕ) (run : List ℕ) → P run → P (erase (void w) run) → P (cut w c b d run)
cut-is P w c b d run p q = go (not (eqb d c) && eqb (d % 2 ^ b) (c % 2 ^ b))
  where
    go : (x : Bool) → P (elim x [ true ↦ erase (void w) run | false ↦ run ])
    go true = q
    go false = p

module _ (w c b : ℕ) (runs : Runs) where
  pub cut-length : length (take_voids w c b runs) ≡ length runs
  unfolding take_voids
  cut-length = length-map_at (cut w c b) 0 runs

  pub cut_at : (d : ℕ) → d < length runs → get_or (take_voids w c b runs) d [] ≡ cut w c b d (get_or runs d [])
  unfolding take_voids
  cut_at d h = get_or-map_at (cut w c b) 0 runs d [] [] h ∙ ap (λ m. cut w c b m (get_or runs d [])) (zero-add d)

  pub cut_all : (P : List ℕ → Type 0) → ((run : List ℕ) → P run → P (erase (void w) run)) → All P runs → All P (take_voids w c b runs)
  cut_all P f a =
      get-all P (take_voids w c b runs) []
      (λ d h.
      let l : d < length runs = omega (arith, cut-length) in
      let p = all-get P runs [] a d l in
      subst P (sym (cut_at d l)) (cut-is P w c b d (get_or runs d []) p (f (get_or runs d []) p)))

  pub cut-total : total (take_voids w c b runs) ≤ total runs
  cut-total =
      total-le runs (take_voids w c b runs) cut-length
      (λ j h. subst (λ (l : List ℕ). length l ≤ length (get_or runs j [])) (sym (cut_at j h))
      (cut-is (λ l. length l ≤ length (get_or runs j [])) w c b j (get_or runs j []) (omega arith) (erase-short (void w) (get_or runs j []))))

-- the voids of a run: one less where another address has the low bits
module _ (w c b d : ℕ) (run : List ℕ) where
  abbrev by : Bool → Bool → ℕ
  by x y = count (void w) (elim (not x && y) [ true ↦ erase (void w) run | false ↦ run ])

  pub cut-other : (d ≡ c → ⊥) → d % 2 ^ b ≡ c % 2 ^ b → count (void w) (cut w c b d run) ≡ count (void w) run - 1
  cut-other ne e = ap₂ (λ (x y : Bool). by x y) (ne_eqb d c ne) (eq-eqb (d % 2 ^ b) (c % 2 ^ b) e) ∙ count_erase_self (void w) run

  pub cut-own : d ≡ c → count (void w) (cut w c b d run) ≡ count (void w) run
  cut-own e = ap (λ (x : Bool). by x (eqb (d % 2 ^ b) (c % 2 ^ b))) (eq-eqb d c e)

  pub cut-far : (d % 2 ^ b ≡ c % 2 ^ b → ⊥) → count (void w) (cut w c b d run) ≡ count (void w) run
  cut-far ne = ap (λ (y : Bool). by (eqb d c) y) (ne_eqb (d % 2 ^ b) (c % 2 ^ b) ne) ∙ off (eqb d c)
    where
      off : (x : Bool) → by x false ≡ count (void w) run
      off true = refl
      off false = refl

-- ---- all of one payload

pub all-erase_all : (P : ℕ → Type 0) (p : ℕ) (xs : List ℕ) → All P xs → All P (erase_all p xs)
unfolding erase_all
all-erase_all P p [] a = tt
all-erase_all P p (x ∷ xs) a = eqb-cases (All P) p x (erase_all p xs) (x ∷ erase_all p xs) (λ _. all-erase_all P p xs a.1) (λ _. (a.0, all-erase_all P p xs a.1))

pub rises-erase_all : (p : ℕ) (xs : List ℕ) → Rises xs → Rises (erase_all p xs)
unfolding erase_all Rises
rises-erase_all p [] r = tt
rises-erase_all p (x ∷ xs) r =
    eqb-cases Rises p x (erase_all p xs) (x ∷ erase_all p xs) (λ _. rises-erase_all p xs r.1) (λ _. (all-erase_all (λ y. x ≤ y) p xs r.0, rises-erase_all p xs r.1))

pub erase_all-sum : (f : ℕ → ℕ) (p : ℕ) (xs : List ℕ) → f p ≡ 0 → sum f (erase_all p xs) ≡ sum f xs
unfolding erase_all sum
erase_all-sum f p [] e = refl
erase_all-sum f p (x ∷ xs) e =
    eqb-cases (λ (l : List ℕ). sum f l ≡ f x + sum f xs) p x (erase_all p xs) (x ∷ erase_all p xs)
    (λ q. omega (arith, erase_all-sum f p xs e, ap f q)) (λ q. omega (arith, erase_all-sum f p xs e))

pub erase_all-none : (p : ℕ) (xs : List ℕ) → count p (erase_all p xs) ≡ 0
unfolding erase_all count
erase_all-none p [] = refl
erase_all-none p (x ∷ xs) =
    eqb-cases (λ (l : List ℕ). count p l ≡ 0) p x (erase_all p xs) (x ∷ erase_all p xs)
    (λ q. erase_all-none p xs) (λ q. omega (arith, erase_all-none p xs, is-no p x q))

pub erase_all-other : (p q : ℕ) (xs : List ℕ) → (q ≡ p → ⊥) → count q (erase_all p xs) ≡ count q xs
erase_all-other p q xs ne = count-sum q (erase_all p xs) ∙ erase_all-sum (is q) p xs (is-no q p ne) ∙ sym (count-sum q xs)

erase_all-short : (p : ℕ) (xs : List ℕ) → length (erase_all p xs) ≤ length xs
unfolding erase_all
erase_all-short p [] = omega arith
erase_all-short p (x ∷ xs) =
    eqb-cases (λ (l : List ℕ). length l ≤ suc (length xs)) p x (erase_all p xs) (x ∷ erase_all p xs)
    (λ q. omega (arith, erase_all-short p xs)) (λ q. omega (arith, erase_all-short p xs))

pub get_or-erase_all : (p : ℕ) (rs : Runs) (c : ℕ) → get_or (map (erase_all p) rs) c [] ≡ erase_all p (get_or rs c [])
unfolding erase_all
get_or-erase_all p rs c = get_or-map (erase_all p) rs c []

pub total-erase_all : (p : ℕ) (rs : Runs) → total (map (erase_all p) rs) ≤ total rs
total-erase_all p rs =
    total-le rs (map (erase_all p) rs) (length-map rs (erase_all p))
    (λ j h. subst (λ (l : List ℕ). length l ≤ length (get_or rs j [])) (sym (get_or-erase_all p rs j)) (erase_all-short p (get_or rs j [])))
