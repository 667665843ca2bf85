-- What adding to a run and erasing from it keep and change: order, length, total and how often each payload is there, all by induction on the run.
use mathlib.Core.Path.{◌≡◌, refl, sym, ap, ap₂, ◌∙◌}
use mathlib.Core.Bool.{Bool, true, cond}
use mathlib.Core.List.{List, [], ◌∷◌, ◌++◌}
use Prim.Native.Nat.{ℕ, zero, suc, ◌+◌, ◌-◌, ◌≤◌, ◌<◌}
use native.Mathlib.Omega.{arith}
use native.Mathlib.Decide.{dec_le, ℕ_discrete}
use lib.Dec.{leb, eqb, T, leb→le, le→leb}
use lib.ListN.{length, get_or, set, replicate}
use borrow.Author.Tests.{eq-eqb, ne_eqb, le-leb, lt-leb}
use Rattle.lists.specs.Lists.{bit, sum}
use Rattle.lists.specs.Runs.{Runs, rising, rises_from, add, erase, has, count, total}
use Rattle.lists.proofs.Tests.{and_left, and_right, and_both, no_true, leb-cases, eqb-cases, is, is-yes, is-no}
use Rattle.lists.proofs.Alls.{All, all_map}
use Rattle.lists.proofs.Sums.{Same, sum-append}

-- ---- rising runs

-- none is below one before it
unfoldable pub Rises : List ℕ → Type 0
Rises [] = Unit {0}
Rises (x ∷ xs) = All (λ y. x ≤ y) xs × Rises xs

from-test : (x : ℕ) (xs : List ℕ) → T (rises_from x xs) → All (λ y. x ≤ y) xs × Rises xs
unfolding rises_from Rises
from-test x [] t = (tt, tt)
from-test x (y ∷ ys) t =
    let l : x ≤ y = leb→le x y (and_left (leb x y) (rises_from y ys) t) in
    let r : All (λ z. y ≤ z) ys × Rises ys = from-test y ys (and_right (leb x y) (rises_from y ys) t) in
    ((l, all_map (λ z. y ≤ z) (λ z. x ≤ z) (λ z h. omega arith) ys r.0), r)

pub rising-rises : (xs : List ℕ) → T (rising xs) → Rises xs
unfolding rising Rises
rising-rises [] t = tt
rising-rises (x ∷ xs) t = from-test x xs t

to-test : (x : ℕ) (xs : List ℕ) → All (λ y. x ≤ y) xs → Rises xs → T (rises_from x xs)
unfolding rises_from Rises
to-test x [] a r = tt
to-test x (y ∷ ys) a r = and_both (leb x y) (rises_from y ys) (le→leb x y a.0) (to-test y ys r.0 r.1)

pub rises-rising : (xs : List ℕ) → Rises xs → T (rising xs)
unfolding rising Rises
rises-rising [] r = tt
rises-rising (x ∷ xs) r = to-test x xs r.0 r.1

-- ---- one step of add, erase and has

pub add-here : (x y : ℕ) (ys : List ℕ) → x ≤ y → add x (y ∷ ys) ≡ x ∷ y ∷ ys
unfolding add
add-here x y ys h = ap (λ (b : Bool). cond b (x ∷ y ∷ ys) (y ∷ add x ys)) (le-leb x y h)

pub add-next : (x y : ℕ) (ys : List ℕ) → y < x → add x (y ∷ ys) ≡ y ∷ add x ys
unfolding add
add-next x y ys h = ap (λ (b : Bool). cond b (x ∷ y ∷ ys) (y ∷ add x ys)) (lt-leb x y h)

pub erase-here : (x y : ℕ) (ys : List ℕ) → x ≡ y → erase x (y ∷ ys) ≡ ys
unfolding erase
erase-here x y ys e = ap (λ (b : Bool). cond b ys (y ∷ erase x ys)) (eq-eqb x y e)

pub erase-next : (x y : ℕ) (ys : List ℕ) → (x ≡ y → ⊥) → erase x (y ∷ ys) ≡ y ∷ erase x ys
unfolding erase
erase-next x y ys n = ap (λ (b : Bool). cond b ys (y ∷ erase x ys)) (ne_eqb x y n)

pub has_here : (x y : ℕ) (ys : List ℕ) → x ≡ y → has x (y ∷ ys) ≡ true
unfolding has
has_here x y ys e = ap (λ (b : Bool). cond b true (has x ys)) (eq-eqb x y e)

pub has-next : (x y : ℕ) (ys : List ℕ) → (x ≡ y → ⊥) → has x (y ∷ ys) ≡ has x ys
unfolding has
has-next x y ys n = ap (λ (b : Bool). cond b true (has x ys)) (ne_eqb x y n)

-- ---- add

pub all-add : (P : ℕ → Type 0) (p : ℕ) (xs : List ℕ) → P p → All P xs → All P (add p xs)
unfolding add
all-add P p [] h a = (h, tt)
all-add P p (x ∷ xs) h a = leb-cases (All P) p x (p ∷ x ∷ xs) (x ∷ add p xs) (λ _. (h, a)) (λ _. (a.0, all-add P p xs h a.1))

pub rises-add : (p : ℕ) (xs : List ℕ) → Rises xs → Rises (add p xs)
unfolding add Rises
rises-add p [] r = (tt, tt)
rises-add p (x ∷ xs) r =
    leb-cases Rises p x (p ∷ x ∷ xs) (x ∷ add p xs)
    (λ h. ((h, all_map (λ z. x ≤ z) (λ z. p ≤ z) (λ z l. omega arith) xs r.0), r))
    (λ h. (all-add (λ z. x ≤ z) p xs (omega arith) r.0, rises-add p xs r.1))

pub add_same : (p : ℕ) (xs : List ℕ) → Same (add p xs) (p ∷ xs)
unfolding add Same sum
add_same p [] f = refl
add_same p (x ∷ xs) f =
    leb-cases (λ (l : List ℕ). sum f l ≡ f p + (f x + sum f xs)) p x (p ∷ x ∷ xs) (x ∷ add p xs) (λ _. refl) (λ _. omega (arith, add_same p xs f))

pub length-add : (x : ℕ) (r : List ℕ) → length (add x r) ≡ suc (length r)
length-add x [] = unfold add in refl
length-add x (y ∷ ys) = go (dec_le x y) (length-add x ys)
  where
    go : Dec (x ≤ y) → length (add x ys) ≡ suc (length ys) → length (add x (y ∷ ys)) ≡ suc (suc (length ys))
    go (yes h) ih = ap length (add-here x y ys h)
    go (no h) ih = ap length (add-next x y ys (omega arith)) ∙ ap suc ih

-- the order of adding does not matter
pub add-swap : (x y : ℕ) (r : List ℕ) → x ≤ y → add x (add y r) ≡ add y (add x r)
add-swap x y [] h = ap (add x) one-y ∙ add-here x y [] h ∙ sym (ap (add y) one-x ∙ go (dec_le y x))
  where
    one-y : add y [] ≡ y ∷ []
    one-y = unfold add in refl

    one-x : add x [] ≡ x ∷ []
    one-x = unfold add in refl

    go : Dec (y ≤ x) → add y (x ∷ []) ≡ x ∷ y ∷ []
    go (yes g) =
        let e : y ≡ x = omega arith in
        add-here y x [] g ∙ ap₂ (λ (a b : ℕ). a ∷ b ∷ []) e (sym e)
    go (no g) = add-next y x [] (omega arith) ∙ ap (λ (l : List ℕ). x ∷ l) one-y
add-swap x y (z ∷ zs) h = go (dec_le x z) (dec_le y z) (dec_le y x) (add-swap x y zs h)
  where
    go : Dec (x ≤ z) → Dec (y ≤ z) → Dec (y ≤ x) → add x (add y zs) ≡ add y (add x zs) → add x (add y (z ∷ zs)) ≡ add y (add x (z ∷ zs))
    go (yes a) (yes b) (yes e) ih =
        let q : x ≡ y = omega arith in
        ap (λ (v : ℕ). add v (add y (z ∷ zs))) q ∙ ap (λ (v : ℕ). add y (add v (z ∷ zs))) (sym q)
    go (yes a) (yes b) (no e) ih =
        ap (add x) (add-here y z zs b) ∙ add-here x y (z ∷ zs) h
        ∙ sym (ap (add y) (add-here x z zs a) ∙ add-next y x (z ∷ zs) (omega arith) ∙ ap (λ (l : List ℕ). x ∷ l) (add-here y z zs b))
    go (yes a) (no b) w ih =
        ap (add x) (add-next y z zs (omega arith)) ∙ add-here x z (add y zs) a
        ∙ sym (ap (add y) (add-here x z zs a) ∙ add-next y x (z ∷ zs) (omega arith) ∙ ap (λ (l : List ℕ). x ∷ l) (add-next y z zs (omega arith)))
    go (no a) (yes b) w ih = absurd (a (omega arith))
    go (no a) (no b) w ih =
        ap (add x) (add-next y z zs (omega arith)) ∙ add-next x z (add y zs) (omega arith) ∙ ap (λ (l : List ℕ). z ∷ l) ih
        ∙ sym (ap (add y) (add-next x z zs (omega arith)) ∙ add-next y z (add x zs) (omega arith))

-- ---- erase

pub all-erase : (P : ℕ → Type 0) (p : ℕ) (xs : List ℕ) → All P xs → All P (erase p xs)
unfolding erase
all-erase P p [] a = tt
all-erase P p (x ∷ xs) a = eqb-cases (All P) p x xs (x ∷ erase p xs) (λ _. a.1) (λ _. (a.0, all-erase P p xs a.1))

pub rises-erase : (p : ℕ) (xs : List ℕ) → Rises xs → Rises (erase p xs)
unfolding erase Rises
rises-erase p [] r = tt
rises-erase p (x ∷ xs) r = eqb-cases Rises p x xs (x ∷ erase p xs) (λ _. r.1) (λ _. (all-erase (λ z. x ≤ z) p xs r.0, rises-erase p xs r.1))

pub length-erase : (x : ℕ) (r : List ℕ) → has x r ≡ true → suc (length (erase x r)) ≡ length r
length-erase x [] h = absurd (no_true (unfold has in h))
length-erase x (y ∷ ys) h = go (ℕ_discrete x y) (length-erase x ys)
  where
    go : Dec (x ≡ y) → (has x ys ≡ true → suc (length (erase x ys)) ≡ length ys) → suc (length (erase x (y ∷ ys))) ≡ suc (length ys)
    go (yes e) ih = ap (λ (l : List ℕ). suc (length l)) (erase-here x y ys e)
    go (no n) ih = ap (λ (l : List ℕ). suc (length l)) (erase-next x y ys n) ∙ ap suc (ih (sym (has-next x y ys n) ∙ h))

-- ---- how often

pub count-sum : (p : ℕ) (xs : List ℕ) → count p xs ≡ sum (is p) xs
unfolding count sum
count-sum p [] = refl
count-sum p (x ∷ xs) = ap (λ m. is p x + m) (count-sum p xs)

pub same_count : (p : ℕ) (xs ys : List ℕ) → Same xs ys → count p xs ≡ count p ys
unfolding Same
same_count p xs ys s = count-sum p xs ∙ s (is p) ∙ sym (count-sum p ys)

pub count-append : (p : ℕ) (xs ys : List ℕ) → count p (xs ++ ys) ≡ count p xs + count p ys
count-append p xs ys = count-sum p (xs ++ ys) ∙ sum-append (is p) xs ys ∙ ap₂ ◌+◌ (sym (count-sum p xs)) (sym (count-sum p ys))

-- it is there if it is there once or more
pub has-count : (x : ℕ) (r : List ℕ) → has x r ≡ true → 0 < count x r
unfolding count
has-count x [] h = absurd (no_true (unfold has in h))
has-count x (y ∷ ys) h = go (ℕ_discrete x y) (has-count x ys)
  where
    go : Dec (x ≡ y) → (has x ys ≡ true → 0 < count x ys) → 0 < bit (eqb x y) + count x ys
    go (yes e) ih = omega (arith, is-yes x y e)
    go (no n) ih = omega (arith, ih (sym (has-next x y ys n) ∙ h))

pub count-has : (x : ℕ) (r : List ℕ) → 0 < count x r → has x r ≡ true
unfolding count
count-has x [] h = absurd (omega arith)
count-has x (y ∷ ys) h = go (ℕ_discrete x y) (count-has x ys)
  where
    go : Dec (x ≡ y) → (0 < count x ys → has x ys ≡ true) → has x (y ∷ ys) ≡ true
    go (yes e) ih = has_here x y ys e
    go (no n) ih = has-next x y ys n ∙ ih (omega (arith, is-no x y n))

pub erase_same : (p : ℕ) (xs : List ℕ) → 0 < count p xs → Same xs (p ∷ erase p xs)
unfolding erase Same sum count
erase_same p [] h f = absurd (omega arith)
erase_same p (x ∷ xs) h f =
    eqb-cases (λ (l : List ℕ). f x + sum f xs ≡ f p + sum f l) p x xs (x ∷ erase p xs)
    (λ e. ap (λ y. f y + sum f xs) (sym e))
    (λ e. omega (arith, erase_same p xs (omega (arith, is-no p x e)) f))

-- what is not there is not taken
pub erase-none : (p : ℕ) (xs : List ℕ) → count p xs ≡ 0 → erase p xs ≡ xs
unfolding erase count
erase-none p [] h = refl
erase-none p (x ∷ xs) h =
    eqb-cases (λ (l : List ℕ). l ≡ x ∷ xs) p x xs (x ∷ erase p xs)
    (λ e. absurd (omega (arith, is-yes p x e)))
    (λ e. ap (λ l. x ∷ l) (erase-none p xs (omega arith)))

pub count_add : (p q : ℕ) (xs : List ℕ) → count q (add p xs) ≡ is q p + count q xs
unfolding count
count_add p q xs = same_count q (add p xs) (p ∷ xs) (add_same p xs)

pub count-erase : (p q : ℕ) (xs : List ℕ) → 0 < count p xs → count q (erase p xs) + is q p ≡ count q xs
unfolding count
count-erase p q xs h = let e = same_count q xs (p ∷ erase p xs) (erase_same p xs h) in omega arith

-- one fewer, or as many where there is none
pub count_erase_self : (p : ℕ) (xs : List ℕ) → count p (erase p xs) ≡ count p xs - 1
count_erase_self p xs = go (ℕ_discrete (count p xs) 0)
  where
    go : Dec (count p xs ≡ 0) → count p (erase p xs) ≡ count p xs - 1
    go (yes e) = ap (count p) (erase-none p xs e) ∙ omega arith
    go (no e) = omega (arith, count-erase p p xs (omega arith), is-yes p p refl)

pub count-erase-other : (p q : ℕ) (xs : List ℕ) → (q ≡ p → ⊥) → count q (erase p xs) ≡ count q xs
count-erase-other p q xs ne = go (ℕ_discrete (count p xs) 0)
  where
    go : Dec (count p xs ≡ 0) → count q (erase p xs) ≡ count q xs
    go (yes e) = ap (count q) (erase-none p xs e)
    go (no e) = omega (arith, count-erase p q xs (omega arith), is-no q p ne)

-- ---- a table's runs

pub total-set : (runs : Runs) (c : ℕ) (r : List ℕ) → c < length runs → total (set runs c r) + length (get_or runs c []) ≡ total runs + length r
unfolding total
total-set [] c r h = absurd (omega arith)
total-set (q ∷ rs) zero r h = omega arith
total-set (q ∷ rs) (suc c) r h = omega (arith, total-set rs c r (omega arith))

pub total-none : (n : ℕ) → total (replicate n []) ≡ 0
unfolding total
total-none zero = refl
total-none (suc n) = omega (arith, total-none n)
