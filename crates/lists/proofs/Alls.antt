-- What holds of every element of a list: the test `every`, by places, and the fact `All`, each from the other by induction.
use mathlib.Core.Path.{◌≡◌, refl, sym, ap, ◌∙◌, subst}
use mathlib.Core.Bool.{Bool, true}
use mathlib.Core.List.{List, [], ◌∷◌, ◌++◌, map}
use Prim.Native.Nat.{ℕ, zero, suc, ◌+◌, ◌<◌}
use native.Mathlib.Omega.{arith}
use native.Mathlib.Nat.{zero-add}
use lib.Dec.{T}
use lib.ListN.{length, get_or, set, replicate}
use Rattle.lists.specs.Lists.{every, map_at}
use Rattle.lists.specs.Runs.{Runs}
use Rattle.lists.proofs.Tests.{and_left, and_right, and_both}

-- every element
abbrev pub All : {A : Type 0} → (A → Type 0) → List A → Type 0
All P [] = Unit {0}
All P (x ∷ xs) = P x × All P xs

pub length-map_at : {A B : Type 0} (f : ℕ → A → B) (i : ℕ) (xs : List A) → length (map_at f i xs) ≡ length xs
unfolding map_at
length-map_at f i [] = refl
length-map_at f i (x ∷ xs) = ap suc (length-map_at f (suc i) xs)

pub get_or-map_at : {A B : Type 0} (f : ℕ → A → B) (i : ℕ) (xs : List A) (c : ℕ) (a : A) (b : B) → c < length xs → get_or (map_at f i xs) c b ≡ f (i + c) (get_or xs c a)
unfolding map_at
get_or-map_at f i [] c a b h = absurd (omega arith)
get_or-map_at f i (x ∷ xs) zero a b h = let e : i ≡ i + 0 = omega arith in ap (λ (m : ℕ). f m x) e
get_or-map_at f i (x ∷ xs) (suc c) a b h =
    let e : suc i + c ≡ i + suc c = omega arith in
    get_or-map_at f (suc i) xs c a b (omega arith) ∙ ap (λ (m : ℕ). f m (get_or xs c a)) e

pub every_get : {A : Type 0} (f : A → Bool) (xs : List A) (d : A) → T (every f xs) → (c : ℕ) → c < length xs → T (f (get_or xs c d))
unfolding every
every_get f [] d t c h = absurd (omega arith)
every_get f (x ∷ xs) d t zero h = and_left (f x) (every f xs) t
every_get f (x ∷ xs) d t (suc c) h = every_get f xs d (and_right (f x) (every f xs) t) c (omega arith)

pub get-every : {A : Type 0} (f : A → Bool) (xs : List A) (d : A) → ((c : ℕ) → c < length xs → T (f (get_or xs c d))) → T (every f xs)
unfolding every
get-every f [] d h = tt
get-every f (x ∷ xs) d h = and_both (f x) (every f xs) (h 0 (omega arith)) (get-every f xs d (λ c l. h (suc c) (omega arith)))

-- a test of each place and its element
pub places-get : {A : Type 0} (f : ℕ → A → Bool) (xs : List A) (d : A) → T (every (λ (b : Bool). b) (map_at f 0 xs)) → (c : ℕ) → c < length xs → T (f c (get_or xs c d))
places-get f xs d t c h =
    subst T (get_or-map_at f 0 xs c d true h ∙ ap (λ m. f m (get_or xs c d)) (zero-add c))
    (every_get (λ (b : Bool). b) (map_at f 0 xs) true t c (rw length-map_at h))

pub get-places : {A : Type 0} (f : ℕ → A → Bool) (xs : List A) (d : A) → ((c : ℕ) → c < length xs → T (f c (get_or xs c d))) → T (every (λ (b : Bool). b) (map_at f 0 xs))
get-places f xs d t =
    get-every (λ (b : Bool). b) (map_at f 0 xs) true
    (λ c h. let l : c < length xs = rw length-map_at at h in subst T (sym (get_or-map_at f 0 xs c d true l ∙ ap (λ m. f m (get_or xs c d)) (zero-add c))) (t c l))

pub every-all : {A : Type 0} (f : A → Bool) (xs : List A) → T (every f xs) → All (λ x. T (f x)) xs
unfolding every
every-all f [] t = tt
every-all f (x ∷ xs) t = (and_left (f x) (every f xs) t, every-all f xs (and_right (f x) (every f xs) t))

pub all-every : {A : Type 0} (f : A → Bool) (xs : List A) → All (λ x. T (f x)) xs → T (every f xs)
unfolding every
all-every f [] t = tt
all-every f (x ∷ xs) t = and_both (f x) (every f xs) t.0 (all-every f xs t.1)

pub all-get : {A : Type 0} (P : A → Type 0) (xs : List A) (d : A) → All P xs → (c : ℕ) → c < length xs → P (get_or xs c d)
all-get P [] d t c h = absurd (omega arith)
all-get P (x ∷ xs) d t zero h = t.0
all-get P (x ∷ xs) d t (suc c) h = all-get P xs d t.1 c (omega arith)

pub get-all : {A : Type 0} (P : A → Type 0) (xs : List A) (d : A) → ((c : ℕ) → c < length xs → P (get_or xs c d)) → All P xs
get-all P [] d h = tt
get-all P (x ∷ xs) d h = (h 0 (omega arith), get-all P xs d (λ c l. h (suc c) (omega arith)))

pub all_map : {A : Type 0} (P Q : A → Type 0) → ((a : A) → P a → Q a) → (l : List A) → All P l → All Q l
all_map P Q f [] a = tt
all_map P Q f (x ∷ l) a = (f x a.0, all_map P Q f l a.1)

pub all-maps : {A B : Type 0} (P : A → Type 0) (Q : B → Type 0) (f : A → B) → ((a : A) → P a → Q (f a)) → (l : List A) → All P l → All Q (map f l)
all-maps P Q f g [] a = tt
all-maps P Q f g (x ∷ l) a = (g x a.0, all-maps P Q f g l a.1)

pub all_snoc : {A : Type 0} (P : A → Type 0) (l : List A) (x : A) → All P l → P x → All P (l ++ x ∷ [])
all_snoc P [] x a p = (p, tt)
all_snoc P (y ∷ l) x a p = (a.0, all_snoc P l x a.1 p)

pub all_same : {A : Type 0} (P : A → Type 0) (n : ℕ) (x : A) → P x → All P (replicate n x)
all_same P zero x p = tt
all_same P (suc n) x p = (p, all_same P n x p)

pub all_set : {A : Type 0} (P : A → Type 0) (xs : List A) (c : ℕ) (y : A) → All P xs → P y → All P (set xs c y)
all_set P [] c y a p = tt
all_set P (x ∷ xs) zero y a p = (p, a.1)
all_set P (x ∷ xs) (suc c) y a p = (a.0, all_set P xs c y a.1 p)

-- past the end there is the empty run
pub all_any : (P : ℕ → Type 0) (rs : Runs) (c : ℕ) → All (All P) rs → All P (get_or rs c [])
all_any P [] c a = tt
all_any P (r ∷ rs) zero a = a.0
all_any P (r ∷ rs) (suc c) a = all_any P rs c a.1
