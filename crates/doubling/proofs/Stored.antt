-- The annex table of the new mother hashes: when they have arrived one by one in an empty table, it is the table of the definition, which adds the last first.
use mathlib.Core.Path.{◌≡◌, refl, sym, ap, ap₂, ◌∙◌}
use mathlib.Core.Bool.{Bool, true, false}
use mathlib.Core.List.{List, [], ◌∷◌, ◌++◌, map}
use Prim.Native.Nat.{ℕ, suc, ◌+◌, ◌*◌, ◌%◌, ◌^◌, ◌<◌}
use native.Mathlib.Omega.{arith}
use native.Mathlib.Decide.{ℕ_discrete}
use lib.Dec.{eqb}
use lib.ListN.{length, get_or, replicate, length-map, length-set, length-replicate, get_or-replicate}
use lib.Seq.{ext_get_or, get_or-set_same, get_or-set_other}
use Rattle.lists.specs.Runs.{Runs, add, at}
use Rattle.slots.specs.Payload.{rest_of, fingerprint_of}
use Rattle.rules.specs.Tables.{hash_entry}
use Rattle.rules.specs.Doubling.{become_void, new_hashes, table_of}
use Rattle.arriving.specs.Arrivals.{Arrival, arrive, of_run, of_runs}
use Rattle.arriving.proofs.Arrivals.{arrive-length}
use Rattle.arriving.proofs.Gathered.{come_to, add_all, arrive-at, come-here, come-else}
use Rattle.doubling.specs.NewHashes.{new_hash, hash_arrival, stored}

-- ---- the new mother hashes, entry by entry

hash-first : (w k c p : ℕ) (run : List ℕ) → become_void w k c (p ∷ []) ++ become_void w k c run ≡ become_void w k c (p ∷ run)
unfolding become_void
hash-first w k c p run = go (eqb (rest_of w p) 2)
  where
    m : ℕ
    m = c + 2 ^ k * fingerprint_of w p

    go : (b : Bool) → elim b [ true ↦ m ∷ [] | false ↦ [] ] ++ become_void w k c run ≡ elim b [ true ↦ m ∷ become_void w k c run | false ↦ become_void w k c run ]
    go true = refl
    go false = refl

run-hashes : (w k c : ℕ) (run : List ℕ) → of_run (new_hash w k c) run ≡ become_void w k c run
unfolding of_run new_hash
run-hashes w k c [] = unfold become_void in refl
run-hashes w k c (p ∷ run) = ap (λ (l : List ℕ). become_void w k c (p ∷ []) ++ l) (run-hashes w k c run) ∙ hash-first w k c p run

pub all-hashes : (w k c : ℕ) (rs : Runs) → of_runs (new_hash w k) c rs ≡ new_hashes w k c rs
unfolding of_runs new_hashes
all-hashes w k c [] = refl
all-hashes w k c (r ∷ rs) = ap₂ (λ (x y : List ℕ). x ++ y) (run-hashes w k c r) (all-hashes w k (suc c) rs)

map-append : {A B : Type 0} (f : A → B) (l m : List A) → map f (l ++ m) ≡ map f l ++ map f m
map-append f [] m = refl
map-append f (x ∷ l) m = ap (λ (y : List _). f x ∷ y) (map-append f l m)

run-stored : (w k s c : ℕ) (run : List ℕ) → of_run (stored w k s c) run ≡ map (hash_arrival (k + 1) s) (of_run (new_hash w k c) run)
unfolding of_run stored
run-stored w k s c [] = refl
run-stored w k s c (p ∷ run) =
    ap (λ (l : List Arrival). map (hash_arrival (k + 1) s) (new_hash w k c p) ++ l) (run-stored w k s c run)
    ∙ sym (map-append (hash_arrival (k + 1) s) (new_hash w k c p) (of_run (new_hash w k c) run))

runs-stored : (w k s c : ℕ) (rs : Runs) → of_runs (stored w k s) c rs ≡ map (hash_arrival (k + 1) s) (of_runs (new_hash w k) c rs)
unfolding of_runs
runs-stored w k s c [] = refl
runs-stored w k s c (r ∷ rs) =
    ap₂ (λ (x y : List Arrival). x ++ y) (run-stored w k s c r) (runs-stored w k s (suc c) rs)
    ∙ sym (map-append (hash_arrival (k + 1) s) (of_run (new_hash w k c) r) (of_runs (new_hash w k) (suc c) rs))

pub all-stored : (w k s : ℕ) (rs : Runs) → of_runs (stored w k s) 0 rs ≡ map (hash_arrival (k + 1) s) (new_hashes w k 0 rs)
all-stored w k s rs = runs-stored w k s 0 rs ∙ ap (map (hash_arrival (k + 1) s)) (all-hashes w k 0 rs)

pub stored-length : (w k s : ℕ) (rs : Runs) → length (of_runs (stored w k s) 0 rs) ≡ length (new_hashes w k 0 rs)
stored-length w k s rs = ap length (all-stored w k s rs) ∙ length-map (new_hashes w k 0 rs) (hash_arrival (k + 1) s)

-- ---- the table

length-table : (b s : ℕ) (ms : List ℕ) → length (table_of b s ms) ≡ 2 ^ s
unfolding table_of
length-table b s [] = length-replicate (2 ^ s) []
length-table b s (m ∷ ms) = length-set (table_of b s ms) (m % 2 ^ s) (add (hash_entry b s m) (get_or (table_of b s ms) (m % 2 ^ s) [])) ∙ length-table b s ms

table_at : (b s : ℕ) (ms : List ℕ) (a : ℕ) → a < 2 ^ s → get_or (table_of b s ms) a [] ≡ add_all (come_to a (map (hash_arrival b s) ms)) []
unfolding table_of
table_at b s [] a h = get_or-replicate (2 ^ s) a [] [] h ∙ (unfold come_to add_all in refl)
table_at b s (m ∷ ms) a h = go (ℕ_discrete a (m % 2 ^ s)) (table_at b s ms a h)
  where
    rs : Runs
    rs = table_of b s ms

    es : List Arrival
    es = map (hash_arrival b s) ms

    x : Arrival
    x = hash_arrival b s m

    new : List ℕ
    new = add x.payload (get_or rs x.address [])

    add-first : (y : ℕ) (l : List ℕ) → add y (add_all l []) ≡ add_all (y ∷ l) []
    add-first y l = unfold add_all in refl

    go : Dec (a ≡ x.address) → get_or rs a [] ≡ add_all (come_to a es) [] → get_or (at x.address (add x.payload) rs) a [] ≡ add_all (come_to a (x ∷ es)) []
    go (yes e) ih =
        ap (λ (i : ℕ). get_or (at x.address (add x.payload) rs) i []) e ∙ get_or-set_same rs x.address new [] (omega (arith, length-table b s ms))
        ∙ ap (λ (i : ℕ). add x.payload (get_or rs i [])) (sym e) ∙ ap (add x.payload) ih ∙ add-first x.payload (come_to a es)
        ∙ ap (λ (l : List ℕ). add_all l []) (sym (come-here a x es e))
    go (no n) ih = get_or-set_other rs x.address a new [] n ∙ ih ∙ ap (λ (l : List ℕ). add_all l []) (sym (come-else a x es n))

pub tabled : (b s : ℕ) (ms : List ℕ) → arrive (map (hash_arrival b s) ms) (replicate (2 ^ s) []) ≡ table_of b s ms
tabled b s ms = ext_get_or [] (arrive es none) (table_of b s ms) (len ∙ sym (length-table b s ms)) each
  where
    es : List Arrival
    es = map (hash_arrival b s) ms

    none : Runs
    none = replicate (2 ^ s) []

    len : length (arrive es none) ≡ 2 ^ s
    len = arrive-length es none ∙ length-replicate (2 ^ s) []

    each : (i : ℕ) → i < length (arrive es none) → get_or (arrive es none) i [] ≡ get_or (table_of b s ms) i []
    each i h =
        let l : i < 2 ^ s = omega (arith, len) in
        arrive-at es none i (omega (arith, length-replicate {A = List ℕ} (2 ^ s) []))
        ∙ ap (add_all (come_to i es)) (get_or-replicate (2 ^ s) i [] [] l) ∙ sym (table_at b s ms i l)
