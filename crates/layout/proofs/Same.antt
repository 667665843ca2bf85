-- The document's table is the machine's layout.
use mathlib.Core.Path.{◌≡◌, refl, sym, ap, ap₂, ◌∙◌}
use mathlib.Core.Bool.{Bool, cond}
use mathlib.Core.Logic.{◌⊎◌, inl, inr}
use mathlib.Core.List.{List, [], ◌∷◌, ◌++◌, map, append_assoc, append-nil}
use Prim.Native.Nat.{ℕ, zero, suc, ◌+◌, ◌*◌, ◌-◌, ◌%◌, ◌≤◌, ◌<◌, max}
use native.Mathlib.Nat.{mod-eq_of_lt, add-mod_right, max_comm, suc-mod, mod_self, mod-lt}
use native.Mathlib.Omega.{arith}
use native.Mathlib.Decide.{dec_lt}
use lib.Dec.{leb, ltb}
use borrow.Author.Tests.{lt-ltb, le-ltb, le-leb, lt-leb}
use lib.ListN.{length, take, drop, get_or, length-append, length-map, length-drop, take-append-drop, get_or-append}
use lib.Seq.{take_at, drop_at, length-take-le, drop-cons, get_or-drop, get_or-take, get_or-append-add}
use Rattle.layout.specs.Machine.{Entry, more, code, occupied, mark, emit, rest, scan, left, pend, layout}
use Rattle.lists.specs.Runs.{total}
use Rattle.layout.proofs.Laws.{mark-length, rest-length, scan-length, Gap, lap, turn-pend, layout-split, total-append, seam, most, pend-most}
use Rattle.layout.specs.Decode.{turn, place_of, last_place}
use Rattle.layout.proofs.Round.{last-place, turn-layout}
use Rattle.layout.specs.Document.{run_of, before, largest, carry, flag, entry_at, word_at, words_from, table}

-- ---- places of a circle that is begun at c

pub turn-length {ℓ} : {A : Type ℓ} (c : ℕ) (l : List A) → length (turn c l) ≡ length l
turn-length c l = omega (arith, length-append (drop c l) (take c l), length-append (take c l) (drop c l), ap length (take-append-drop c l))

pub turn_low {ℓ} : {A : Type ℓ} (c : ℕ) (l : List A) (i : ℕ) (d : A) → c + i < length l → get_or (turn c l) i d ≡ get_or l (c + i) d
turn_low c l i d h = get_or-append (drop c l) (take c l) d i (omega (arith, length-drop c l)) ∙ get_or-drop c l i d

pub turn-high {ℓ} : {A : Type ℓ} (c : ℕ) (l : List A) (i : ℕ) (d : A) → c ≤ length l → i < c → get_or (turn c l) (length l - c + i) d ≡ get_or l i d
turn-high c l i d hc hi =
    ap (λ (k : ℕ). get_or (turn c l) (k + i) d) (sym (length-drop c l))
    ∙ get_or-append-add (drop c l) (take c l) i d
    ∙ get_or-take c l i d hi

-- place i of the circle begun at c is place (c + i) % N
pub turn_at {ℓ} : {A : Type ℓ} (c : ℕ) (l : List A) (i : ℕ) (d : A) → c < length l → i < length l → get_or (turn c l) i d ≡ get_or l ((c + i) % length l) d
turn_at c l i d hc hi = go (dec_lt (c + i) (length l))
  where
    go : Dec (c + i < length l) → get_or (turn c l) i d ≡ get_or l ((c + i) % length l) d
    go (yes h) = turn_low c l i d h ∙ ap (λ (k : ℕ). get_or l k d) (sym (mod-eq_of_lt h))
    go (no h) =
        let j = c + i - length l in
        let e : c + i ≡ j + length l = omega arith in
        let m : (c + i) % length l ≡ j = ap (λ (k : ℕ). k % length l) e ∙ add-mod_right j (length l) ∙ mod-eq_of_lt (omega arith) in
        ap (λ (k : ℕ). get_or (turn c l) k d) (omega arith) ∙ turn-high c l j d (omega arith) (omega arith) ∙ ap (λ (k : ℕ). get_or l k d) (sym m)

pub total-turn : (c : ℕ) (runs : List (List ℕ)) → total (turn c runs) ≡ total runs
total-turn c runs = omega (arith, total-append (drop c runs) (take c runs), total-append (take c runs) (drop c runs), ap total (take-append-drop c runs))

-- ---- the carry is the number of entries that wait on arrival

module _ (runs : List (List ℕ)) (c : ℕ) (hc : c < length runs) where
  tail_step : (j : ℕ) → suc j ≤ length runs → drop (length runs - suc j) (turn c runs) ≡ run_of runs (c + length runs - suc j) ∷ drop (length runs - j) (turn c runs)
  tail_step j h =
      let n = length runs in
      let i = n - suc j in
      let e : c + i ≡ c + n - suc j = omega arith in
      let g : get_or (turn c runs) i [] ≡ run_of runs (c + n - suc j) = turn_at c runs i [] hc (omega arith) ∙ ap (run_of runs) e in
      let k : suc i ≡ n - j = omega arith in
      drop-cons (turn c runs) i [] (omega (arith, turn-length c runs))
      ∙ ap₂ (λ (r : List ℕ) (k : ℕ). r ∷ drop k (turn c runs)) g k

  none_left : drop (length runs - 0) (turn c runs) ≡ []
  none_left = lib.ListN.drop_of_length-le (turn c runs) {i = length runs - 0} (omega (arith, turn-length c runs))

  before-total : (j : ℕ) → j ≤ length runs → before runs c j ≡ total (drop (length runs - j) (turn c runs))
  unfolding before total
  before-total zero h = sym (ap total none_left)
  before-total (suc j) h = omega (arith, ap total (tail_step j h), before-total j (omega arith))

  drop-count : (j : ℕ) → j ≤ length runs → length (drop (length runs - j) (turn c runs)) ≡ j
  drop-count j h = omega (arith, length-drop (length runs - j) (turn c runs), turn-length c runs)

  largest-most : (j : ℕ) → j ≤ length runs → largest runs c j ≡ most (drop (length runs - j) (turn c runs))
  unfolding largest most total
  largest-most zero h = sym (ap most none_left)
  largest-most (suc j) h =
      let t = drop (length runs - j) (turn c runs) in
      let r = run_of runs (c + length runs - suc j) in
      let b : before runs c (suc j) ≡ length r + total t = before-total (suc j) h ∙ ap total (tail_step j h) in
      max_comm (largest runs c j) (before runs c (suc j) - suc j)
      ∙ ap₂ max (ap₂ ◌-◌ b (ap suc (sym (drop-count j (omega arith))))) (largest-most j (omega arith))
      ∙ sym (ap most (tail_step j h))

most-tail : (ts : List (List ℕ)) → total ts < length ts → most (drop 1 ts) ≡ most ts
unfolding most total
most-tail [] h = refl
most-tail (r ∷ ts) h = omega arith

pub carry-pend : (runs : List (List ℕ)) (c : ℕ) → c < length runs → total runs < length runs → carry runs c ≡ length (pend (turn c runs))
unfolding carry
carry-pend runs c hc h =
    let one : length runs - (length runs - 1) ≡ 1 = omega arith in
    largest-most runs c hc (length runs - 1) (omega arith)
    ∙ ap (λ (k : ℕ). most (drop k (turn c runs))) one
    ∙ most-tail (turn c runs) (omega (arith, total-turn c runs, turn-length c runs))
    ∙ sym (pend-most (turn c runs))

-- ---- the unrolled circle: at every place i, what waits on arrival

unfoldable pub waits : List (List ℕ) → ℕ → List Entry
waits runs i = pend (turn (i % length runs) runs)

turn-all {ℓ} : {A : Type ℓ} (l : List A) → turn (length l) l ≡ turn 0 l
turn-all l = ap₂ (λ (a : List _) (b : List _). a ++ b) (lib.Seq.drop-length l) (lib.Seq.take-length l) ∙ sym (append-nil l)

pend-next : (runs : List (List ℕ)) (c : ℕ) → c < length runs → total runs < length runs → pend (turn (suc c) runs) ≡ rest (pend (turn c runs)) (get_or runs c [])
unfolding left
pend-next runs c hc h =
    let r = get_or runs c [] in
    let a = take c runs in
    let b = drop (suc c) runs in
    let d : drop c runs ≡ r ∷ b = drop-cons runs c [] hc in
    let t : take (suc c) runs ≡ a ++ (r ∷ []) = lib.Seq.take-suc runs c [] hc in
    let e₁ : turn c runs ≡ (r ∷ []) ++ (b ++ a) = ap (λ (l : List (List ℕ)). l ++ a) d in
    let e₂ : turn (suc c) runs ≡ (b ++ a) ++ (r ∷ []) = ap (λ (l : List (List ℕ)). b ++ l) t ∙ sym (append_assoc b a (r ∷ [])) in
    let small : total ((b ++ a) ++ (r ∷ [])) < length ((b ++ a) ++ (r ∷ [])) =
    omega (arith, total-turn (suc c) runs, turn-length (suc c) runs, ap total e₂, ap length e₂) in
    ap pend e₂ ∙ sym (turn-pend (r ∷ []) (b ++ a) small) ∙ ap (λ (l : List (List ℕ)). rest (pend l) r) (sym e₁)

pub waits-next : (runs : List (List ℕ)) (i : ℕ) → total runs < length runs → waits runs (suc i) ≡ rest (waits runs i) (run_of runs i)
unfolding waits
waits-next runs i h =
    let n = length runs in
    let c = i % n in
    let hc : c < n = native.Mathlib.Nat.mod-lt i (omega arith) in
    step (dec_lt (suc c) n) ∙ pend-next runs c hc h
  where
    step : Dec (suc (i % length runs) < length runs) → pend (turn (suc i % length runs) runs) ≡ pend (turn (suc (i % length runs)) runs)
    step (yes g) = ap (λ (k : ℕ). pend (turn k runs)) (suc-mod i (length runs) ∙ mod-eq_of_lt g)
    step (no g) =
        let e : suc (i % length runs) ≡ length runs = omega (arith, native.Mathlib.Nat.mod-lt i {m = length runs} (omega arith)) in
        let z : suc i % length runs ≡ 0 = suc-mod i (length runs) ∙ ap (λ (k : ℕ). k % length runs) e ∙ mod_self (length runs) in
        ap (λ (k : ℕ). pend (turn k runs)) z ∙ ap pend (sym (turn-all runs)) ∙ ap (λ (k : ℕ). pend (turn k runs)) (sym e)

-- ---- the entry of a slot

-- the word of an entry that has moved, but for the occupied bit
abbrev moved : Entry → ℕ
moved e = code e + 4

module _ (A : Type 0) (B : Type 0) (f : A → B) where
  get_or-map-left : (a b : List A) (i : ℕ) (z : B) → i < length a → get_or (map f (a ++ b)) i z ≡ get_or (map f a) i z
  get_or-map-left [] b i z h = absurd (omega arith)
  get_or-map-left (x ∷ a) b zero z h = refl
  get_or-map-left (x ∷ a) b (suc i) z h = get_or-map-left a b i z (omega arith)

  get_or-map-right : (a b : List A) (i : ℕ) (z : B) → length a ≤ i → get_or (map f (a ++ b)) i z ≡ get_or (map f b) (i - length a) z
  get_or-map-right [] b i z h = ap (λ (k : ℕ). get_or (map f b) k z) (sym (native.Mathlib.Nat.sub-zero i))
  get_or-map-right (x ∷ a) b zero z h = absurd (omega arith)
  get_or-map-right (x ∷ a) b (suc i) z h =
      get_or-map-right a b i z (omega arith) ∙ ap (λ (k : ℕ). get_or (map f b) k z) (sym (native.Mathlib.Nat.suc-sub-suc i (length a)))

  get_or-map-out : (a : List A) (i : ℕ) (z : B) → length a ≤ i → get_or (map f a) i z ≡ z
  get_or-map-out a i z h = lib.ListN.get_or-eq_default (map f a) z {n = i} (omega (arith, length-map a f))

next-at : (q : List Entry) (r : List ℕ) (i : ℕ) → get_or (map moved (q ++ mark r)) (suc i) 0 ≡ get_or (map moved (rest q r)) i 0
unfolding rest mark
next-at [] [] i = refl
next-at [] (x ∷ xs) i = refl
next-at (h ∷ q) r i = refl

more-at : (xs : List ℕ) (t : ℕ) → t < length xs → get_or (map moved (map more xs)) t 0 ≡ get_or xs t 0 * 8 + 2 + 4
more-at [] t h = absurd (omega arith)
more-at (x ∷ xs) zero h = refl
more-at (x ∷ xs) (suc t) h = more-at xs t (omega arith)

mark-at : (r : List ℕ) (t : ℕ) → t < length r → get_or (map moved (mark r)) t 0 ≡ get_or r t 0 * 8 + 1 * 4 + flag t * 2
unfolding mark
mark-at [] t h = absurd (omega arith)
mark-at (x ∷ xs) zero h = omega arith
mark-at (x ∷ xs) (suc t) h = more-at xs t (omega arith) ∙ (omega arith)

flag_one : (d : ℕ) → 1 ≤ d → flag d ≡ 1
flag_one zero h = absurd (omega arith)
flag_one (suc d) h = refl

-- at distance d from the slot: the entry is in this run, or waited for it already, or there is none
pick : (q : List Entry) (r : List ℕ) (k d other : ℕ) → k ≡ length q → 1 ≤ d → other ≡ get_or (map moved q) d 0
    → cond (leb k d) (cond (ltb (d - k) (length r)) (get_or r (d - k) 0 * 8 + flag d * 4 + flag (d - k) * 2) other) other
    ≡ get_or (map moved (q ++ mark r)) d 0
pick q r k d other ek hd eo = go (dec_lt d k)
  where
    mine : ℕ
    mine = get_or r (d - k) 0 * 8 + flag d * 4 + flag (d - k) * 2

    there : length q ≤ d → get_or (map moved (q ++ mark r)) d 0 ≡ get_or (map moved (mark r)) (d - k) 0
    there h = get_or-map-right Entry ℕ moved q (mark r) d 0 h ∙ ap (λ (j : ℕ). get_or (map moved (mark r)) (d - j) 0) (sym ek)

    inner : k ≤ d → Dec (d - k < length r) → cond (ltb (d - k) (length r)) mine other ≡ get_or (map moved (q ++ mark r)) d 0
    inner h (yes g) =
        ap (λ (b : Bool). cond b mine other) (lt-ltb (d - k) (length r) g)
        ∙ ap (λ (j : ℕ). get_or r (d - k) 0 * 8 + j * 4 + flag (d - k) * 2) (flag_one d hd)
        ∙ sym (mark-at r (d - k) g)
        ∙ sym (there (omega arith))
    inner h (no g) =
        ap (λ (b : Bool). cond b mine other) (le-ltb (d - k) (length r) (omega arith))
        ∙ eo
        ∙ get_or-map-out Entry ℕ moved q d 0 (omega arith)
        ∙ sym (get_or-map-out Entry ℕ moved (mark r) (d - k) 0 (omega (arith, mark-length r)))
        ∙ sym (there (omega arith))

    go : Dec (d < k) → cond (leb k d) (cond (ltb (d - k) (length r)) mine other) other ≡ get_or (map moved (q ++ mark r)) d 0
    go (yes h) =
        ap (λ (b : Bool). cond b (cond (ltb (d - k) (length r)) mine other) other) (lt-leb k d h)
        ∙ eo ∙ sym (get_or-map-left Entry ℕ moved q (mark r) d 0 (omega arith))
    go (no h) =
        ap (λ (b : Bool). cond b (cond (ltb (d - k) (length r)) mine other) other) (le-leb k d (omega arith))
        ∙ inner (omega arith) (dec_lt (d - k) (length r))

most-le : (rs : List (List ℕ)) → most rs ≤ total rs
unfolding most total
most-le [] = omega arith
most-le (r ∷ rs) = omega (arith, most-le rs)

pub room : (ts : List (List ℕ)) → total ts < length ts → length (pend ts) + length (get_or ts 0 []) ≤ total ts
unfolding total
room [] h = absurd (omega arith)
room (r ∷ rs) h = omega (arith, pend-most (r ∷ rs), most-tail (r ∷ rs) h, most-le rs)

module _ (runs : List (List ℕ)) (h : total runs < length runs) where
  carry-waits : (i : ℕ) → carry runs (i % length runs) ≡ length (waits runs i)
  unfolding waits
  carry-waits i = carry-pend runs (i % length runs) (mod-lt i (omega arith)) h

  waits-room : (i : ℕ) → length (waits runs i) + length (run_of runs i) ≤ total runs
  unfolding waits
  waits-room i =
      let c = i % length runs in
      let hc : c < length runs = mod-lt i (omega arith) in
      let e : get_or (turn c runs) 0 [] ≡ run_of runs i =
      turn_low c runs 0 [] (omega arith) ∙ ap (λ (k : ℕ). get_or runs k []) (native.Mathlib.Nat.add-zero c) in
      omega (arith, room (turn c runs) (omega (arith, total-turn c runs, turn-length c runs)), ap length e, total-turn c runs)

  module _ (s : ℕ) where
    other_at : (n d : ℕ) → suc d + n ≡ length runs
        → entry_at runs s (suc d) n ≡ get_or (map moved (waits runs (s + length runs - suc d) ++ mark (run_of runs (s + length runs - suc d)))) (suc d) 0
        → entry_at runs s (suc d) n ≡ get_or (map moved (waits runs (s + length runs - d))) d 0
    other_at n d e ih =
        let i = s + length runs - suc d in
        let f : suc i ≡ s + length runs - d = omega arith in
        ih ∙ next-at (waits runs i) (run_of runs i) d
        ∙ ap (λ (q : List Entry). get_or (map moved q) d 0) (sym (waits-next runs i h) ∙ ap (waits runs) f)

    entry-at : (n d : ℕ) → d + n ≡ length runs → 1 ≤ d
        → entry_at runs s d n ≡ get_or (map moved (waits runs (s + length runs - d) ++ mark (run_of runs (s + length runs - d)))) d 0
    unfolding entry_at
    entry-at zero d e hd =
        let i = s + length runs - d in
        sym (get_or-map-out Entry ℕ moved (waits runs i ++ mark (run_of runs i)) d 0
        (omega (arith, waits-room i, length-append (waits runs i) (mark (run_of runs i)), mark-length (run_of runs i))))
    entry-at (suc n) d e hd =
        let i = s + length runs - d in
        pick (waits runs i) (run_of runs i) (carry runs (i % length runs)) d (entry_at runs s (suc d) n) (carry-waits i) hd
        (other_at n d (omega arith) (entry-at n (suc d) (omega arith) (omega arith)))

flag-occupied : (r : List ℕ) → flag (length r) ≡ occupied r
flag-occupied [] = refl
flag-occupied (x ∷ r) = refl

-- at distance 0
own : (q : List Entry) (r : List ℕ) (k other : ℕ) → k ≡ length q → other ≡ get_or (map moved q) 0 0
    → cond (leb k 0) (cond (ltb (0 - k) (length r)) (get_or r (0 - k) 0 * 8 + flag 0 * 4 + flag (0 - k) * 2) other) other + flag (length r) ≡ emit q r
unfolding emit
own [] [] k other ek eo =
    ap (λ (j : ℕ). cond (leb j 0) (cond (ltb (0 - j) 0) (0 * 8 + flag 0 * 4 + flag (0 - j) * 2) other) other + 0) ek ∙ ap (λ (j : ℕ). j + 0) eo
own [] (x ∷ xs) k other ek eo =
    ap (λ (j : ℕ). cond (leb j 0) (cond (ltb (0 - j) (suc (length xs))) (get_or (x ∷ xs) (0 - j) 0 * 8 + flag 0 * 4 + flag (0 - j) * 2) other) other + 1) ek
    ∙ ap (λ (b : Bool). cond b (x * 8 + 0 * 4 + 0 * 2) other + 1) (lt-ltb 0 (suc (length xs)) (omega arith))
    ∙ (omega arith)
own (h ∷ q) r k other ek eo =
    ap (λ (b : Bool). cond b (cond (ltb (0 - k) (length r)) (get_or r (0 - k) 0 * 8 + flag 0 * 4 + flag (0 - k) * 2) other) other + flag (length r)) (lt-leb k 0 (omega arith))
    ∙ ap₂ ◌+◌ eo (flag-occupied r)

module _ (runs : List (List ℕ)) (h : total runs < length runs) where
  pub layout-at : (s : ℕ) → s < length runs → get_or (layout runs) s 0 ≡ emit (pend (turn s runs)) (get_or runs s [])
  unfolding scan
  layout-at s hs =
      let a = take s runs in
      let b = drop s runs in
      let sp : a ++ b ≡ runs = take-append-drop s runs in
      let d : b ≡ get_or runs s [] ∷ drop (suc s) runs = drop-cons runs s [] hs in
      let n : length (scan a (pend (a ++ b))) ≡ s = scan-length a (pend (a ++ b)) ∙ length-take-le s runs (omega arith) in
      ap (λ (l : List (List ℕ)). get_or (layout l) s 0) (sym sp)
      ∙ ap (λ (l : List ℕ). get_or l s 0) (layout-split a b (rw sp h) ∙ ap (λ (l : List (List ℕ)). scan a (pend (a ++ b)) ++ scan l (pend (b ++ a))) d)
      ∙ lib.Seq.get_or_at (scan a (pend (a ++ b))) (emit (pend (turn s runs)) (get_or runs s [])) _ 0 s n

  word-at : (s : ℕ) → s < length runs → word_at runs s ≡ emit (pend (turn s runs)) (get_or runs s [])
  unfolding word_at entry_at waits
  word-at s hs = go (length runs) refl
    where
      i : ℕ
      i = s + length runs - 0

      m : i % length runs ≡ s
      m = ap (λ (k : ℕ). k % length runs) (native.Mathlib.Nat.sub-zero (s + length runs)) ∙ add-mod_right s (length runs) ∙ mod-eq_of_lt hs

      r : run_of runs i ≡ get_or runs s []
      r = ap (λ (k : ℕ). get_or runs k []) m

      go : (n : ℕ) → length runs ≡ n → entry_at runs s 0 (length runs) + flag (length (get_or runs s [])) ≡ emit (pend (turn s runs)) (get_or runs s [])
      go zero e = absurd (omega arith)
      go (suc n) e =
          ap₂ (λ (k : ℕ) (x : List ℕ). entry_at runs s 0 k + flag (length x)) e (sym r)
          ∙ own (waits runs i) (run_of runs i) (carry runs (i % length runs)) (entry_at runs s 1 n) (carry-waits runs h i)
          (other_at runs h s n 0 (omega arith) (entry-at runs h s n 1 (omega arith) (omega arith)))
          ∙ ap₂ (λ (k : ℕ) (x : List ℕ). emit (pend (turn k runs)) x) m r

  words-from : (n s : ℕ) → s + n ≡ length runs → words_from runs s n ≡ drop s (layout runs)
  unfolding words_from
  words-from zero s e = sym (lib.ListN.drop_of_length-le (layout runs) {i = s} (unfold layout in omega (arith, scan-length runs (pend runs))))
  words-from (suc n) s e =
      ap₂ (λ (w : ℕ) (l : List ℕ). w ∷ l) (word-at s (omega arith) ∙ sym (layout-at s (omega arith))) (words-from n (suc s) (omega arith))
      ∙ sym (drop-cons (layout runs) s 0 (unfold layout in omega (arith, scan-length runs (pend runs))))

  -- the document's table is the machine's
  pub table-layout : table runs ≡ layout runs
  unfolding table
  table-layout = words-from (length runs) 0 (omega arith)

-- where the walks find the place of an address's run: as far on as the document says
pub place-of : (runs : List (List ℕ)) (c : ℕ) → c < length runs → total runs < length runs → place_of (layout runs) c ≡ carry runs c
unfolding place_of
place-of runs c hc h =
    let r = get_or runs c [] in
    let a = take c runs in
    let b = drop (suc c) runs in
    let d : drop c runs ≡ r ∷ b = drop-cons runs c [] hc in
    let t : take (suc c) runs ≡ a ++ (r ∷ []) = lib.Seq.take-suc runs c [] hc in
    let e₁ : turn c runs ≡ (r ∷ []) ++ (b ++ a) = ap (λ (l : List (List ℕ)). l ++ a) d in
    let e₂ : turn (suc c) runs ≡ (b ++ a) ++ (r ∷ []) = ap (λ (l : List (List ℕ)). b ++ l) t ∙ sym (append_assoc b a (r ∷ [])) in
    let small : total ((b ++ a) ++ (r ∷ [])) < length ((b ++ a) ++ (r ∷ [])) =
    omega (arith, total-turn (suc c) runs, turn-length (suc c) runs, ap total e₂, ap length e₂) in
    let small' : total ((r ∷ []) ++ (b ++ a)) < length ((r ∷ []) ++ (b ++ a)) =
    omega (arith, total-turn c runs, turn-length c runs, ap total e₁, ap length e₁) in
    ap last_place (turn-layout (suc c) runs hc h ∙ ap layout e₂)
    ∙ last-place (b ++ a) r small
    ∙ ap length (turn-pend (b ++ a) (r ∷ []) small' ∙ ap pend (sym e₁))
    ∙ sym (carry-pend runs c hc h)

-- the document's carry goes from slot to slot, in a circle
pub carry-next : (runs : List (List ℕ)) (i : ℕ) → total runs < length runs → carry runs (suc i % length runs) ≡ carry runs (i % length runs) + length (run_of runs i) - 1
carry-next runs i h =
    carry-waits runs h (suc i) ∙ ap length (waits-next runs i h) ∙ rest-length (waits runs i) (run_of runs i)
    ∙ ap (λ (k : ℕ). k + length (run_of runs i) - 1) (sym (carry-waits runs h i))

-- there is an empty slot, and what comes after it is met with nothing waiting
pub record Empty (runs : List (List ℕ)) : Type 0 where
  pub slot : ℕ
  pub within : slot < length runs
  pub no_run : get_or runs slot [] ≡ []
  pub no_carry : carry runs slot ≡ 0
  pub word : get_or (layout runs) slot 0 ≡ 0
  pub next : carry runs (suc slot % length runs) ≡ 0

pub empty-slot : (runs : List (List ℕ)) → total runs < length runs → Empty runs
empty-slot runs h = go (lap runs (pend runs))
  where
    make : (a b : List (List ℕ)) → runs ≡ a ++ ([] ∷ b) → left a (pend runs) ≡ [] → Empty runs
    make a b sp none =
        let e = length a in
        let r = [] ∷ b in
        let hs : e < length runs = omega (arith, ap length sp, length-append a r) in
        let g : get_or runs e [] ≡ [] = ap (λ (l : List (List ℕ)). get_or l e []) sp ∙ lib.Seq.get_or-append_seam a [] b [] in
        let t : turn e runs ≡ r ++ a =
        ap (turn e) sp ∙ ap₂ (λ (x y : List (List ℕ)). x ++ y) (drop_at a r e refl) (take_at a r e refl) in
        let small : total (r ++ a) < length (r ++ a) = omega (arith, ap total t, ap length t, total-turn e runs, turn-length e runs) in
        let q : pend (turn e runs) ≡ [] =
        ap pend t ∙ sym (turn-pend a r small) ∙ ap (λ (l : List (List ℕ)). left a (pend l)) (sym sp) ∙ none in
        let c : carry runs e ≡ 0 = carry-pend runs e hs h ∙ ap length q in
        let m : e % length runs ≡ e = mod-eq_of_lt hs in
        record {
          slot = e;
          within = hs;
          no_run = g;
          no_carry = c;
          word = layout-at runs h e hs ∙ ap₂ emit q g ∙ none-stored;
          next = carry-next runs e h ∙ ap₂ (λ (x : ℕ) (y : ℕ). carry runs x + length (get_or runs y []) - 1) m m ∙ (omega (arith, c, ap length g));
        }
      where
        none-stored : emit [] [] ≡ 0
        none-stored = unfold emit in refl

    go : Gap runs (pend runs) ⊎ (length (left runs (pend runs)) + length runs ≡ length (pend runs) + total runs) → Empty runs
    go (inl g) = make g.before g.after g.split g.none
    go (inr e) = absurd (omega (arith, ap length (seam runs h)))
