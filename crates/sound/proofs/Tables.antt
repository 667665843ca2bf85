-- A lap from an empty slot is good exactly if the table is right, since a layout can be begun at any slot; a table with no empty slot is not right.
use mathlib.Core.Path.{◌≡◌, refl, sym, ap, ap₂, ◌∙◌}
use mathlib.Core.Bool.{Bool, true, false, ◌&&◌}
use mathlib.Core.List.{List, [], ◌∷◌}
use Prim.Native.Nat.{ℕ, zero, suc, ◌+◌, ◌-◌, ◌<◌}
use native.Mathlib.Omega.{arith}
use borrow.Author.Tests.{eqb-true, leb-true, eq-eqb, le-leb}
use lib.Dec.{eqb, leb}
use lib.ListN.{length, take, drop, get_or}
use Rattle.lists.specs.Lists.{every, same}
use Rattle.lists.specs.Runs.{Runs, rising, rises_from, total}
use Rattle.lists.proofs.Tests.{no_true, test-true, true-test, same_test, same→eq, same_refl}
use Rattle.lists.proofs.Alls.{All}
use Rattle.layout.specs.Machine.{Entry, emit, scan, left, pend, layout}
use Rattle.layout.specs.Decode.{turn, decode}
use Rattle.layout.proofs.Round.{marks, turn-layout, decode-layout}
use Rattle.layout.proofs.Same.{turn-length, turn_low, total-turn, empty-slot}
use Rattle.layout.proofs.Bridge.{turn-back}
use Rattle.layout.proofs.Puts.{layout-length}
use Rattle.rules.specs.Sound.{laid, table_right}
use Rattle.sound.specs.Lap.{start, fits}
use Rattle.sound.specs.Reading.{Laid}
use Rattle.sound.proofs.Laps.{Rises, Run, After, queue, and-true, true-and, all_append, sound, complete}

-- ---- tests and what they say

rises-tests : (f : ℕ → Bool) (x : ℕ) (xs : List ℕ) → Rises f x xs → (rises_from x xs ≡ true) × (every f xs ≡ true)
unfolding Rises rises_from every
rises-tests f x [] h = (refl, refl)
rises-tests f x (y ∷ ys) h =
    let t = rises-tests f y ys h.2 in
    (true-and (leb x y) (rises_from y ys) (le-leb x y h.0) t.0, true-and (f y) (every f ys) h.1 t.1)

tests-rise : (f : ℕ → Bool) (x : ℕ) (xs : List ℕ) → rises_from x xs ≡ true → every f xs ≡ true → Rises f x xs
unfolding Rises rises_from every
tests-rise f x [] a b = tt
tests-rise f x (y ∷ ys) a b =
    let s = and-true (leb x y) (rises_from y ys) a in
    let t = and-true (f y) (every f ys) b in
    (leb-true x y s.0, t.0, tests-rise f y ys s.1 t.1)

run-right : (f : ℕ → Bool) (r : List ℕ) → Run f r → (rising r ≡ true) × (every f r ≡ true)
unfolding Run rising every
run-right f [] h = (refl, refl)
run-right f (x ∷ xs) h =
    let t = rises-tests f x xs h.1 in
    (t.0, true-and (f x) (every f xs) h.0 t.1)

right-run : (f : ℕ → Bool) (r : List ℕ) → rising r ≡ true → every f r ≡ true → Run f r
unfolding Run rising every
right-run f [] a b = tt
right-run f (x ∷ xs) a b =
    let t = and-true (f x) (every f xs) b in
    (t.0, tests-rise f x xs a t.1)

all_right : (f : ℕ → Bool) (rs : Runs) → All (Run f) rs → (every rising rs ≡ true) × (every (every f) rs ≡ true)
unfolding every
all_right f [] h = (refl, refl)
all_right f (r ∷ rs) h =
    let s = run-right f r h.0 in
    let t = all_right f rs h.1 in
    (true-and (rising r) (every rising rs) s.0 t.0, true-and (every f r) (every (every f) rs) s.1 t.1)

right-all : (f : ℕ → Bool) (rs : Runs) → every rising rs ≡ true → every (every f) rs ≡ true → All (Run f) rs
unfolding every
right-all f [] a b = tt
right-all f (r ∷ rs) a b =
    let s = and-true (rising r) (every rising rs) a in
    let t = and-true (every f r) (every (every f) rs) b in
    (right-run f r s.0 t.0, right-all f rs s.1 t.1)

-- ---- a circle begun elsewhere

all_take : {A : Type 0} (P : A → Type 0) (c : ℕ) (l : List A) → All P l → All P (take c l)
all_take P zero l h = tt
all_take P (suc c) [] h = tt
all_take P (suc c) (x ∷ l) h = (h.0, all_take P c l h.1)

all_drop : {A : Type 0} (P : A → Type 0) (c : ℕ) (l : List A) → All P l → All P (drop c l)
all_drop P zero l h = h
all_drop P (suc c) [] h = tt
all_drop P (suc c) (x ∷ l) h = all_drop P c l h.1

all-turn : {A : Type 0} (P : A → Type 0) (c : ℕ) (l : List A) → All P l → All P (turn c l)
all-turn P c l h = all_append P (drop c l) (take c l) (all_drop P c l h) (all_take P c l h)

-- ---- a right table

pub record Table (f : ℕ → Bool) (n : ℕ) (words : List ℕ) : Type 0 where
  pub runs : Runs
  pub good : All (Run f) runs
  pub count : total runs ≡ n
  pub is : words ≡ layout runs

module _ (f : ℕ → Bool) (n : ℕ) (words : List ℕ) where
  pub table-right : n < length words → Table f n words → table_right f n words ≡ true
  unfolding table_right laid
  table-right h t =
      let runs = t.runs in
      let small : total runs < length runs = omega (arith, t.count, ap length t.is, layout-length runs) in
      let d : decode words ≡ runs = ap decode t.is ∙ decode-layout runs small in
      let g = all_right f runs t.good in
      let s : same words (layout (decode words)) ≡ true = ap (same words) (ap layout d ∙ sym t.is) ∙ test-true (same words words) (same_refl words) in
      true-and (every rising (decode words) && same words (layout (decode words))) (every (every f) (decode words) && eqb (total (decode words)) n)
      (true-and (every rising (decode words)) (same words (layout (decode words))) (ap (every rising) d ∙ g.0) s)
      (true-and (every (every f) (decode words)) (eqb (total (decode words)) n) (ap (every (every f)) d ∙ g.1)
      (eq-eqb (total (decode words)) n (ap total d ∙ t.count)))

  pub right-table : table_right f n words ≡ true → Table f n words
  unfolding table_right laid
  right-table e =
      let a = and-true (every rising (decode words) && same words (layout (decode words))) (every (every f) (decode words) && eqb (total (decode words)) n) e in
      let s = and-true (every rising (decode words)) (same words (layout (decode words))) a.0 in
      let t = and-true (every (every f) (decode words)) (eqb (total (decode words)) n) a.1 in
      record {
        runs = decode words;
        good = right-all f (decode words) s.0 t.0;
        count = eqb-true (total (decode words)) n t.1;
        is = same→eq words (layout (decode words)) (true-test (same words (layout (decode words))) s.1);
      }

-- a right table is laid
pub right-laid : (f : ℕ → Bool) (n : ℕ) (words : List ℕ) → n < length words → table_right f n words ≡ true → Laid words
right-laid f n words h e =
    let t = right-table f n words e in
    let small : total t.runs < length t.runs = omega (arith, t.count, ap length t.is, layout-length t.runs) in
    let d : decode words ≡ t.runs = ap decode t.is ∙ decode-layout t.runs small in
    record { is = t.is ∙ ap layout (sym d); small = omega (arith, t.count, ap total d) }

-- ---- the lap from an empty slot

emit-empty : (q : List Entry) (r : List ℕ) → emit q r ≡ 0 → q ≡ []
unfolding emit
emit-empty [] r e = refl
emit-empty (h ∷ q) r e = absurd (omega arith)

scan-empty : (ts : Runs) (q : List Entry) → 0 < length ts → get_or (scan ts q) 0 0 ≡ 0 → q ≡ []
unfolding scan
scan-empty [] q h e = absurd (omega arith)
scan-empty (r ∷ ts) q h e = emit-empty q r e

module _ (f : ℕ → Bool) (n : ℕ) (words : List ℕ) (z : ℕ) (hz : z < length words) (hn : n < length words) where
  pub lap-table : fits f n start (turn z words) ≡ true → Table f n words
  unfolding After layout pend marks total
  lap-table e =
      let r = sound f n (turn z words) start (omega arith) e in
      let rs = r.rs in
      let ex : r.xs ≡ [] = r.going in
      let eu : r.us ≡ [] = Rattle.layout.proofs.Laws.empty r.us (omega (arith, r.waits)) in
      let q : queue r.xs r.us ≡ [] = ap₂ queue ex eu in
      let p : pend rs ≡ [] = ap (left rs) (sym q) ∙ r.none in
      let w : layout rs ≡ turn z words = ap (scan rs) (p ∙ sym q) ∙ r.words in
      let l : length rs ≡ length words = sym (layout-length rs) ∙ ap length w ∙ turn-length z words in
      let c : total rs ≡ n = omega (arith, r.count, ap length ex, ap total eu) in
      let k = length words - z in
      record {
        runs = turn k rs;
        good = all-turn (Run f) k rs r.good;
        count = total-turn k rs ∙ c;
        is = sym (turn-back z words (omega arith)) ∙ ap (turn k) (sym w) ∙ turn-layout k rs (omega arith) (omega arith);
      }

  pub table-lap : get_or words z 0 ≡ 0 → Table f n words → fits f n start (turn z words) ≡ true
  unfolding After layout pend marks total
  table-lap e t =
      let runs = t.runs in
      let ts = turn z runs in
      let l : length runs ≡ length words = sym (layout-length runs) ∙ ap length (sym t.is) in
      let w : turn z words ≡ layout ts = ap (turn z) t.is ∙ turn-layout z runs (omega arith) (omega (arith, t.count)) in
      let a : z + 0 ≡ z = omega arith in
      let g : get_or (layout ts) 0 0 ≡ 0 =
      ap (λ (x : List ℕ). get_or x 0 0) (sym w) ∙ turn_low z words 0 0 (omega arith) ∙ ap (λ (i : ℕ). get_or words i 0) a ∙ e in
      let p : pend ts ≡ [] = scan-empty ts (pend ts) (omega (arith, turn-length z runs)) g in
      ap (fits f n start) (w ∙ ap (scan ts) p)
      ∙ complete f n ts [] [] start refl tt (omega arith) (all-turn (Run f) z runs t.good) p (omega (arith, total-turn z runs, t.count))

  -- the law of the code that has found an empty slot
  pub found : (r : Bool) → get_or words z 0 ≡ 0 → r ≡ fits f n start (turn z words) → r ≡ table_right f n words
  found r e er =
      er
      ∙ same_test (fits f n start (turn z words)) (table_right f n words)
      (λ h. table-right f n words hn (lap-table h)) (λ h. table-lap e (right-table f n words h))

-- and of that which has found none
pub not_found : (f : ℕ → Bool) (n : ℕ) (words : List ℕ) → n < length words → ((k : ℕ) → k < length words → get_or words k 0 ≡ 0 → ⊥)
    → false ≡ table_right f n words
not_found f n words hn h =
    same_test false (table_right f n words) (λ e. absurd (no_true e)) (λ e. absurd (none (right-table f n words e)))
  where
    none : Table f n words → ⊥
    none t =
        let l : length t.runs ≡ length words = sym (layout-length t.runs) ∙ ap length (sym t.is) in
        let s = empty-slot t.runs (omega (arith, t.count)) in
        h s.slot (omega (arith, s.within)) (ap (λ (x : List ℕ). get_or x s.slot 0) t.is ∙ s.word)
