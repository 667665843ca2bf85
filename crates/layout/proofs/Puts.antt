-- The function that puts an entry in, path by path, and the whole insert.
use mathlib.Core.Path.{◌≡◌, refl, sym, ap, ap₂, ◌∙◌}
use mathlib.Core.List.{List, [], ◌∷◌, ◌++◌, append_assoc}
use Prim.Native.Nat.{ℕ, zero, suc, ◌+◌, ◌*◌, ◌-◌, ◌/◌, ◌%◌, ◌≤◌, ◌<◌}
use native.Mathlib.Omega.{arith}
use lib.Dec.{leb}
use lib.ListN.{length, take, drop, get_or, set, length-set, take-append-drop}
use lib.Seq.{drop-cons, take-suc-set, drop-set-lt, length-take-le}
use Rattle.layout.specs.Machine.{Entry, start, more, occupied, pend, layout}
use Rattle.lists.specs.Runs.{total}
use Rattle.layout.specs.Decode.{turn, entry, entry_of, place_of, run_at}
use Rattle.layout.specs.Document.{carry}
use Rattle.layout.specs.Moves.{wrap, push, if_empty, going, slide, insert_at}
use Rattle.layout.specs.Reading.{index}
use Rattle.lists.specs.Runs.{add}
use Rattle.layout.proofs.Laws.{scan-length}
use Rattle.layout.proofs.Round.{run-at, occupied-bit}
use Rattle.layout.proofs.Same.{turn-length, total-turn, turn_low, room, carry-pend, place-of, layout-at}
use Rattle.layout.proofs.Bridge.{get-low, set-low, get-wrap, set-wrap, turn-injective}
use Rattle.layout.proofs.Calls.{insert-at}
use Rattle.layout.proofs.Searches.{index-le, add_at}

-- ---- entries of words

pub entry-late : (p : ℕ) → entry (p * 8 + 2) ≡ more p
unfolding entry
entry-late p = ap₂ entry_of a b
  where
    a : (p * 8 + 2) / 2 % 2 ≡ 1
    a = omega arith

    b : (p * 8 + 2) / 8 ≡ p
    b = omega arith

pub entry_new : (p : ℕ) → entry (p * 8) ≡ start p
unfolding entry
entry_new p = ap₂ entry_of a b
  where
    a : p * 8 / 2 % 2 ≡ 0
    a = omega arith

    b : p * 8 / 8 ≡ p
    b = omega arith

-- ---- over the circle begun at the address

home-empty : (l : List ℕ) (u o x : ℕ) → 0 < length l → get_or l 0 0 ≡ 0 → set l 0 (x * 8 + 1) ≡ insert_at u o 0 x l
unfolding insert_at
home-empty [] u o x h z = absurd (omega arith)
home-empty (w ∷ l) u o x h z = ap (λ (b : ℕ). (x * 8 + 1) ∷ if_empty b l (push (more (w / 8)) l)) (sym z)

home-used : (l : List ℕ) (u o x : ℕ) → 0 < length l → (get_or l 0 0 ≡ 0 → ⊥) → going (set l 0 (x * 8 + 1)) (get_or l 0 0 / 8 * 8 + 2) 1 ≡ insert_at u o 0 x l
unfolding insert_at going
home-used [] u o x h n = absurd (omega arith)
home-used (w ∷ l) u o x h n =
    ap (λ (e : Entry). (x * 8 + 1) ∷ push e l) (entry-late (w / 8)) ∙ ap (λ (t : List ℕ). (x * 8 + 1) ∷ t) (go w n (push (more (w / 8)) l))
  where
    go : (w : ℕ) → (w ≡ 0 → ⊥) → (b : List ℕ) → b ≡ if_empty w l b
    go zero n b = absurd (n refl)
    go (suc w) n b = refl

away : (l : List ℕ) (k v h : ℕ) (f : List ℕ → List ℕ) → 0 < length l → ((t : List ℕ) → push (entry h) t ≡ f t)
    → going (set l 0 v) h (suc k) ≡ v ∷ (take k (drop 1 l) ++ f (drop k (drop 1 l)))
unfolding going
away [] k v h f p e = absurd (omega arith)
away (w ∷ l) k v h f p e = ap (λ (t : List ℕ). v ∷ (take k l ++ t)) (e (drop k l))

insert-away : (l : List ℕ) (u o k x : ℕ) → 0 < length l → insert_at u o (suc k) x l ≡ (get_or l 0 0 / 2 * 2 + 1) ∷ (take k (drop 1 l) ++ slide u o x (drop k (drop 1 l)))
unfolding insert_at
insert-away [] u o k x h = absurd (omega arith)
insert-away (w ∷ l) u o k x h = refl

away-new : (l : List ℕ) (k x : ℕ) → 0 < length l → going (set l 0 (get_or l 0 0 / 2 * 2 + 1)) (x * 8) (suc k) ≡ insert_at 0 0 (suc k) x l
unfolding slide
away-new l k x h =
    away l k (get_or l 0 0 / 2 * 2 + 1) (x * 8) (push (start x)) h (λ t. ap (λ (e : Entry). push e t) (entry_new x)) ∙ sym (insert-away l 0 0 k x h)

away-later : (l : List ℕ) (u o k x : ℕ) → 0 < length l → going (set l 0 (get_or l 0 0 / 2 * 2 + 1)) (x * 8 + 2) (suc k) ≡ insert_at (suc u) o (suc k) x l
unfolding slide
away-later l u o k x h =
    away l k (get_or l 0 0 / 2 * 2 + 1) (x * 8 + 2) (push (more x)) h (λ t. ap (λ (e : Entry). push e t) (entry-late x)) ∙ sym (insert-away l (suc u) o k x h)

away-head : (l : List ℕ) (o k x : ℕ) → suc k < length l
    → going (set (set l 0 (get_or l 0 0 / 2 * 2 + 1)) (suc k) (x * 8 + 4 + get_or l (suc k) 0 % 2)) (get_or l (suc k) 0 / 8 * 8 + 2) (suc (suc k)) ≡ insert_at 0 (suc o) (suc k) x l
unfolding going slide insert_at
away-head [] o k x h = absurd (omega arith)
away-head (w ∷ l) o k x h =
    let v = get_or l k 0 in
    let y = x * 8 + 4 + v % 2 in
    let s = w / 2 * 2 + 1 in
    let t = drop (suc k) l in
    ap₂ (λ (a b : List ℕ). s ∷ (a ++ push (entry (v / 8 * 8 + 2)) b)) (take-suc-set l k y (omega arith)) (drop-set-lt (suc k) l k y (omega arith))
    ∙ ap (λ (e : Entry). s ∷ ((take k l ++ (y ∷ [])) ++ push e t)) (entry-late (v / 8))
    ∙ ap (λ (a : List ℕ). s ∷ a) (append_assoc (take k l) (y ∷ []) (push (more (v / 8)) t))
    ∙ ap (λ (d : List ℕ). s ∷ (take k l ++ slide 0 (suc o) x d)) (sym (drop-cons l k 0 (omega arith)))

-- ---- the same, of the words

module _ (ws : List ℕ) (c : ℕ) (hc : c < length ws) where
  pub own-word : get_or ws c 0 ≡ get_or (turn c ws) 0 0
  own-word = ap (λ (i : ℕ). get_or ws i 0) (sym (native.Mathlib.Nat.add-zero c)) ∙ get-low c ws 0 0 (omega arith)

  pub own-set : (v : ℕ) → turn c (set ws c v) ≡ set (turn c ws) 0 v
  own-set v = ap (λ (i : ℕ). turn c (set ws i v)) (sym (native.Mathlib.Nat.add-zero c)) ∙ set-low c ws 0 v (omega arith)

  some : 0 < length (turn c ws)
  some = omega (arith, turn-length c ws)

  module _ (k u o x : ℕ) where
    pub put-home : k ≡ 0 → get_or ws c 0 ≡ 0 → turn c (set ws c (x * 8 + 1)) ≡ insert_at u o k x (turn c ws)
    put-home e z = own-set (x * 8 + 1) ∙ home-empty (turn c ws) u o x some (sym own-word ∙ z) ∙ ap (λ (j : ℕ). insert_at u o j x (turn c ws)) (sym e)

    pub put-push : (ws' : List ℕ) → k ≡ 0 → (get_or ws c 0 ≡ 0 → ⊥) → turn c ws' ≡ going (turn c (set ws c (x * 8 + 1))) (get_or ws c 0 / 8 * 8 + 2) 1
        → turn c ws' ≡ insert_at u o k x (turn c ws)
    put-push ws' e n d =
        d ∙ ap₂ (λ (l : List ℕ) (w : ℕ). going l (w / 8 * 8 + 2) 1) (own-set (x * 8 + 1)) own-word
        ∙ home-used (turn c ws) u o x some (λ z. n (own-word ∙ z))
        ∙ ap (λ (j : ℕ). insert_at u o j x (turn c ws)) (sym e)

    mark : ℕ
    mark = get_or ws c 0 / 2 * 2 + 1

    marked : turn c (set ws c (get_or ws c 0 / 2 * 2 + 1)) ≡ set (turn c ws) 0 (get_or (turn c ws) 0 0 / 2 * 2 + 1)
    marked = own-set (get_or ws c 0 / 2 * 2 + 1) ∙ ap (λ (w : ℕ). set (turn c ws) 0 (w / 2 * 2 + 1)) own-word

    module _ (nz : k ≡ 0 → ⊥) where
      up : k ≡ suc (k - 1)
      up = omega arith

      pub put-new : (ws' : List ℕ) → u ≡ 0 → o ≡ 0 → turn c ws' ≡ going (turn c (set ws c (get_or ws c 0 / 2 * 2 + 1))) (x * 8) k
          → turn c ws' ≡ insert_at u o k x (turn c ws)
      put-new ws' eu eo d =
          d ∙ ap₂ (λ (l : List ℕ) (j : ℕ). going l (x * 8) j) marked up ∙ away-new (turn c ws) (k - 1) x some
          ∙ ap (λ (j : ℕ). insert_at 0 0 j x (turn c ws)) (sym up) ∙ ap₂ (λ (a b : ℕ). insert_at a b k x (turn c ws)) (sym eu) (sym eo)

      pub put-later : (ws' : List ℕ) → (u ≡ 0 → ⊥) → turn c ws' ≡ going (turn c (set ws c (get_or ws c 0 / 2 * 2 + 1))) (x * 8 + 2) k
          → turn c ws' ≡ insert_at u o k x (turn c ws)
      put-later ws' nu d =
          let v : suc (u - 1) ≡ u = omega arith in
          d ∙ ap₂ (λ (l : List ℕ) (j : ℕ). going l (x * 8 + 2) j) marked up ∙ away-later (turn c ws) (u - 1) o (k - 1) x some
          ∙ ap₂ (λ (a j : ℕ). insert_at a o j x (turn c ws)) v (sym up)

      -- ws₁ is with the mark, and i the slot of the run's first entry
      pub put-head : (ws' ws₁ : List ℕ) (n i : ℕ) → ws₁ ≡ set ws c (get_or ws c 0 / 2 * 2 + 1) → length ws ≡ n → k < n → i ≡ wrap n c k → u ≡ 0 → (o ≡ 0 → ⊥)
          → turn c ws' ≡ going (turn c (set ws₁ i (x * 8 + 4 + get_or ws₁ i 0 % 2))) (get_or ws₁ i 0 / 8 * 8 + 2) (k + 1)
          → turn c ws' ≡ insert_at u o k x (turn c ws)
      put-head ws' ws₁ n i e₁ hn hk ei eu oz d =
          let l = turn c ws in
          let n₁ : length ws₁ ≡ length ws = ap length e₁ ∙ length-set ws c (get_or ws c 0 / 2 * 2 + 1) in
          let t₁ : turn c ws₁ ≡ set l 0 (get_or l 0 0 / 2 * 2 + 1) = ap (turn c) e₁ ∙ marked in
          let i₁ : i ≡ wrap (length ws₁) c k = ei ∙ ap (λ (m : ℕ). wrap m c k) (sym hn ∙ sym n₁) in
          let g : get_or ws₁ i 0 ≡ get_or l (suc (k - 1)) 0 =
          ap (λ (j : ℕ). get_or ws₁ j 0) i₁ ∙ get-wrap ws₁ c k (omega arith) (omega arith) 0
          ∙ ap₂ (λ (t : List ℕ) (j : ℕ). get_or t j 0) t₁ up ∙ get-past l (k - 1) (get_or l 0 0 / 2 * 2 + 1) in
          let s : turn c (set ws₁ i (x * 8 + 4 + get_or ws₁ i 0 % 2)) ≡ set (set l 0 (get_or l 0 0 / 2 * 2 + 1)) (suc (k - 1)) (x * 8 + 4 + get_or l (suc (k - 1)) 0 % 2) =
          ap (λ (j : ℕ). turn c (set ws₁ j (x * 8 + 4 + get_or ws₁ i 0 % 2))) i₁
          ∙ set-wrap ws₁ c k (omega arith) (omega arith) (x * 8 + 4 + get_or ws₁ i 0 % 2)
          ∙ ap₂ (λ (t : List ℕ) (j : ℕ). set t j (x * 8 + 4 + get_or ws₁ i 0 % 2)) t₁ up
          ∙ ap (λ (w : ℕ). set (set l 0 (get_or l 0 0 / 2 * 2 + 1)) (suc (k - 1)) (x * 8 + 4 + w % 2)) g in
          let j₁ : k + 1 ≡ suc (suc (k - 1)) = omega arith in
          let o₁ : suc (o - 1) ≡ o = omega arith in
          d ∙ ap₂ (λ (t : List ℕ) (j : ℕ). going t (get_or ws₁ i 0 / 8 * 8 + 2) j) s j₁
          ∙ ap (λ (w : ℕ). going (set (set l 0 (get_or l 0 0 / 2 * 2 + 1)) (suc (k - 1)) (x * 8 + 4 + get_or l (suc (k - 1)) 0 % 2)) (w / 8 * 8 + 2) (suc (suc (k - 1)))) g
          ∙ away-head l (o - 1) (k - 1) x (omega (arith, turn-length c ws))
          ∙ ap₂ (λ (a j : ℕ). insert_at 0 a j x l) o₁ (sym up) ∙ ap (λ (a : ℕ). insert_at a o k x l) (sym eu)
        where
          get-past : (l : List ℕ) (j v : ℕ) → get_or (set l 0 v) (suc j) 0 ≡ get_or l (suc j) 0
          get-past [] j v = refl
          get-past (w ∷ l) j v = refl

-- ---- the whole

pub layout-length : (runs : List (List ℕ)) → length (layout runs) ≡ length runs
unfolding layout
layout-length runs = scan-length runs (pend runs)

module _ (runs : List (List ℕ)) (c : ℕ) (hc : c < length runs) (h : total runs < length runs) where
  pub run_room : carry runs c + length (get_or runs c []) ≤ total runs
  run_room =
      let t = turn c runs in
      let e : get_or t 0 [] ≡ get_or runs c [] = turn_low c runs 0 [] (omega arith) ∙ ap (λ (i : ℕ). get_or runs i []) (native.Mathlib.Nat.add-zero c) in
      omega (arith, room t (omega (arith, total-turn c runs, turn-length c runs)), total-turn c runs, carry-pend runs c hc h, ap length e)

  pub run-bit : get_or (layout runs) c 0 % 2 ≡ occupied (get_or runs c [])
  run-bit = ap (λ (w : ℕ). w % 2) (layout-at runs h c hc) ∙ occupied-bit (pend (turn c runs)) (get_or runs c [])

module _ (ws : List ℕ) (c x d u o : ℕ) (hc : c < length ws) (ed : d ≡ place_of ws c) (eu : u ≡ index (leb x) (run_at ws c)) (eo : o ≡ get_or ws c 0 % 2)
    (runs : List (List ℕ)) (el : ws ≡ layout runs) (h : suc (total runs) < length runs) where
  n : length ws ≡ length runs
  n = ap length el ∙ layout-length runs

  run : List ℕ
  run = get_or runs c []

  in-runs : c < length runs
  in-runs = omega (arith, n)

  fits : total runs < length runs
  fits = omega arith

  d-carry : d ≡ carry runs c
  d-carry = ed ∙ ap (λ (l : List ℕ). place_of l c) el ∙ place-of runs c in-runs fits

  u-index : u ≡ index (leb x) run
  unfolding run
  u-index = eu ∙ ap (index (leb x)) (ap (λ (l : List ℕ). run_at l c) el ∙ run-at runs c in-runs fits)

  pub insert-fits : d + u < length ws
  unfolding run
  insert-fits = omega (arith, n, d-carry, u-index, index-le (leb x) run, run_room runs c in-runs fits)

  pub inserted : (ws' : List ℕ) → length ws' ≡ length ws → turn c ws' ≡ insert_at u o (d + u) x (turn c ws) → ws' ≡ layout (set runs c (add x (get_or runs c [])))
  unfolding run
  inserted ws' hl t =
      let us = take u run in
      let vs = drop u run in
      let sp : us ++ vs ≡ run = take-append-drop u run in
      let lu : length us ≡ u = length-take-le u run (omega (arith, u-index, index-le (leb x) run)) in
      let ad : us ++ (x ∷ vs) ≡ add x run = sym (add_at x run ∙ ap (λ (i : ℕ). take i run ++ (x ∷ drop i run)) (sym u-index)) in
      let oc : o ≡ occupied (us ++ vs) = eo ∙ ap (λ (l : List ℕ). get_or l c 0 % 2) el ∙ run-bit runs c in-runs fits ∙ ap occupied (sym sp) in
      let new = set runs c (us ++ (x ∷ vs)) in
      let ln : length (layout new) ≡ length runs = layout-length new ∙ length-set runs c (us ++ (x ∷ vs)) in
      turn-injective c ws' (layout new) (omega arith) (omega (arith, n))
      (t
      ∙ ap₂ (λ (a b : ℕ). insert_at a b (d + a) x (turn c ws)) (sym lu) oc
      ∙ ap₂ (λ (a : ℕ) (l : List ℕ). insert_at (length us) (occupied (us ++ vs)) (a + length us) x (turn c l)) d-carry el
      ∙ sym (insert-at runs c in-runs us vs x (sym sp) h))
      ∙ ap (λ (r : List ℕ). layout (set runs c r)) ad
