-- A payload of a run is written over in its place: how the layout changes, and the whole replace.
use mathlib.Core.Path.{◌≡◌, refl, sym, ap, ap₂, ◌∙◌, subst}
use mathlib.Core.Bool.{true, false}
use mathlib.Core.List.{List, [], ◌∷◌, ◌++◌, map, append_assoc}
use Prim.Native.Nat.{ℕ, suc, ◌+◌, ◌*◌, ◌-◌, ◌%◌, ◌≤◌, ◌<◌}
use native.Mathlib.Omega.{arith}
use lib.Dec.{T, leb}
use lib.ListN.{length, take, drop, get_or, set, length-append, length-map, length-set, take-append-drop}
use lib.Seq.{drop-cons, set_split, length-take-le}
use Rattle.layout.specs.Machine.{Entry, start, more, code, occupied, mark, emit, rest, scan, left, pend, layout}
use Rattle.lists.specs.Runs.{total}
use Rattle.layout.specs.Decode.{turn, place_of, run_at}
use Rattle.layout.specs.Document.{carry}
use Rattle.layout.specs.Moves.{wrap}
use Rattle.layout.specs.Reading.{index}
use Rattle.lists.specs.Runs.{add, erase, has}
use Rattle.lists.specs.Runs.{rising}
use Rattle.layout.proofs.Rises.{rising-facts}
use Rattle.layout.proofs.Laws.{scan-length}
use Rattle.layout.proofs.Round.{marks, turn-layout}
use Rattle.layout.proofs.Same.{room, carry-pend, turn-length, total-turn}
use Rattle.layout.proofs.Insert.{pend-others, layout-from, map_more, replaced}
use Rattle.layout.proofs.Bridge.{turn-injective}
use Rattle.layout.proofs.Calls.{others, turn-own, turn-set}
use Rattle.layout.proofs.Puts.{layout-length, run_room}
use Rattle.layout.proofs.Plucks.{run_is, place_is, word-at, set_at}
use Rattle.layout.proofs.Searches.{index-le, has-at, has_last, last-turned}

occupied-le : (r : List ℕ) → occupied r ≤ 1
occupied-le [] = omega arith
occupied-le (x ∷ r) = omega arith

-- e and g are both first of a run, or both later: y is the payload of g
scan-swap : (d : List (List ℕ)) (e g : Entry) (y : ℕ) (q : List Entry) → code e % 8 ≤ 2 → code g ≡ y * 8 + code e % 8
    → scan d (g ∷ q) ≡ set (scan d (e ∷ q)) 0 (y * 8 + get_or (scan d (e ∷ q)) 0 0 % 8)
unfolding scan emit rest
scan-swap [] e g y q h c = refl
scan-swap (r ∷ d) e g y q h c =
    let w : code g + 4 + occupied r ≡ y * 8 + (code e + 4 + occupied r) % 8 = omega (arith, occupied-le r) in
    ap (λ (v : ℕ). v ∷ scan d (q ++ mark r)) w

in_place : (l : List ℕ) (k y : ℕ) → k < length l → take k l ++ set (drop k l) 0 (y * 8 + get_or (drop k l) 0 0 % 8) ≡ set l k (y * 8 + get_or l k 0 % 8)
in_place l k y h =
    ap (λ (d : List ℕ). take k l ++ set d 0 (y * 8 + get_or d 0 0 % 8)) (drop-cons l k 0 h)
    ∙ sym (set_split l k (y * 8 + get_or l k 0 % 8) h)

over-at : (s : List (List ℕ)) (p : List Entry) (k : ℕ) → length p ≡ k → k < length s → (e g : Entry) (y : ℕ) (a : List Entry) → code e % 8 ≤ 2 → code g ≡ y * 8 + code e % 8
    → scan s (p ++ (g ∷ a)) ≡ set (scan s (p ++ (e ∷ a))) k (y * 8 + get_or (scan s (p ++ (e ∷ a))) k 0 % 8)
over-at s p k ek hk e g y a h c =
    let l = scan s (p ++ (e ∷ a)) in
    replaced s p (omega arith) (e ∷ a) (g ∷ a) (λ (t : List ℕ). set t 0 (y * 8 + get_or t 0 0 % 8))
    (scan-swap (drop (length p) s) e g y (a ++ marks (take (length p) s)) h c)
    ∙ ap (λ (i : ℕ). take i l ++ set (drop i l) 0 (y * 8 + get_or (drop i l) 0 0 % 8)) ek
    ∙ in_place l k y (omega (arith, scan-length s (p ++ (e ∷ a))))

law : (q : List Entry) (us vs : List ℕ) (x y : ℕ) (s : List (List ℕ)) (l : List ℕ) → length q + length us < length s
    → l ≡ emit q (us ++ (x ∷ vs)) ∷ scan s (rest q (us ++ (x ∷ vs)))
    → emit q (us ++ (y ∷ vs)) ∷ scan s (rest q (us ++ (y ∷ vs))) ≡ set l (length q + length us) (y * 8 + get_or l (length q + length us) 0 % 8)
unfolding emit rest mark
law [] [] vs x y s l h el =
    let w : y * 8 + 1 ≡ y * 8 + (x * 8 + 1) % 8 = omega arith in
    let k : 0 ≡ 0 + 0 = omega arith in
    ap (λ (v : ℕ). v ∷ scan s (map more vs)) w ∙ ap₂ (λ (t : List ℕ) (j : ℕ). set t j (y * 8 + get_or t j 0 % 8)) (sym el) k
law [] (u ∷ us) vs x y s l h el =
    let p = map more us in
    let k : suc (length us) ≡ 0 + suc (length us) = omega arith in
    let c₁ : (x * 8 + 2) % 8 ≤ 2 = omega arith in
    let c₂ : y * 8 + 2 ≡ y * 8 + (x * 8 + 2) % 8 = omega arith in
    ap (λ (t : List ℕ). (u * 8 + 1) ∷ t)
    (ap (scan s) (map_more us (y ∷ vs))
    ∙ over-at s p (length us) (length-map us more) (omega arith) (more x) (more y) y (map more vs) c₁ c₂
    ∙ ap (λ (e : List Entry). set (scan s e) (length us) (y * 8 + get_or (scan s e) (length us) 0 % 8)) (sym (map_more us (x ∷ vs))))
    ∙ ap₂ (λ (t : List ℕ) (j : ℕ). set t j (y * 8 + get_or t j 0 % 8)) (sym el) k
law (g ∷ q) [] vs x y s l h el =
    let k : suc (length q) ≡ suc (length q) + 0 = omega arith in
    let c₁ : x * 8 % 8 ≤ 2 = omega arith in
    let c₂ : y * 8 ≡ y * 8 + x * 8 % 8 = omega arith in
    ap (λ (t : List ℕ). (code g + 4 + 1) ∷ t) (over-at s q (length q) refl (omega arith) (start x) (start y) y (map more vs) c₁ c₂)
    ∙ ap₂ (λ (t : List ℕ) (j : ℕ). set t j (y * 8 + get_or t j 0 % 8)) (sym el) k
law (g ∷ q) (u ∷ us) vs x y s l h el =
    let p = q ++ (start u ∷ map more us) in
    let n = length q + suc (length us) in
    let k : suc n ≡ suc (length q) + suc (length us) = omega arith in
    let np : length p ≡ n = length-append q (start u ∷ map more us) ∙ (omega (arith, length-map us more)) in
    let c₁ : (x * 8 + 2) % 8 ≤ 2 = omega arith in
    let c₂ : y * 8 + 2 ≡ y * 8 + (x * 8 + 2) % 8 = omega arith in
    let new : q ++ (start u ∷ map more (us ++ (y ∷ vs))) ≡ p ++ (more y ∷ map more vs) =
    ap (λ (e : List Entry). q ++ (start u ∷ e)) (map_more us (y ∷ vs)) ∙ sym (append_assoc q (start u ∷ map more us) (more y ∷ map more vs)) in
    let old : q ++ (start u ∷ map more (us ++ (x ∷ vs))) ≡ p ++ (more x ∷ map more vs) =
    ap (λ (e : List Entry). q ++ (start u ∷ e)) (map_more us (x ∷ vs)) ∙ sym (append_assoc q (start u ∷ map more us) (more x ∷ map more vs)) in
    ap (λ (t : List ℕ). (code g + 4 + 1) ∷ t)
    (ap (scan s) new
    ∙ over-at s p n np (omega arith) (more x) (more y) y (map more vs) c₁ c₂
    ∙ ap (λ (e : List Entry). set (scan s e) n (y * 8 + get_or (scan s e) n 0 % 8)) (sym old))
    ∙ ap₂ (λ (t : List ℕ) (j : ℕ). set t j (y * 8 + get_or t j 0 % 8)) (sym el) k

replace-law : (us vs : List ℕ) (x y : ℕ) (s : List (List ℕ)) → total ((us ++ (x ∷ vs)) ∷ s) < length ((us ++ (x ∷ vs)) ∷ s)
    → layout ((us ++ (y ∷ vs)) ∷ s)
    ≡ set (layout ((us ++ (x ∷ vs)) ∷ s)) (length (left s []) + length us) (y * 8 + get_or (layout ((us ++ (x ∷ vs)) ∷ s)) (length (left s []) + length us) 0 % 8)
unfolding total
replace-law us vs x y s h =
    let q = left s [] in
    let r = us ++ (x ∷ vs) in
    let a = length-append us (x ∷ vs) in
    let b = length-append us (y ∷ vs) in
    let h' : total ((us ++ (y ∷ vs)) ∷ s) < length ((us ++ (y ∷ vs)) ∷ s) = omega arith in
    let rm : length q + length r ≤ total (r ∷ s) = subst (λ (p : List Entry). length p + length r ≤ total (r ∷ s)) (pend-others r s h) (room (r ∷ s) h) in
    layout-from (us ++ (y ∷ vs)) s h' ∙ law q us vs x y s (layout (r ∷ s)) (omega arith) (layout-from r s h)

module _ (runs : List (List ℕ)) (c : ℕ) (hc : c < length runs) (us vs : List ℕ) (x y : ℕ) where
  -- REPLACE, at an address whose run is us, x and then vs
  pub replace-at : get_or runs c [] ≡ us ++ (x ∷ vs) → total runs < length runs
      → turn c (layout (set runs c (us ++ (y ∷ vs))))
      ≡ set (turn c (layout runs)) (carry runs c + length us) (y * 8 + get_or (turn c (layout runs)) (carry runs c + length us) 0 % 8)
  unfolding total
  replace-at e h =
      let s = others runs c in
      let old : turn c runs ≡ (us ++ (x ∷ vs)) ∷ s = turn-own runs c hc ∙ ap (λ (r : List ℕ). r ∷ s) e in
      let new : turn c (set runs c (us ++ (y ∷ vs))) ≡ (us ++ (y ∷ vs)) ∷ s = turn-set runs c (us ++ (y ∷ vs)) hc in
      let a = length-append us (x ∷ vs) in
      let b = length-append us (y ∷ vs) in
      let t₁ = ap total old in
      let t₂ = ap length old in
      let t₃ = total-turn c runs in
      let t₄ = turn-length c runs in
      let n₁ = length-set runs c (us ++ (y ∷ vs)) in
      let n₂ = ap total new in
      let n₃ = total-turn c (set runs c (us ++ (y ∷ vs))) in
      let small : total ((us ++ (x ∷ vs)) ∷ s) < length ((us ++ (x ∷ vs)) ∷ s) = omega arith in
      let small' : total (set runs c (us ++ (y ∷ vs))) < length (set runs c (us ++ (y ∷ vs))) = omega arith in
      let q : length (left s []) ≡ carry runs c =
      ap length (sym (pend-others (us ++ (x ∷ vs)) s small) ∙ ap pend (sym old)) ∙ sym (carry-pend runs c hc h) in
      turn-layout c (set runs c (us ++ (y ∷ vs))) (omega arith) small'
      ∙ ap layout new
      ∙ replace-law us vs x y s small
      ∙ ap₂ (λ (k : ℕ) (l : List ℕ). set l (k + length us) (y * 8 + get_or l (k + length us) 0 % 8)) q
      (ap layout (sym old) ∙ sym (turn-layout c runs (omega arith) h))

-- ---- the whole: the last x becomes suc x

module _ (ws : List ℕ) (c x : ℕ) (hc : c < length ws) (runs : List (List ℕ)) (el : ws ≡ layout runs) (h : total runs < length runs)
    (r : T (rising (get_or runs c []))) (i : ℕ) (ei : i ≡ index (leb (suc x)) (run_at ws c)) where
  run : List ℕ
  run = get_or runs c []

  here : run_at ws c ≡ run
  unfolding run
  here = run_is ws c x hc runs el h

  n : length ws ≡ length runs
  n = ap length el ∙ layout-length runs

  in-runs : c < length runs
  in-runs = omega (arith, n)

  at : i ≡ index (leb (suc x)) run
  at = ei ∙ ap (index (leb (suc x))) here

  pub last-missing : (1 ≤ i → get_or (run_at ws c) (i - 1) 0 ≡ x → ⊥) → has x (get_or runs c []) ≡ false
  unfolding run
  last-missing no-x = has_last x run i (rising-facts run r) at (λ g e. no-x g (ap (λ (l : List ℕ). get_or l (i - 1) 0) here ∙ e))

  module _ (g : 1 ≤ i) (e : get_or (run_at ws c) (i - 1) 0 ≡ x) where
    u : ℕ
    u = i - 1

    inside : u < length run
    unfolding u
    inside = omega (arith, at, index-le (leb (suc x)) run)

    at_x : get_or run u 0 ≡ x
    unfolding u
    at_x = ap (λ (l : List ℕ). get_or l (i - 1) 0) (sym here) ∙ e

    pub last-held : has x (get_or runs c []) ≡ true
    unfolding run
    last-held = has-at x run u inside at_x

    pub last_fits : place_of ws c + (i - 1) < length ws
    unfolding u run
    last_fits = omega (arith, n, place_is ws c x hc runs el h, inside, run_room runs c in-runs h)

    pub replaced-last : (k j v : ℕ) → k ≡ place_of ws c + (i - 1) → k < length ws → j ≡ wrap (length ws) c k → v ≡ suc x * 8 + get_or ws j 0 % 8
        → set ws j v ≡ layout (set runs c (add (suc x) (erase x (get_or runs c []))))
    unfolding u run
    replaced-last k j v ek hk ej ev =
        let us = take u run in
        let vs = drop (suc u) run in
        let sp : run ≡ us ++ (x ∷ vs) = sym (take-append-drop u run) ∙ ap (λ (d : List ℕ). us ++ d) (drop-cons run u 0 inside ∙ ap (λ (y : ℕ). y ∷ vs) at_x) in
        let lu : length us ≡ u = length-take-le u run (omega (arith, inside)) in
        let new = set runs c (us ++ (suc x ∷ vs)) in
        let ln : length (layout new) ≡ length runs = layout-length new ∙ length-set runs c (us ++ (suc x ∷ vs)) in
        let kk : k ≡ carry runs c + length us = ek ∙ ap₂ ◌+◌ (place_is ws c x hc runs el h) (sym lu) in
        let s : suc u ≡ index (leb (suc x)) run = omega (arith, at) in
        turn-injective c (set ws j v) (layout new) (omega (arith, length-set ws j v)) (omega (arith, n, length-set ws j v))
        (set_at ws c hc k (length ws) j v refl hk ej
        ∙ ap (set (turn c ws) k) (ev ∙ ap (λ (w : ℕ). suc x * 8 + w % 8) (word-at ws c hc k (length ws) j refl hk ej))
        ∙ ap₂ (λ (l : List ℕ) (b : ℕ). set (turn c l) b (suc x * 8 + get_or (turn c l) b 0 % 8)) el kk
        ∙ sym (replace-at runs c in-runs us vs x (suc x) sp h))
        ∙ ap (λ (q : List ℕ). layout (set runs c q)) (last-turned x run u (rising-facts run r) s at_x)
