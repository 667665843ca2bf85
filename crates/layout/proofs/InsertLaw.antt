-- The words of a circle begun at an address, when the address's run gains x behind us: in place, k slots on.
use mathlib.Core.Path.{◌≡◌, refl, sym, ap, ap₂, ◌∙◌, subst}
use mathlib.Core.List.{List, [], ◌∷◌, ◌++◌, map}
use Prim.Native.Nat.{ℕ, suc, ◌+◌, ◌*◌, ◌/◌, ◌%◌, ◌≤◌, ◌<◌}
use native.Mathlib.Omega.{arith}
use lib.ListN.{length, take, drop, length-append}
use Rattle.layout.specs.Machine.{Entry, start, more, code, occupied, mark, emit, rest, scan, left, layout}
use Rattle.lists.specs.Runs.{total}
use Rattle.layout.proofs.Round.{marks}
use Rattle.layout.proofs.Same.{room}
use Rattle.layout.proofs.Insert.{pend-others, layout-from, over, insert-first, insert-head, insert-later, insert-new, insert-before, splice-drop, used}
use Rattle.layout.specs.Moves.{insert_at, push, slide}

occupied-le : (r : List ℕ) → occupied r ≤ 1
occupied-le [] = omega arith
occupied-le (x ∷ r) = omega arith

set-bit : (e : Entry) (o : ℕ) → o ≤ 1 → code e + 4 + 1 ≡ (code e + 4 + o) / 2 * 2 + 1
set-bit (start p) o h = omega arith
set-bit (more p) o h = omega arith

-- the slot of a run's first entry, k slots on
over-slide : (s : List (List ℕ)) (x y : ℕ) (q : List Entry) → over (start x) (more y) (scan s (start y ∷ q)) ≡ slide 0 1 x (scan s (start y ∷ q))
unfolding over slide scan emit
over-slide [] x y q = refl
over-slide (r ∷ s) x y q =
    let w = y * 8 + 4 + occupied r in
    let d : y ≡ w / 8 = omega (arith, occupied-le r) in
    ap (λ (z : ℕ). (x * 8 + 4 + w % 2) ∷ push (more z) (scan s (rest (start y ∷ q) r))) d

law : (q : List Entry) (us vs : List ℕ) (x : ℕ) (s : List (List ℕ)) → length q + length us ≤ length s
    → emit q (us ++ (x ∷ vs)) ∷ scan s (rest q (us ++ (x ∷ vs)))
    ≡ insert_at (length us) (occupied (us ++ vs)) (length q + length us) x (emit q (us ++ vs) ∷ scan s (rest q (us ++ vs)))
unfolding insert_at slide emit rest mark
law [] [] [] x s h = insert-first s x
law [] [] (y ∷ vs) x s h =
    let d : y ≡ (y * 8 + 1) / 8 = omega arith in
    let t = scan s (map more vs) in
    insert-head s x y vs
    ∙ ap (λ (z : ℕ). (x * 8 + 1) ∷ push (more z) t) d
    ∙ ap (λ (l : List ℕ). (x * 8 + 1) ∷ l) (sym (used (y * 8 + 1) t (push (more ((y * 8 + 1) / 8)) t) (omega arith)))
law [] (u ∷ us) vs x s h =
    let k : suc (length us) ≡ 0 + suc (length us) = omega arith in
    let w : u * 8 + 1 ≡ (u * 8 + 1) / 2 * 2 + 1 = omega arith in
    let t = scan s (map more (us ++ vs)) in
    insert-later s [] u us x vs (omega arith) (length us) k
    ∙ ap (λ (v : ℕ). v ∷ (take (length us) t ++ push (more x) (drop (length us) t))) w
    ∙ ap (λ (j : ℕ). insert_at (suc (length us)) 1 j x ((u * 8 + 1) ∷ t)) k
law (g ∷ q) [] [] x s h =
    let k : suc (length q) ≡ suc (length q) + 0 = omega arith in
    let t = scan s (q ++ []) in
    insert-new s g q x (omega arith)
    ∙ ap (λ (v : ℕ). v ∷ (take (length q) t ++ push (start x) (drop (length q) t))) (set-bit g 0 (omega arith))
    ∙ ap (λ (j : ℕ). insert_at 0 0 j x ((code g + 4 + 0) ∷ t)) k
law (g ∷ q) [] (y ∷ vs) x s h =
    let k : suc (length q) ≡ suc (length q) + 0 = omega arith in
    let t = scan s (q ++ (start y ∷ map more vs)) in
    let d = splice-drop s q (omega arith) (start y ∷ map more vs) in
    insert-before s g q x y vs (omega arith)
    ∙ ap₂ (λ (v : ℕ) (l : List ℕ). v ∷ (take (length q) t ++ l)) (set-bit g 1 (omega arith))
    (ap (over (start x) (more y)) d ∙ over-slide (drop (length q) s) x y (map more vs ++ marks (take (length q) s)) ∙ ap (slide 0 1 x) (sym d))
    ∙ ap (λ (j : ℕ). insert_at 0 1 j x ((code g + 4 + 1) ∷ t)) k
law (g ∷ q) (u ∷ us) vs x s h =
    let m = length q + suc (length us) in
    let k : suc m ≡ suc (length q) + suc (length us) = omega arith in
    let t = scan s (q ++ (start u ∷ map more (us ++ vs))) in
    insert-later s (g ∷ q) u us x vs (omega arith) m k
    ∙ ap (λ (v : ℕ). v ∷ (take m t ++ push (more x) (drop m t))) (set-bit g 1 (omega arith))
    ∙ ap (λ (j : ℕ). insert_at (suc (length us)) 1 j x ((code g + 4 + 1) ∷ t)) k

-- THE INSERT: of the circle begun at the address, whose carry is length (left s [])
pub insert-law : (us vs : List ℕ) (x : ℕ) (s : List (List ℕ)) → total ((us ++ (x ∷ vs)) ∷ s) < length ((us ++ (x ∷ vs)) ∷ s)
    → layout ((us ++ (x ∷ vs)) ∷ s) ≡ insert_at (length us) (occupied (us ++ vs)) (length (left s []) + length us) x (layout ((us ++ vs) ∷ s))
unfolding total
insert-law us vs x s h =
    let q = left s [] in
    let a = length-append us (x ∷ vs) in
    let b = length-append us vs in
    let h' : total ((us ++ vs) ∷ s) < length ((us ++ vs) ∷ s) = omega arith in
    let r : length q + length (us ++ (x ∷ vs)) ≤ total ((us ++ (x ∷ vs)) ∷ s) =
    subst (λ (p : List Entry). length p + length (us ++ (x ∷ vs)) ≤ total ((us ++ (x ∷ vs)) ∷ s)) (pend-others (us ++ (x ∷ vs)) s h) (room ((us ++ (x ∷ vs)) ∷ s) h) in
    layout-from (us ++ (x ∷ vs)) s h
    ∙ law q us vs x s (omega arith)
    ∙ ap (insert_at (length us) (occupied (us ++ vs)) (length q + length us) x) (sym (layout-from (us ++ vs) s h'))
