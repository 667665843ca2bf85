-- The words of a circle begun at an address, when the address's run loses the entry behind us: in place, k slots on.
use mathlib.Core.Path.{◌≡◌, refl, sym, ap, ap₂, ◌∙◌, subst}
use mathlib.Core.List.{List, [], ◌∷◌, ◌++◌, map, append_assoc}
use Prim.Native.Nat.{ℕ, suc, ◌+◌, ◌*◌, ◌/◌, ◌%◌, ◌≤◌, ◌<◌}
use native.Mathlib.Omega.{arith}
use lib.ListN.{length, take, drop, get_or, length-append, length-map, take-append-drop}
use lib.Seq.{length-take-le, take_at}
use Rattle.layout.specs.Machine.{Entry, start, more, code, occupied, mark, emit, rest, scan, left, pend, layout}
use Rattle.lists.specs.Runs.{total}
use Rattle.layout.proofs.Laws.{Gap, scan-append, scan-length}
use Rattle.layout.proofs.Round.{marks, filled, occs-scan, occupied-bit}
use Rattle.layout.proofs.Same.{room}
use Rattle.layout.proofs.Insert.{pend-others, layout-from, map_more, replaced}
use Rattle.layout.proofs.Remove.{starts, starts-append, starts_more, starts-mark, starts-marks, pulled, take_out, gap-skip, gap-tail, gap_here, no_gap}
use Rattle.layout.specs.Moves.{drawn, occs, pull, remove_at}

occupied-le : (r : List ℕ) → occupied r ≤ 1
occupied-le [] = omega arith
occupied-le (x ∷ r) = omega arith

gap-drop : (s : List (List ℕ)) (p a : List Entry) → length p ≤ length s → Gap s (p ++ a) → Gap (drop (length p) s) (a ++ marks (take (length p) s))
gap-drop s p a h g =
    gap-skip (take (length p) s) (drop (length p) s) p a (length-take-le (length p) s h)
    (subst (λ (l : List (List ℕ)). Gap l (p ++ a)) (sym (take-append-drop (length p) s)) g)

take-scan : (k : ℕ) (s : List (List ℕ)) (q : List Entry) → k ≤ length s → take k (scan s q) ≡ scan (take k s) q
take-scan k s q h =
    let u = take k s in
    let v = drop k s in
    ap (λ (l : List (List ℕ)). take k (scan l q)) (sym (take-append-drop k s)) ∙ ap (take k) (scan-append u v q)
    ∙ take_at (scan u q) (scan v (left u q)) k (scan-length u q ∙ length-take-le k s h)

occs-take : (k : ℕ) (s : List (List ℕ)) (q : List Entry) → k ≤ length s → occs (take k (scan s q)) ≡ filled (take k s)
occs-take k s q h = ap occs (take-scan k s q h) ∙ occs-scan (take k s) q

-- an entry behind p goes, with as many runs behind it in the queue as n counts
out : (s : List (List ℕ)) (p : List Entry) (k : ℕ) → length p ≡ k → k ≤ length s → (e : Entry) (a : List Entry) → starts a ≡ 0 → Gap s (p ++ (e ∷ a))
    → scan s (p ++ a) ≡ take k (scan s (p ++ (e ∷ a))) ++ pull (occs (take k (scan s (p ++ (e ∷ a))))) (drop k (scan s (p ++ (e ∷ a))))
out s p k ek hk e a za g =
    let old = scan s (p ++ (e ∷ a)) in
    let hp : length p ≤ length s = omega arith in
    let n : starts a + filled (take (length p) s) ≡ occs (take (length p) old) =
    ap (λ (j : ℕ). j + filled (take (length p) s)) za ∙ native.Mathlib.Nat.zero-add (filled (take (length p) s)) ∙ sym (occs-take (length p) s (p ++ (e ∷ a)) hp) in
    take_out s p hp e a (gap-drop s p (e ∷ a) hp g)
    ∙ ap (λ (j : ℕ). take (length p) old ++ pull j (drop (length p) old)) n
    ∙ ap (λ (j : ℕ). take j old ++ pull (occs (take j old)) (drop j old)) ek

-- a run loses its first entry, and the next becomes the first
next-first : (d : List (List ℕ)) (x y : ℕ) (a : List Entry) (n v : ℕ) → starts a ≡ n → Gap d (start x ∷ (more y ∷ a))
    → scan d (start y ∷ a) ≡ drawn 0 (suc v) n (scan d (start x ∷ (more y ∷ a)))
unfolding scan rest emit drawn
next-first [] x y a n v e g = absurd (no_gap _ g)
next-first (r ∷ []) x y a n v e g = absurd (no_gap _ (gap-tail r [] (start x) (more y ∷ a) g))
next-first (r ∷ (t ∷ d)) x y a n v e g =
    let w = x * 8 + 4 + occupied r in
    let z = y * 8 + 2 + 4 + occupied t in
    let b : w % 2 ≡ occupied r = occupied-bit (start x ∷ a) r in
    let hd : y * 8 + 4 + occupied r ≡ z / 8 * 8 + 4 + w % 2 = omega (arith, occupied-le r, occupied-le t) in
    let m : starts (a ++ mark r) ≡ n + w % 2 = starts-append a (mark r) ∙ ap₂ ◌+◌ e (starts-mark r ∙ sym b) in
    ap₂ (λ (i : ℕ) (l : List ℕ). i ∷ l) hd
    (sym (pulled (t ∷ d) (more y) (a ++ mark r) (gap-tail r (t ∷ d) (start x) (more y ∷ a) g))
    ∙ ap (λ (j : ℕ). pull j (scan (t ∷ d) (more y ∷ (a ++ mark r)))) m)

clear-bit : (e : Entry) → code e + 4 + 0 ≡ (code e + 4 + 1) / 2 * 2
clear-bit (start p) = omega arith
clear-bit (more p) = omega arith

head_of : (s : List (List ℕ)) (y : ℕ) (q : List Entry) → Gap s (more y ∷ q) → y * 8 + 1 ≡ get_or (scan s (more y ∷ q)) 0 0 / 8 * 8 + 1
unfolding scan emit
head_of [] y q g = absurd (no_gap _ g)
head_of (r ∷ s) y q g = omega (arith, occupied-le r)

law : (q : List Entry) (us vs : List ℕ) (x : ℕ) (s : List (List ℕ)) → length q + length us ≤ length s → Gap s (rest q (us ++ (x ∷ vs)))
    → emit q (us ++ vs) ∷ scan s (rest q (us ++ vs))
    ≡ remove_at (length us) (length vs) (length q + length us) (emit q (us ++ (x ∷ vs)) ∷ scan s (rest q (us ++ (x ∷ vs))))
unfolding remove_at drawn emit rest mark
law [] [] [] x s h g = refl
law [] [] (y ∷ vs) x s h g =
    ap₂ (λ (i : ℕ) (l : List ℕ). i ∷ l) (head_of s y (map more vs) g)
    (sym (pulled s (more y) (map more vs) g) ∙ ap (λ (j : ℕ). pull j (scan s (more y ∷ map more vs))) (starts_more vs))
law [] (u ∷ us) vs x s h g =
    let p = map more us in
    let n = length us in
    let k : suc n ≡ 0 + suc n = omega arith in
    let e : map more (us ++ (x ∷ vs)) ≡ p ++ (more x ∷ map more vs) = map_more us (x ∷ vs) in
    let f : p ++ map more vs ≡ map more (us ++ vs) = sym (map_more us vs) in
    ap (λ (l : List Entry). (u * 8 + 1) ∷ scan s l) (sym f)
    ∙ ap (λ (l : List ℕ). (u * 8 + 1) ∷ l)
    (out s p n (length-map us more) (omega arith) (more x) (map more vs) (starts_more vs) (subst (λ (l : List Entry). Gap s l) e g)
    ∙ ap (λ (l : List Entry). take n (scan s l) ++ pull (occs (take n (scan s l))) (drop n (scan s l))) (sym e))
    ∙ ap (λ (j : ℕ). remove_at (suc n) (length vs) j ((u * 8 + 1) ∷ scan s (map more (us ++ (x ∷ vs))))) k
law (i ∷ q) [] [] x s h g =
    let k : suc (length q) ≡ suc (length q) + 0 = omega arith in
    ap₂ (λ (w : ℕ) (l : List ℕ). w ∷ l) (clear-bit i) (out s q (length q) refl (omega arith) (start x) [] (unfold starts in refl) g)
    ∙ ap (λ (j : ℕ). remove_at 0 0 j ((code i + 4 + 1) ∷ scan s (q ++ (start x ∷ [])))) k
law (i ∷ q) [] (y ∷ vs) x s h g =
    let n = length q in
    let hq : n ≤ length s = omega arith in
    let k : suc n ≡ suc n + 0 = omega arith in
    let m = marks (take n s) in
    let old = start x ∷ (more y ∷ map more vs) in
    let c : starts (map more vs ++ m) ≡ occs (take n (scan s (q ++ old))) =
    starts-append (map more vs) m ∙ ap₂ ◌+◌ (starts_more vs) (starts-marks (take n s)) ∙ native.Mathlib.Nat.zero-add (filled (take n s))
    ∙ sym (occs-take n s (q ++ old) hq) in
    ap (λ (l : List ℕ). (code i + 4 + 1) ∷ l)
    (replaced s q hq old (start y ∷ map more vs) (drawn 0 (suc (length vs)) (occs (take n (scan s (q ++ old)))))
    (next-first (drop n s) x y (map more vs ++ m) (occs (take n (scan s (q ++ old)))) (length vs) c (gap-drop s q old hq g)))
    ∙ ap (λ (j : ℕ). remove_at 0 (suc (length vs)) j ((code i + 4 + 1) ∷ scan s (q ++ old))) k
law (i ∷ q) (u ∷ us) vs x s h g =
    let p = q ++ (start u ∷ map more us) in
    let n = length q + suc (length us) in
    let k : suc n ≡ suc (length q) + suc (length us) = omega arith in
    let ep : length p ≡ n = length-append q (start u ∷ map more us) ∙ (omega (arith, length-map us more)) in
    let e : q ++ (start u ∷ map more (us ++ (x ∷ vs))) ≡ p ++ (more x ∷ map more vs) =
    ap (λ (l : List Entry). q ++ (start u ∷ l)) (map_more us (x ∷ vs)) ∙ sym (append_assoc q (start u ∷ map more us) (more x ∷ map more vs)) in
    let f : q ++ (start u ∷ map more (us ++ vs)) ≡ p ++ map more vs =
    ap (λ (l : List Entry). q ++ (start u ∷ l)) (map_more us vs) ∙ sym (append_assoc q (start u ∷ map more us) (map more vs)) in
    ap (λ (l : List ℕ). (code i + 4 + 1) ∷ l)
    (ap (scan s) f
    ∙ out s p n ep (omega arith) (more x) (map more vs) (starts_more vs) (subst (λ (l : List Entry). Gap s l) e g)
    ∙ ap (λ (l : List Entry). take n (scan s l) ++ pull (occs (take n (scan s l))) (drop n (scan s l))) (sym e))
    ∙ ap (λ (j : ℕ). remove_at (suc (length us)) (length vs) j ((code i + 4 + 1) ∷ scan s (q ++ (start u ∷ map more (us ++ (x ∷ vs)))))) k

-- THE REMOVE: of the circle begun at the address, whose carry is length (left s [])
pub remove-law : (us vs : List ℕ) (x : ℕ) (s : List (List ℕ)) → total ((us ++ (x ∷ vs)) ∷ s) < length ((us ++ (x ∷ vs)) ∷ s)
    → layout ((us ++ vs) ∷ s) ≡ remove_at (length us) (length vs) (length (left s []) + length us) (layout ((us ++ (x ∷ vs)) ∷ s))
unfolding total
remove-law us vs x s h =
    let q = left s [] in
    let r = us ++ (x ∷ vs) in
    let a = length-append us (x ∷ vs) in
    let b = length-append us vs in
    let h' : total ((us ++ vs) ∷ s) < length ((us ++ vs) ∷ s) = omega arith in
    let po : pend (r ∷ s) ≡ q = pend-others r s h in
    let rm : length q + length r ≤ total (r ∷ s) = subst (λ (p : List Entry). length p + length r ≤ total (r ∷ s)) po (room (r ∷ s) h) in
    let g : Gap s (rest q r) = subst (λ (p : List Entry). Gap s (rest p r)) po (gap_here r s h (omega arith)) in
    layout-from (us ++ vs) s h'
    ∙ law q us vs x s (omega arith) g
    ∙ ap (remove_at (length us) (length vs) (length q + length us)) (sym (layout-from r s h))
