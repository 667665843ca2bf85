-- How a layout changes when a run gains an entry: the entry in hand is swapped with each slot up to the first empty one.
use mathlib.Core.Path.{◌≡◌, refl, sym, ap, ap₂, ◌∙◌}
use mathlib.Core.Logic.{◌⊎◌, inl, inr}
use mathlib.Core.List.{List, [], ◌∷◌, ◌++◌, map, append_assoc}
use Prim.Native.Nat.{ℕ, zero, suc, ◌+◌, ◌*◌, ◌%◌, ◌≤◌, ◌<◌}
use native.Mathlib.Omega.{arith}
use lib.ListN.{length, take, drop, length-append, length-map, take-append-drop}
use lib.Seq.{take_at, drop_at, length-take-le}
use Rattle.layout.specs.Machine.{Entry, start, more, code, occupied, mark, emit, rest, scan, left, pend, layout}
use Rattle.lists.specs.Runs.{total}
use Rattle.layout.proofs.Laws.{scan-length, scan-append, Gap, lap, forget}
use Rattle.layout.specs.Decode.{entry}
use Rattle.layout.proofs.Round.{marks, drained, entry-moved, entry-home, occupied-bit}
use Rattle.layout.specs.Moves.{if_empty, push}

-- ---- what waits at an address does not hang on the address's own run

pub pend-others : (r : List ℕ) (s : List (List ℕ)) → total (r ∷ s) < length (r ∷ s) → pend (r ∷ s) ≡ left s []
unfolding pend left rest total
pend-others [] s h = refl
pend-others (x ∷ xs) s h = go (lap s (map more xs))
  where
    go : Gap s (map more xs) ⊎ (length (left s (map more xs)) + length s ≡ length (map more xs) + total s) → left s (map more xs) ≡ left s []
    go (inl g) = sym (forget s (map more xs) [] g (omega arith))
    go (inr e) = absurd (omega (arith, length-map xs more))

-- so a layout that is begun at the address goes on from the same queue, whatever the run
pub layout-from : (r : List ℕ) (s : List (List ℕ)) → total (r ∷ s) < length (r ∷ s) → layout (r ∷ s) ≡ emit (left s []) r ∷ scan s (rest (left s []) r)
unfolding layout scan
layout-from r s h = ap (λ (q : List Entry). emit q r ∷ scan s (rest q r)) (pend-others r s h)

-- ---- one entry more in the queue

pub used : (w : ℕ) (a b : List ℕ) → 1 ≤ w → if_empty w a b ≡ b
used zero a b h = absurd (omega arith)
used (suc w) a b h = refl

-- THE RIPPLE
pub ripple : (s : List (List ℕ)) (e : Entry) (q : List Entry) → scan s (e ∷ q) ≡ push e (scan s q)
unfolding scan push rest emit mark
ripple [] e q = refl
ripple ([] ∷ s) e [] = refl
ripple ((x ∷ xs) ∷ s) e [] =
    ap₂ (λ (w : ℕ) (l : List ℕ). w ∷ l) bit
    (ripple s (start x) (map more xs)
    ∙ ap (λ (k : Entry). push k (scan s (map more xs))) (sym (entry-home x))
    ∙ sym (used (x * 8 + 1) (scan s (map more xs)) (push (entry (x * 8 + 1)) (scan s (map more xs))) (omega arith)))
  where
    bit : code e + 4 + 1 ≡ code e + 4 + (x * 8 + 1) % 2
    bit = omega arith
ripple (r ∷ s) e (h ∷ q) =
    ap₂ (λ (w : ℕ) (l : List ℕ). w ∷ l) (ap (λ (k : ℕ). code e + 4 + k) (sym (occupied-bit (h ∷ q) r)))
    (ripple s h (q ++ mark r)
    ∙ ap (λ (k : Entry). push k (scan s (q ++ mark r))) (sym (entry-moved h r))
    ∙ sym (used (code h + 4 + occupied r) (scan s (q ++ mark r)) (push (entry (code h + 4 + occupied r)) (scan s (q ++ mark r))) (omega arith)))

-- e takes the slot, and g is in hand, whatever was there
unfoldable pub over : Entry → Entry → List ℕ → List ℕ
over e g [] = []
over e g (w ∷ ws) = (code e + 4 + w % 2) ∷ push g ws

-- ---- one entry more somewhere in the queue

front : (u : List (List ℕ)) (p a b : List Entry) → length u ≡ length p → scan u (p ++ a) ≡ scan u (p ++ b)
unfolding scan emit rest
front [] p a b e = refl
front (r ∷ u) [] a b e = absurd (omega arith)
front (r ∷ u) (h ∷ p) a b e =
    ap (λ (l : List ℕ). (code h + 4 + occupied r) ∷ l)
    (ap (scan u) (append_assoc p a (mark r)) ∙ front u p (a ++ mark r) (b ++ mark r) (omega arith) ∙ ap (scan u) (sym (append_assoc p b (mark r))))

-- the slots that p fills, and then those where a comes first
module _ (s : List (List ℕ)) (p : List Entry) (h : length p ≤ length s) where
  here : length (take (length p) s) ≡ length p
  here = length-take-le (length p) s h

  pub splice : (a : List Entry) → scan s (p ++ a) ≡ scan (take (length p) s) (p ++ a) ++ scan (drop (length p) s) (a ++ marks (take (length p) s))
  splice a =
      ap (λ (l : List (List ℕ)). scan l (p ++ a)) (sym (take-append-drop (length p) s))
      ∙ scan-append (take (length p) s) (drop (length p) s) (p ++ a)
      ∙ ap (λ (q : List Entry). scan (take (length p) s) (p ++ a) ++ scan (drop (length p) s) q) (drained p a (take (length p) s) here)

  counted : (a : List Entry) → length (scan (take (length p) s) (p ++ a)) ≡ length p
  counted a = scan-length (take (length p) s) (p ++ a) ∙ here

  pub splice-drop : (a : List Entry) → drop (length p) (scan s (p ++ a)) ≡ scan (drop (length p) s) (a ++ marks (take (length p) s))
  splice-drop a = ap (drop (length p)) (splice a) ∙ drop_at (scan (take (length p) s) (p ++ a)) (scan (drop (length p) s) (a ++ marks (take (length p) s))) (length p) (counted a)

  pub splice-take : (a : List Entry) → take (length p) (scan s (p ++ a)) ≡ scan (take (length p) s) (p ++ a)
  splice-take a = ap (take (length p)) (splice a) ∙ take_at (scan (take (length p) s) (p ++ a)) (scan (drop (length p) s) (a ++ marks (take (length p) s))) (length p) (counted a)

  -- whatever comes after p, the words that p fills stay, and the rest follows from what comes after p
  pub replaced : (a b : List Entry) (f : List ℕ → List ℕ)
      → scan (drop (length p) s) (b ++ marks (take (length p) s)) ≡ f (scan (drop (length p) s) (a ++ marks (take (length p) s)))
      → scan s (p ++ b) ≡ take (length p) (scan s (p ++ a)) ++ f (drop (length p) (scan s (p ++ a)))
  replaced a b f e =
      splice b ∙ ap₂ (λ (u v : List ℕ). u ++ v) (front (take (length p) s) p b a here ∙ sym (splice-take a)) (e ∙ ap f (sym (splice-drop a)))

  -- e is put in after p
  pub put_in : (e : Entry) (a : List Entry) → scan s (p ++ (e ∷ a)) ≡ take (length p) (scan s (p ++ a)) ++ push e (drop (length p) (scan s (p ++ a)))
  put_in e a = replaced a (e ∷ a) (push e) (ripple (drop (length p) s) e (a ++ marks (take (length p) s)))

  -- e is put in after p, and what was first there becomes g
  pub put-over : (e g k : Entry) (a : List Entry)
      → scan s (p ++ (e ∷ (g ∷ a))) ≡ take (length p) (scan s (p ++ (k ∷ a))) ++ over e g (drop (length p) (scan s (p ++ (k ∷ a))))
  unfolding scan rest emit over
  put-over e g k a = replaced (k ∷ a) (e ∷ (g ∷ a)) (over e g) (go (drop (length p) s) (a ++ marks (take (length p) s)))
    where
      go : (d : List (List ℕ)) (q : List Entry) → scan d (e ∷ (g ∷ q)) ≡ over e g (scan d (k ∷ q))
      go [] q = refl
      go (r ∷ d) q = ap₂ (λ (w : ℕ) (l : List ℕ). w ∷ l) (ap (λ (j : ℕ). code e + 4 + j) (sym (occupied-bit (k ∷ q) r))) (ripple d g (q ++ mark r))

-- ---- a run gains an entry: the words from its address on, where q waits on arrival there

-- it is the first of the whole cluster
pub insert-first : (s : List (List ℕ)) (x : ℕ) → emit [] (x ∷ []) ∷ scan s (rest [] (x ∷ [])) ≡ (x * 8 + 1) ∷ scan s (rest [] [])
unfolding emit rest
insert-first s x = refl

pub insert-head : (s : List (List ℕ)) (x y : ℕ) (vs : List ℕ)
    → emit [] (x ∷ y ∷ vs) ∷ scan s (rest [] (x ∷ y ∷ vs)) ≡ (x * 8 + 1) ∷ push (more y) (scan s (rest [] (y ∷ vs)))
unfolding emit rest
insert-head s x y vs = ap (λ (l : List ℕ). (x * 8 + 1) ∷ l) (ripple s (more y) (map more vs))

pub map_more : (a b : List ℕ) → map more (a ++ b) ≡ map more a ++ map more b
map_more [] b = refl
map_more (x ∷ a) b = ap (λ (l : List Entry). more x ∷ l) (map_more a b)

-- it goes behind others of its run: k words on
pub insert-later : (s : List (List ℕ)) (q : List Entry) (u : ℕ) (us : List ℕ) (x : ℕ) (vs : List ℕ)
    → length q + length us ≤ length s
    → (k : ℕ) → suc k ≡ length q + suc (length us)
    → emit q ((u ∷ us) ++ (x ∷ vs)) ∷ scan s (rest q ((u ∷ us) ++ (x ∷ vs)))
    ≡ emit q ((u ∷ us) ++ vs) ∷ (take k (scan s (rest q ((u ∷ us) ++ vs))) ++ push (more x) (drop k (scan s (rest q ((u ∷ us) ++ vs)))))
unfolding emit rest mark
insert-later s [] u us x vs h k e =
    let p = map more us in
    let n : length p ≡ k = length-map us more ∙ (omega arith) in
    let old : map more (us ++ vs) ≡ p ++ map more vs = map_more us vs in
    ap (λ (l : List ℕ). (u * 8 + 1) ∷ l)
    (ap (scan s) (map_more us (x ∷ vs))
    ∙ put_in s p (omega (arith, length-map us more)) (more x) (map more vs)
    ∙ ap₂ (λ (j : ℕ) (l : List Entry). take j (scan s l) ++ push (more x) (drop j (scan s l))) n (sym old))
insert-later s (g ∷ q) u us x vs h k e =
    let p = q ++ (start u ∷ map more us) in
    let n : length p ≡ k = length-append q (start u ∷ map more us) ∙ (omega (arith, length-map us more)) in
    let old : q ++ (start u ∷ map more (us ++ vs)) ≡ p ++ map more vs =
    ap (λ (l : List Entry). q ++ (start u ∷ l)) (map_more us vs) ∙ sym (append_assoc q (start u ∷ map more us) (map more vs)) in
    let new : q ++ (start u ∷ map more (us ++ (x ∷ vs))) ≡ p ++ (more x ∷ map more vs) =
    ap (λ (l : List Entry). q ++ (start u ∷ l)) (map_more us (x ∷ vs)) ∙ sym (append_assoc q (start u ∷ map more us) (more x ∷ map more vs)) in
    ap (λ (l : List ℕ). (code g + 4 + 1) ∷ l)
    (ap (scan s) new
    ∙ put_in s p (omega arith) (more x) (map more vs)
    ∙ ap₂ (λ (j : ℕ) (l : List Entry). take j (scan s l) ++ push (more x) (drop j (scan s l))) n (sym old))

-- it is the first of its run, and others wait before it
pub insert-new : (s : List (List ℕ)) (g : Entry) (q : List Entry) (x : ℕ) → length q ≤ length s
    → emit (g ∷ q) (x ∷ []) ∷ scan s (rest (g ∷ q) (x ∷ []))
    ≡ (code g + 4 + 1) ∷ (take (length q) (scan s (rest (g ∷ q) [])) ++ push (start x) (drop (length q) (scan s (rest (g ∷ q) []))))
unfolding emit rest mark
insert-new s g q x h = ap (λ (l : List ℕ). (code g + 4 + 1) ∷ l) (put_in s q h (start x) [])

pub insert-before : (s : List (List ℕ)) (g : Entry) (q : List Entry) (x y : ℕ) (vs : List ℕ) → length q ≤ length s
    → emit (g ∷ q) (x ∷ y ∷ vs) ∷ scan s (rest (g ∷ q) (x ∷ y ∷ vs))
    ≡ emit (g ∷ q) (y ∷ vs) ∷ (take (length q) (scan s (rest (g ∷ q) (y ∷ vs))) ++ over (start x) (more y) (drop (length q) (scan s (rest (g ∷ q) (y ∷ vs)))))
unfolding emit rest mark
insert-before s g q x y vs h = ap (λ (l : List ℕ). (code g + 4 + 1) ∷ l) (put-over s q h (start x) (more y) (start y) (map more vs))
