-- Laws of the machine: lengths, laps, and the turn of the circle.
use mathlib.Core.Path.{◌≡◌, refl, sym, ap, ◌∙◌}
use mathlib.Core.Logic.{◌⊎◌, inl, inr}
use mathlib.Core.List.{List, [], ◌∷◌, ◌++◌}
use Prim.Native.Nat.{ℕ, zero, suc, ◌+◌, ◌-◌, ◌≤◌, ◌<◌, max}
use native.Mathlib.Omega.{arith}
use lib.ListN.{length, length-append, length-map}
use Rattle.layout.specs.Machine.{Entry, more, mark, emit, rest, scan, left, pend, layout}
use Rattle.lists.specs.Runs.{total}

pub Runs : Type 0
Runs = List (List ℕ)

pub mark-length : (r : List ℕ) → length (mark r) ≡ length r
unfolding mark
mark-length [] = refl
mark-length (x ∷ xs) = ap suc (length-map xs more)

-- the carry recurrence
pub rest-length : (q : List Entry) (r : List ℕ) → length (rest q r) ≡ length q + length r - 1
unfolding rest
rest-length [] [] = refl
rest-length [] (x ∷ xs) = omega (arith, length-map xs more)
rest-length (h ∷ q) r = omega (arith, length-append q (mark r), mark-length r)

pub scan-length : (rs : List (List ℕ)) (q : List Entry) → length (scan rs q) ≡ length rs
unfolding scan
scan-length [] q = refl
scan-length (r ∷ rs) q = ap suc (scan-length rs (rest q r))

pub left-append : (a b : List (List ℕ)) (q : List Entry) → left (a ++ b) q ≡ left b (left a q)
unfolding left
left-append [] b q = refl
left-append (r ∷ a) b q = left-append a b (rest q r)

pub scan-append : (a b : List (List ℕ)) (q : List Entry) → scan (a ++ b) q ≡ scan a q ++ scan b (left a q)
unfolding left scan
scan-append [] b q = refl
scan-append (r ∷ a) b q = ap (λ (l : List ℕ). emit q r ∷ l) (scan-append a b (rest q r))

pub total-append : (a b : List (List ℕ)) → total (a ++ b) ≡ total a + total b
unfolding total
total-append [] b = omega arith
total-append (r ∷ a) b = omega (arith, total-append a b)

pub left-mono : (rs : List (List ℕ)) (q q' : List Entry) → length q ≤ length q' → length (left rs q) ≤ length (left rs q')
unfolding left
left-mono [] q q' h = h
left-mono (r ∷ rs) q q' h = left-mono rs (rest q r) (rest q' r) (omega (arith, rest-length q r, rest-length q' r))

pub empty {ℓ} : {A : Type ℓ} (q : List A) → length q ≤ 0 → q ≡ []
empty [] h = refl
empty (x ∷ q) h = absurd (omega arith)

-- a slot that stays empty on a lap over rs which begins with q
pub record Gap (rs : List (List ℕ)) (q : List Entry) : Type 0 where
  pub before : List (List ℕ)
  pub after : List (List ℕ)
  pub split : rs ≡ before ++ ([] ∷ after)
  pub none : left before q ≡ []

Lap : List (List ℕ) → List Entry → Type 0
Lap rs q = Gap rs q ⊎ (length (left rs q) + length rs ≡ length q + total rs)

lap-step : (r : List ℕ) (rs : List (List ℕ)) (q : List Entry) → 1 ≤ length q + length r → Lap rs (rest q r) → Lap (r ∷ rs) q
unfolding Lap left total
lap-step r rs q h (inl g) = inl (record { before = r ∷ g.before; after = g.after; split = ap (λ (l : List (List ℕ)). r ∷ l) g.split; none = g.none })
lap-step r rs q h (inr e) = inr (omega (arith, rest-length q r))

-- a stretch has an empty slot, or it takes one entry a slot
pub lap : (rs : List (List ℕ)) (q : List Entry) → Gap rs q ⊎ (length (left rs q) + length rs ≡ length q + total rs)
unfolding Lap left total
lap [] q = inr refl
lap ([] ∷ rs) [] = inl (record { before = []; after = rs; split = refl; none = refl })
lap ((x ∷ r) ∷ rs) [] = lap-step (x ∷ r) rs [] (omega arith) (lap rs (rest [] (x ∷ r)))
lap ([] ∷ rs) (h ∷ q) = lap-step [] rs (h ∷ q) (omega arith) (lap rs (rest (h ∷ q) []))
lap ((x ∷ r) ∷ rs) (h ∷ q) = lap-step (x ∷ r) rs (h ∷ q) (omega arith) (lap rs (rest (h ∷ q) (x ∷ r)))

-- past a gap nothing is left of what waited at the start
pub forget : (rs : List (List ℕ)) (q q' : List Entry) → Gap rs q → length q' ≤ length q → left rs q' ≡ left rs q
forget rs q q' g h =
    let a : left g.before q' ≡ [] = empty _ (rw g.none at (left-mono g.before q' q h)) in
    rw (g.split, left-append, left-append, a, g.none)

-- a lap that gains nothing ends as the lap from nothing does
pub agree : (x : List (List ℕ)) (q : List Entry) → total x < length x → length q ≤ length (left x q) → left x q ≡ left x []
agree x q h g = go (lap x q)
  where
    go : Gap x q ⊎ (length (left x q) + length x ≡ length q + total x) → left x q ≡ left x []
    go (inl p) = sym (forget x q [] p (omega arith))
    go (inr e) = absurd (omega arith)

-- THE TURN: what waits on arrival at b, on the lap over a and then b, is what waits at the start of the circle turned to b
pub turn-pend : (a b : List (List ℕ)) → total (b ++ a) < length (b ++ a) → left a (pend (a ++ b)) ≡ pend (b ++ a)
unfolding pend
turn-pend a b h =
    let grow : length (left a []) ≤ length (left a (left b (left a []))) = left-mono a [] (left b (left a [])) (omega arith) in
    let e : left (b ++ a) (left a []) ≡ left (b ++ a) [] = agree (b ++ a) (left a []) h (rw (left-append b a (left a [])) grow) in
    rw (left-append a b []) (sym (left-append b a (left a [])) ∙ e)

swap-length : (a b : List (List ℕ)) → total (b ++ a) < length (b ++ a) → total (a ++ b) < length (a ++ b)
swap-length a b h = omega (arith, total-append a b, total-append b a, length-append a b, length-append b a)

pub layout-split : (a b : List (List ℕ)) → total (a ++ b) < length (a ++ b) → layout (a ++ b) ≡ scan a (pend (a ++ b)) ++ scan b (pend (b ++ a))
unfolding layout
layout-split a b h = scan-append a b (pend (a ++ b)) ∙ ap (λ (q : List Entry). scan a (pend (a ++ b)) ++ scan b q) (turn-pend a b (swap-length b a h))

pub layout-turn : (a b : List (List ℕ)) → total (a ++ b) < length (a ++ b) → layout (b ++ a) ≡ scan b (pend (b ++ a)) ++ scan a (pend (a ++ b))
layout-turn a b h = layout-split b a (swap-length b a h)

-- the largest, over the tails of a stretch, of its entries less its slots
unfoldable pub most : List (List ℕ) → ℕ
most [] = 0
most (r ∷ rs) = max (length r + total rs - suc (length rs)) (most rs)

most-whole : (rs : List (List ℕ)) → total rs - length rs ≤ most rs
unfolding most total
most-whole [] = omega arith
most-whole (r ∷ rs) = omega arith

max-same : (v u z m : ℕ) → z ≤ u → v ≡ u → max v m ≡ max u (max z m)
max-same v u z m h e = omega arith

max-low : (v u z m : ℕ) → z ≤ u → v ≤ m → u ≤ m → max v m ≡ max u (max z m)
max-low v u z m h a b = omega arith

most_step : (q r t l m : ℕ) → t - l ≤ m → max (q + r - 1 + t - l) m ≡ max (q + (r + t) - suc l) (max (r + t - suc l) m)
most_step q r t l m h = go (q + r) refl
  where
    go : (k : ℕ) → q + r ≡ k → max (q + r - 1 + t - l) m ≡ max (q + (r + t) - suc l) (max (r + t - suc l) m)
    go zero e = max-low (q + r - 1 + t - l) (q + (r + t) - suc l) (r + t - suc l) m (omega arith) (omega arith) (omega arith)
    go (suc k) e = max-same (q + r - 1 + t - l) (q + (r + t) - suc l) (r + t - suc l) m (omega arith) (omega arith)

left-most : (rs : List (List ℕ)) (q : List Entry) → length (left rs q) ≡ max (length q + total rs - length rs) (most rs)
unfolding left most total
left-most [] q = omega arith
left-most (r ∷ rs) q =
    left-most rs (rest q r)
    ∙ ap (λ (k : ℕ). max (k + total rs - length rs) (most rs)) (rest-length q r)
    ∙ most_step (length q) (length r) (total rs) (length rs) (most rs) (most-whole rs)

pub pend-most : (rs : List (List ℕ)) → length (pend rs) ≡ most rs
unfolding pend
pend-most rs = omega (arith, left-most rs [], most-whole rs)

pub seam : (runs : List (List ℕ)) → total runs < length runs → left runs (pend runs) ≡ pend runs
unfolding pend
seam runs h = agree runs (left runs []) h (left-mono runs [] (left runs []) (omega arith))

-- a slot takes one entry at the most
pub left-room : (rs : List (List ℕ)) (q : List Entry) → length q ≤ length (left rs q) + length rs
unfolding left
left-room [] q = omega arith
left-room (r ∷ rs) q = omega (arith, left-room rs (rest q r), rest-length q r)
