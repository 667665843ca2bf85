-- How a layout changes when a run loses an entry: each entry behind it that is not at home moves one slot to the left.
use mathlib.Core.Path.{◌≡◌, refl, sym, ap, ap₂, ◌∙◌, subst}
use mathlib.Core.Logic.{◌⊎◌, inl, inr}
use mathlib.Core.List.{List, [], ◌∷◌, ◌++◌, map, append_assoc, append-nil}
use Prim.Native.Nat.{ℕ, zero, suc, ◌+◌, ◌*◌, ◌-◌, ◌%◌, ◌≤◌, ◌<◌}
use native.Mathlib.Omega.{arith}
use lib.ListN.{length, take, drop, length-append}
use Rattle.layout.specs.Machine.{Entry, start, more, code, occupied, mark, emit, rest, scan, left, pend}
use Rattle.lists.specs.Runs.{total}
use Rattle.layout.proofs.Laws.{rest-length, Gap, lap, seam}
use Rattle.layout.specs.Decode.{entry}
use Rattle.layout.proofs.Round.{marks, filled, entry-moved, occupied-bit, shifted-bit, home-bit}
use Rattle.layout.proofs.Insert.{replaced}
use Rattle.layout.specs.Moves.{choose, closer, is_start, pull}

-- the runs that begin in a queue
unfoldable pub starts : List Entry → ℕ
starts [] = 0
starts (e ∷ q) = is_start e + starts q

pub starts-append : (a b : List Entry) → starts (a ++ b) ≡ starts a + starts b
unfolding starts
starts-append [] b = omega arith
starts-append (e ∷ a) b = omega (arith, starts-append a b)

pub starts_more : (xs : List ℕ) → starts (map more xs) ≡ 0
unfolding starts
starts_more [] = refl
starts_more (x ∷ xs) = omega (arith, starts_more xs)

pub starts-mark : (r : List ℕ) → starts (mark r) ≡ occupied r
unfolding starts mark
starts-mark [] = refl
starts-mark (x ∷ xs) = omega (arith, starts_more xs)

pub starts-marks : (rs : List (List ℕ)) → starts (marks rs) ≡ filled rs
unfolding marks filled starts
starts-marks [] = refl
starts-marks (r ∷ rs) = starts-append (mark r) (marks rs) ∙ ap₂ ◌+◌ (starts-mark r) (starts-marks rs)

-- a gap that is met with something in hand is further on
pub gap-tail : (r : List ℕ) (s : List (List ℕ)) (e : Entry) (q : List Entry) → Gap (r ∷ s) (e ∷ q) → Gap s (q ++ mark r)
unfolding left rest
gap-tail r s e q g = go g.before g.split g.none
  where
    go : (b : List (List ℕ)) → r ∷ s ≡ b ++ ([] ∷ g.after) → left b (e ∷ q) ≡ [] → Gap s (q ++ mark r)
    go [] sp n = absurd (omega (arith, ap length n))
    go (t ∷ b) sp n =
        let hd : t ≡ r = cc in
        let tl : s ≡ b ++ ([] ∷ g.after) = cc in
        record { before = b; after = g.after; split = tl; none = ap (λ (k : List ℕ). left b (q ++ mark k)) (sym hd) ∙ n }

-- the words after the gap in hand
alone : (s : List (List ℕ)) (w n : ℕ) → pull n (w ∷ scan s []) ≡ 0 ∷ scan s []
unfolding pull scan
alone [] w n = refl
alone (r ∷ s) w n =
    let v = emit [] r in
    let t = scan s (rest [] r) in
    ap (λ (k : ℕ). choose k (0 ∷ v ∷ t) (closer (entry v) n w ∷ pull (n + w % 2 - is_start (entry v)) (v ∷ t))) (home-bit r)

-- what is pulled where k comes next
next : (r : List ℕ) (s : List (List ℕ)) (k : Entry) (q : List Entry) (w n : ℕ)
    → pull n (w ∷ scan (r ∷ s) (k ∷ q)) ≡ closer k n w ∷ pull (n + w % 2 - is_start k) (scan (r ∷ s) (k ∷ q))
unfolding pull scan emit
next r s k q w n =
    let v = code k + 4 + occupied r in
    let t = scan s (rest (k ∷ q) r) in
    ap (λ (j : ℕ). choose j (0 ∷ v ∷ t) (closer (entry v) n w ∷ pull (n + w % 2 - is_start (entry v)) (v ∷ t))) (shifted-bit k q r)
    ∙ ap (λ (j : Entry). closer j n w ∷ pull (n + w % 2 - is_start j) (v ∷ t)) (entry-moved k r)

pub no_gap : (q : List Entry) → Gap [] q → ⊥
no_gap q g = omega (arith, ap length g.split, length-append g.before ([] ∷ g.after))

closer-moved : (h : Entry) (n w : ℕ) → is_start h ≤ n → closer h n w ≡ code h + 4 + w % 2
closer-moved (start p) zero w l = absurd (omega arith)
closer-moved (start p) (suc n) w l = refl
closer-moved (more p) n w l = refl

-- THE PULL undoes the ripple, where a slot is empty further on
pub pulled : (s : List (List ℕ)) (e : Entry) (q : List Entry) → Gap s (e ∷ q) → pull (starts q) (scan s (e ∷ q)) ≡ scan s q
unfolding scan rest emit mark starts
pulled [] e q g = absurd (no_gap (e ∷ q) g)
pulled ([] ∷ s) e [] g = alone s (code e + 4 + 0) 0
pulled ((x ∷ xs) ∷ []) e [] g = absurd (no_gap _ (gap-tail (x ∷ xs) [] e [] g))
pulled ((x ∷ xs) ∷ (r ∷ s)) e [] g =
    let w = code e + 4 + 1 in
    let n : 0 + w % 2 - 1 ≡ starts (map more xs) = omega (arith, occupied-bit (e ∷ []) (x ∷ xs), starts_more xs) in
    next r s (start x) (map more xs) w 0
    ∙ ap (λ (l : List ℕ). (x * 8 + 1) ∷ l)
    (ap (λ (k : ℕ). pull k (scan (r ∷ s) (start x ∷ map more xs))) n ∙ pulled (r ∷ s) (start x) (map more xs) (gap-tail (x ∷ xs) (r ∷ s) e [] g))
pulled (t ∷ []) e (h ∷ q) g = absurd (no_gap _ (gap-tail t [] e (h ∷ q) g))
pulled (t ∷ (r ∷ s)) e (h ∷ q) g =
    let w = code e + 4 + occupied t in
    let b : w % 2 ≡ occupied t = occupied-bit (e ∷ (h ∷ q)) t in
    let n : is_start h + starts q + w % 2 - is_start h ≡ starts (q ++ mark t) = omega (arith, starts-append q (mark t), starts-mark t) in
    next r s h (q ++ mark t) w (is_start h + starts q)
    ∙ ap₂ (λ (a : ℕ) (l : List ℕ). a ∷ l)
    (closer-moved h (is_start h + starts q) w (omega arith) ∙ ap (λ (k : ℕ). code h + 4 + k) b)
    (ap (λ (k : ℕ). pull k (scan (r ∷ s) (h ∷ (q ++ mark t)))) n ∙ pulled (r ∷ s) h (q ++ mark t) (gap-tail t (r ∷ s) e (h ∷ q) g))

-- the entry after p goes: the words that p fills stay
pub take_out : (s : List (List ℕ)) (p : List Entry) (h : length p ≤ length s) (e : Entry) (a : List Entry)
    → Gap (drop (length p) s) (e ∷ (a ++ marks (take (length p) s)))
    → scan s (p ++ a) ≡ take (length p) (scan s (p ++ (e ∷ a))) ++ pull (starts a + filled (take (length p) s)) (drop (length p) (scan s (p ++ (e ∷ a))))
take_out s p h e a g =
    let m = marks (take (length p) s) in
    let n : starts (a ++ m) ≡ starts a + filled (take (length p) s) = starts-append a m ∙ ap (λ (k : ℕ). starts a + k) (starts-marks (take (length p) s)) in
    replaced s p h (e ∷ a) a (pull (starts a + filled (take (length p) s)))
    (sym (ap (λ (k : ℕ). pull k (scan (drop (length p) s) (e ∷ (a ++ m)))) (sym n) ∙ pulled (drop (length p) s) e (a ++ m) g))

-- ---- where the empty slot is

-- past the slots that p fills
pub gap-skip : (u v : List (List ℕ)) (p a : List Entry) → length u ≡ length p → Gap (u ++ v) (p ++ a) → Gap v (a ++ marks u)
unfolding marks
gap-skip [] v [] a e g = subst (λ (q : List Entry). Gap v q) (sym (append-nil a)) g
gap-skip [] v (h ∷ p) a e g = absurd (omega arith)
gap-skip (r ∷ u) v [] a e g = absurd (omega arith)
gap-skip (r ∷ u) v (h ∷ p) a e g =
    let g₁ : Gap (u ++ v) (p ++ (a ++ mark r)) = subst (λ (q : List Entry). Gap (u ++ v) q) (append_assoc p a (mark r)) (gap-tail r (u ++ v) h (p ++ a) g) in
    subst (λ (q : List Entry). Gap v q) (append_assoc a (mark r) (marks u)) (gap-skip u v p (a ++ mark r) (omega arith) g₁)

-- on the lap from an address that has an entry
pub gap_here : (r : List ℕ) (s : List (List ℕ)) → total (r ∷ s) < length (r ∷ s) → 1 ≤ length r → Gap s (rest (pend (r ∷ s)) r)
unfolding total
gap_here r s h hr = go (lap s (rest q r))
  where
    q : List Entry
    q = pend (r ∷ s)

    full : left s (rest q r) ≡ q
    full = unfold left in seam (r ∷ s) h

    go : Gap s (rest q r) ⊎ (length (left s (rest q r)) + length s ≡ length (rest q r) + total s) → Gap s (rest q r)
    go (inl g) = g
    go (inr e) = absurd (omega (arith, ap length full, rest-length q r))
