-- The function that takes an entry out, path by path, and the whole remove.
use mathlib.Core.Path.{◌≡◌, refl, sym, ap, ap₂, ◌∙◌, subst}
use mathlib.Core.Bool.{Bool, true, false, cond}
use mathlib.Core.List.{List, [], ◌∷◌, ◌++◌, append_assoc}
use Prim.Native.Nat.{ℕ, zero, suc, ◌+◌, ◌*◌, ◌-◌, ◌/◌, ◌%◌, ◌≤◌, ◌<◌}
use native.Mathlib.Omega.{arith}
use lib.Dec.{T, leb, ltb}
use borrow.Author.Tests.{lt-ltb, le-ltb}
use native.Mathlib.Decide.{dec_lt}
use lib.ListN.{length, take, drop, get_or, set, length-set, length-drop, take-append-drop}
use lib.Seq.{drop-cons, take-suc, take-suc-set, drop-set-lt, length-take-le}
use Rattle.layout.specs.Machine.{layout}
use Rattle.lists.specs.Runs.{total}
use Rattle.layout.specs.Decode.{turn, place_of, run_at}
use Rattle.layout.specs.Document.{carry}
use Rattle.layout.specs.Moves.{wrap, pull, drawing, drawn, remove_at, occs}
use Rattle.layout.specs.Reading.{index}
use Rattle.lists.specs.Runs.{erase, has}
use Rattle.lists.specs.Runs.{rising}
use Rattle.layout.proofs.Rises.{rising-facts}
use Rattle.layout.proofs.Round.{run-at}
use Rattle.layout.proofs.Same.{turn-length, place-of}
use Rattle.layout.proofs.Bridge.{get-wrap, set-wrap, turn-injective}
use Rattle.layout.proofs.Calls.{remove-at}
use Rattle.layout.proofs.Searches.{erase-at, has-at, has-none, erase-gone}
use Rattle.layout.proofs.Puts.{own-word, own-set, layout-length, run_room}

-- ---- the occupied bits of slots 1 to k - 1 of a circle

occs-snoc : (a : List ℕ) (w : ℕ) → occs (a ++ (w ∷ [])) ≡ occs a + w % 2
unfolding occs
occs-snoc [] w = omega arith
occs-snoc (v ∷ a) w = omega (arith, occs-snoc a w)

pub bits-start : (l : List ℕ) → 0 ≡ occs (take (1 - 1) (drop 1 l))
unfolding occs
bits-start l = refl

pub bits-on : (l : List ℕ) (j m w : ℕ) → 1 ≤ j → j < length l → w ≡ get_or l j 0 → m ≡ occs (take (j - 1) (drop 1 l)) → m + w % 2 ≡ occs (take (j + 1 - 1) (drop 1 l))
bits-on [] j m w h g ew e = absurd (omega arith)
bits-on (v ∷ l) j m w h g ew e =
    let i : j ≡ suc (j - 1) = omega arith in
    let i' : suc (j - 1) ≡ j + 1 - 1 = omega arith in
    let ew' : w ≡ get_or l (j - 1) 0 = ew ∙ ap (λ (x : ℕ). get_or (v ∷ l) x 0) i in
    ap₂ (λ (a b : ℕ). a + b % 2) e ew' ∙ sym (occs-snoc (take (j - 1) l) (get_or l (j - 1) 0))
    ∙ ap occs (sym (take-suc l (j - 1) 0 (omega arith))) ∙ ap (λ (x : ℕ). occs (take x l)) i'

-- ---- over the circle begun at the address

only : (l : List ℕ) (u : ℕ) → 0 < length l → set l 0 0 ≡ remove_at u 0 0 l
unfolding remove_at
only [] u h = absurd (omega arith)
only (w ∷ l) u h = refl

next-home : (l : List ℕ) (u v : ℕ) → 0 < length l → drawing (set l 0 (get_or l 1 0 / 8 * 8 + 1)) 0 1 ≡ remove_at u (suc v) 0 l
unfolding remove_at drawing
next-home [] u v h = absurd (omega arith)
next-home (w ∷ l) u v h = refl

away-only : (l : List ℕ) (k : ℕ) → 0 < length l → drawing (set l 0 (get_or l 0 0 / 2 * 2)) (occs (take k (drop 1 l))) (suc k) ≡ remove_at 0 0 (suc k) l
unfolding remove_at drawing drawn
away-only [] k h = absurd (omega arith)
away-only (w ∷ l) k h = refl

away-later : (l : List ℕ) (u v k : ℕ) → 0 < length l → drawing l (occs (take k (drop 1 l))) (suc k) ≡ remove_at (suc u) v (suc k) l
unfolding remove_at drawing drawn
away-later [] u v k h = absurd (omega arith)
away-later (w ∷ l) u v k h = refl

away-first : (l : List ℕ) (v k : ℕ) → suc (suc k) < length l
    → drawing (set l (suc k) (get_or l (suc (suc k)) 0 / 8 * 8 + 4 + get_or l (suc k) 0 % 2)) (occs (take k (drop 1 l)) + get_or l (suc k) 0 % 2) (suc (suc k))
    ≡ remove_at 0 (suc v) (suc k) l
unfolding remove_at drawing drawn
away-first [] v k h = absurd (omega arith)
away-first (w ∷ l) v k h =
    let y = get_or l k 0 in
    let t = get_or l (suc k) 0 in
    let x = t / 8 * 8 + 4 + y % 2 in
    let m = occs (take k l) in
    ap₂ (λ (a b : List ℕ). w ∷ (a ++ pull (m + y % 2) b)) (take-suc-set l k x (omega arith)) (drop-set-lt (suc k) l k x (omega arith))
    ∙ ap (λ (a : List ℕ). w ∷ a) (append_assoc (take k l) (x ∷ []) (pull (m + y % 2) (drop (suc k) l)))
    ∙ ap (λ (d : List ℕ). w ∷ (take k l ++ (x ∷ pull (m + y % 2) d))) (drop-cons l (suc k) 0 (omega arith))
    ∙ ap (λ (d : List ℕ). w ∷ (take k l ++ drawn 0 (suc v) m d)) (sym (drop-cons l k 0 (omega arith) ∙ ap (λ (d : List ℕ). y ∷ d) (drop-cons l (suc k) 0 (omega arith))))

-- only whether one comes behind matters
late : (u a b k : ℕ) (l : List ℕ) → remove_at u (suc a) k l ≡ remove_at u (suc b) k l
unfolding remove_at drawn
late u a b k [] = refl
late u a b zero (w ∷ l) = refl
late zero a b (suc k) (w ∷ l) = ap (λ (x : List ℕ). w ∷ (take k l ++ x)) (go (drop k l))
  where
    go : (d : List ℕ) → drawn 0 (suc a) (occs (take k l)) d ≡ drawn 0 (suc b) (occs (take k l)) d
    go [] = refl
    go (x ∷ []) = refl
    go (x ∷ y ∷ d) = refl
late (suc u) a b (suc k) (w ∷ l) = refl

-- ---- the same, of the words

module _ (ws : List ℕ) (c : ℕ) (hc : c < length ws) where
  some : 0 < length (turn c ws)
  some = omega (arith, turn-length c ws)

  pub word-at : (k n i : ℕ) → length ws ≡ n → k < n → i ≡ wrap n c k → get_or ws i 0 ≡ get_or (turn c ws) k 0
  word-at k n i hn hk ei =
      ap (λ (j : ℕ). get_or ws j 0) (ei ∙ ap (λ (m : ℕ). wrap m c k) (sym hn)) ∙ get-wrap ws c k (omega arith) (omega arith) 0

  pub set_at : (k n i v : ℕ) → length ws ≡ n → k < n → i ≡ wrap n c k → turn c (set ws i v) ≡ set (turn c ws) k v
  set_at k n i v hn hk ei =
      ap (λ (j : ℕ). turn c (set ws j v)) (ei ∙ ap (λ (m : ℕ). wrap m c k) (sym hn)) ∙ set-wrap ws c k (omega arith) (omega arith) v

  module _ (k u v : ℕ) where
    pub pluck-only : k ≡ 0 → v ≡ 0 → turn c (set ws c 0) ≡ remove_at u v k (turn c ws)
    pluck-only ek ev = own-set ws c hc 0 ∙ only (turn c ws) u some ∙ ap₂ (λ (a b : ℕ). remove_at u a b (turn c ws)) (sym ev) (sym ek)

    pub pluck-home : (ws' : List ℕ) (n i : ℕ) → k ≡ 0 → (v ≡ 0 → ⊥) → length ws ≡ n → 1 < n → i ≡ wrap n c 1
        → turn c ws' ≡ drawing (turn c (set ws c (get_or ws i 0 / 8 * 8 + 1))) 0 1 → turn c ws' ≡ remove_at u v k (turn c ws)
    pluck-home ws' n i ek nv hn h1 ei d =
        let e : suc (v - 1) ≡ v = omega arith in
        d ∙ ap (λ (l : List ℕ). drawing l 0 1) (own-set ws c hc (get_or ws i 0 / 8 * 8 + 1) ∙ ap (λ (w : ℕ). set (turn c ws) 0 (w / 8 * 8 + 1)) (word-at 1 n i hn h1 ei))
        ∙ next-home (turn c ws) u (v - 1) some ∙ ap₂ (λ (a b : ℕ). remove_at u a b (turn c ws)) e (sym ek)

    module _ (m : ℕ) (nz : k ≡ 0 → ⊥) (em : m ≡ occs (take (k - 1) (drop 1 (turn c ws)))) where
      up : suc (k - 1) ≡ k
      up = omega arith

      pub pluck-away : (ws' : List ℕ) → u ≡ 0 → v ≡ 0 → turn c ws' ≡ drawing (turn c (set ws c (get_or ws c 0 / 2 * 2))) m k → turn c ws' ≡ remove_at u v k (turn c ws)
      pluck-away ws' eu ev d =
          d ∙ ap₂ (λ (l : List ℕ) (j : ℕ). drawing l m j) (own-set ws c hc (get_or ws c 0 / 2 * 2) ∙ ap (λ (w : ℕ). set (turn c ws) 0 (w / 2 * 2)) (own-word ws c hc)) (sym up)
          ∙ ap (λ (j : ℕ). drawing (set (turn c ws) 0 (get_or (turn c ws) 0 0 / 2 * 2)) j (suc (k - 1))) em
          ∙ away-only (turn c ws) (k - 1) some
          ∙ ap (λ (j : ℕ). remove_at 0 0 j (turn c ws)) up ∙ ap₂ (λ (a b : ℕ). remove_at a b k (turn c ws)) (sym eu) (sym ev)

      pub pluck-later : (ws' : List ℕ) → (u ≡ 0 → ⊥) → turn c ws' ≡ drawing (turn c ws) m k → turn c ws' ≡ remove_at u v k (turn c ws)
      pluck-later ws' nu d =
          let e : suc (u - 1) ≡ u = omega arith in
          d ∙ ap₂ (λ (i j : ℕ). drawing (turn c ws) i j) em (sym up) ∙ away-later (turn c ws) (u - 1) v (k - 1) some
          ∙ ap₂ (λ (a b : ℕ). remove_at a v b (turn c ws)) e up

      pub pluck-first : (ws' : List ℕ) (n i j : ℕ) → u ≡ 0 → (v ≡ 0 → ⊥) → length ws ≡ n → k + 1 < n → i ≡ wrap n c k → j ≡ wrap n c (k + 1)
          → turn c ws' ≡ drawing (turn c (set ws i (get_or ws j 0 / 8 * 8 + 4 + get_or ws i 0 % 2))) (m + get_or ws i 0 % 2) (k + 1)
          → turn c ws' ≡ remove_at u v k (turn c ws)
      pluck-first ws' n i j eu nv hn hk ei ej d =
          let l = turn c ws in
          let e : suc (v - 1) ≡ v = omega arith in
          let k₁ : k + 1 ≡ suc (suc (k - 1)) = omega arith in
          let y : get_or ws i 0 ≡ get_or l (suc (k - 1)) 0 = word-at k n i hn (omega arith) ei ∙ ap (λ (x : ℕ). get_or l x 0) (sym up) in
          let t : get_or ws j 0 ≡ get_or l (suc (suc (k - 1))) 0 = word-at (k + 1) n j hn hk ej ∙ ap (λ (x : ℕ). get_or l x 0) k₁ in
          let x = get_or l (suc (suc (k - 1))) 0 / 8 * 8 + 4 + get_or l (suc (k - 1)) 0 % 2 in
          let s : turn c (set ws i (get_or ws j 0 / 8 * 8 + 4 + get_or ws i 0 % 2)) ≡ set l (suc (k - 1)) x =
          set_at k n i (get_or ws j 0 / 8 * 8 + 4 + get_or ws i 0 % 2) hn (omega arith) ei
          ∙ ap₂ (λ (a b : ℕ). set l k (a / 8 * 8 + 4 + b % 2)) t y ∙ ap (λ (a : ℕ). set l a x) (sym up) in
          d ∙ ap₂ (λ (a : List ℕ) (b : ℕ). drawing a (m + get_or ws i 0 % 2) b) s k₁
          ∙ ap₂ (λ (a b : ℕ). drawing (set l (suc (k - 1)) x) (a + b % 2) (suc (suc (k - 1)))) em y
          ∙ away-first l (v - 1) (k - 1) (omega (arith, turn-length c ws))
          ∙ ap₂ (λ (a b : ℕ). remove_at 0 a b l) e up ∙ ap (λ (a : ℕ). remove_at a v k l) (sym eu)

-- ---- the whole

module _ (ws : List ℕ) (c x : ℕ) (hc : c < length ws) (runs : List (List ℕ)) (el : ws ≡ layout runs) (h : total runs < length runs) where
  n : length ws ≡ length runs
  n = ap length el ∙ layout-length runs

  in-runs : c < length runs
  in-runs = omega (arith, n)

  pub run_is : run_at ws c ≡ get_or runs c []
  run_is = ap (λ (l : List ℕ). run_at l c) el ∙ run-at runs c in-runs h

  pub place_is : place_of ws c ≡ carry runs c
  place_is = ap (λ (l : List ℕ). place_of l c) el ∙ place-of runs c in-runs h

  module _ (u : ℕ) (hu : u < length (run_at ws c)) where
    inside : u < length (get_or runs c [])
    inside = omega (arith, ap length run_is)

    pub spot-fits : place_of ws c + u + 1 < length ws
    spot-fits = omega (arith, n, place_is, inside, run_room runs c in-runs h)

    module _ (k v : ℕ) (eu : u ≡ index (leb x) (run_at ws c)) (ex : get_or (run_at ws c) u 0 ≡ x) (ek : k ≡ place_of ws c + u)
        (ev : v ≡ cond (ltb (u + 1) (length (run_at ws c))) 1 0) where
      at_x : get_or (get_or runs c []) u 0 ≡ x
      at_x = ap (λ (r : List ℕ). get_or r u 0) (sym run_is) ∙ ex

      pub removed : (ws' : List ℕ) → length ws' ≡ length ws → turn c ws' ≡ remove_at u v k (turn c ws) → ws' ≡ layout (set runs c (erase x (get_or runs c [])))
      removed ws' hl t =
          let run = get_or runs c [] in
          let us = take u run in
          let vs = drop (suc u) run in
          let sp : run ≡ us ++ (x ∷ vs) =
          sym (take-append-drop u run) ∙ ap (λ (d : List ℕ). us ++ d) (drop-cons run u 0 inside ∙ ap (λ (y : ℕ). y ∷ vs) at_x) in
          let lu : length us ≡ u = length-take-le u run (omega (arith, inside)) in
          let er : us ++ vs ≡ erase x run = sym (erase-at x run u (eu ∙ ap (index (leb x)) run_is) inside at_x) in
          let new = set runs c (us ++ vs) in
          let ln : length (layout new) ≡ length runs = layout-length new ∙ length-set runs c (us ++ vs) in
          turn-injective c ws' (layout new) (omega arith) (omega (arith, n))
          (t ∙ behind vs ∙ ap₂ (λ (a b : ℕ). remove_at a (length vs) b (turn c ws)) (sym lu) (ek ∙ ap₂ ◌+◌ place_is (sym lu))
          ∙ ap (λ (l : List ℕ). remove_at (length us) (length vs) (carry runs c + length us) (turn c l)) el
          ∙ sym (remove-at runs c in-runs us vs x sp h))
          ∙ ap (λ (r : List ℕ). layout (set runs c r)) er
        where
          nv : length (drop (suc u) (get_or runs c [])) ≡ length (run_at ws c) - suc u
          nv = length-drop (suc u) (get_or runs c []) ∙ ap (λ (r : List ℕ). length r - suc u) (sym run_is)

          go : Dec (u + 1 < length (run_at ws c)) → (vs : List ℕ) → length vs ≡ length (run_at ws c) - suc u → remove_at u v k (turn c ws) ≡ remove_at u (length vs) k (turn c ws)
          go (yes g) [] e = absurd (omega arith)
          go (yes g) (y ∷ vs) e = ap (λ (a : ℕ). remove_at u a k (turn c ws)) (ev ∙ ap (λ (b : Bool). cond b 1 0) (lt-ltb (u + 1) (length (run_at ws c)) g)) ∙ late u 0 (length vs) k (turn c ws)
          go (no g) [] e = ap (λ (a : ℕ). remove_at u a k (turn c ws)) (ev ∙ ap (λ (b : Bool). cond b 1 0) (le-ltb (u + 1) (length (run_at ws c)) (omega arith)))
          go (no g) (y ∷ vs) e = absurd (omega arith)

          behind : (vs : List ℕ) → remove_at u v k (turn c ws) ≡ remove_at u (length (drop (suc u) (get_or runs c []))) k (turn c ws)
          behind vs = go (dec_lt (u + 1) (length (run_at ws c))) (drop (suc u) (get_or runs c [])) nv

      pub held : has x (get_or runs c []) ≡ true
      held = has-at x (get_or runs c []) u inside at_x

  -- it is not there
  module _ (r : T (rising (get_or runs c []))) (gone : index (leb x) (run_at ws c) < length (run_at ws c) → get_or (run_at ws c) (index (leb x) (run_at ws c)) 0 ≡ x → ⊥) where
    pub missing : has x (get_or runs c []) ≡ false
    missing = has-none x (get_or runs c []) (index (leb x) (get_or runs c [])) (rising-facts (get_or runs c []) r) refl (subst (λ (l : List ℕ). index (leb x) l < length l → get_or l (index (leb x) l) 0 ≡ x → ⊥) run_is gone)

    pub unchanged : ws ≡ layout (set runs c (erase x (get_or runs c [])))
    unchanged = el ∙ ap layout (sym (ap (set runs c) (erase-gone x (get_or runs c []) missing) ∙ set_same runs c))
      where
        set_same : (rs : List (List ℕ)) (i : ℕ) → set rs i (get_or rs i []) ≡ rs
        set_same [] i = refl
        set_same (q ∷ rs) zero = refl
        set_same (q ∷ rs) (suc i) = ap (λ (l : List (List ℕ)). q ∷ l) (set_same rs i)
