-- Laws of searches in a run, and what a search has to do with adding and erasing.
use mathlib.Core.Path.{◌≡◌, refl, sym, ap, ◌∙◌, subst}
use mathlib.Core.Bool.{Bool, true, false, cond}
use mathlib.Core.List.{List, [], ◌∷◌, ◌++◌}
use Prim.Native.Nat.{ℕ, zero, suc, ◌+◌, ◌-◌, ◌≤◌, ◌<◌}
use native.Mathlib.Omega.{arith}
use native.Mathlib.Decide.{dec_le, ℕ_discrete}
use lib.Dec.{ltb, leb}
use borrow.Author.Tests.{lt-leb, le-leb, ltb-true, ltb-false}
use lib.ListN.{length, take, drop, get_or}
use lib.Seq.{drop-cons}
use Rattle.layout.specs.Reading.{index}
use Rattle.lists.specs.Runs.{add, erase, has}
use Rattle.layout.proofs.Rises.{Above, Rising}
use Rattle.lists.proofs.RunLaws.{add-here, add-next, erase-here, erase-next, has_here, has-next}

pub clash : true ≡ false → ⊥
clash e = go (ap num e)
  where
    num : Bool → ℕ
    num true = 1
    num false = 0

    go : num true ≡ num false → ⊥
    go d = omega arith

-- t entries are passed: what is still to come
pub record Seeking (f : ℕ → Bool) (run : List ℕ) (t : ℕ) : Type 0 where
  pub within : t ≤ length run
  pub rest : index f run ≡ t + index f (drop t run)

pub seeking-start : (f : ℕ → Bool) (run : List ℕ) → Seeking f run 0
seeking-start f run = record { within = omega arith; rest = omega arith }

pub true-lt : (t n : ℕ) (b : Bool) → b ≡ ltb t n → b ≡ true → t < n
true-lt t n b e z = ltb-true t n (sym e ∙ z)

pub false-le : (t n : ℕ) (b : Bool) → b ≡ ltb t n → b ≡ false → n ≤ t
false-le t n b e z = ltb-false t n (sym e ∙ z)

module _ (f : ℕ → Bool) (run : List ℕ) (t : ℕ) (s : Seeking f run t) where
  pub seeking-end : length run ≤ t → index f run ≡ t
  unfolding index
  seeking-end h = s.rest ∙ ap (λ (d : List ℕ). t + index f d) (lib.ListN.drop_of_length-le run {i = t} h) ∙ (omega arith)

  module _ (h : t < length run) where
    pub seeking-found : f (get_or run t 0) ≡ true → index f run ≡ t
    unfolding index
    seeking-found e =
        s.rest ∙ ap (λ (d : List ℕ). t + index f d) (drop-cons run t 0 h)
        ∙ ap (λ (b : Bool). t + cond b 0 (suc (index f (drop (suc t) run)))) e ∙ (omega arith)

    pub seeking-on : f (get_or run t 0) ≡ false → Seeking f run (t + 1)
    unfolding index
    seeking-on e =
        let i : suc t ≡ t + 1 = omega arith in
        record {
          within = omega arith;
          rest =
              s.rest ∙ ap (λ (d : List ℕ). t + index f d) (drop-cons run t 0 h)
              ∙ ap (λ (b : Bool). t + cond b 0 (suc (index f (drop (suc t) run)))) e
              ∙ ap (λ (j : ℕ). t + suc (index f (drop j run))) i ∙ (omega arith);
        }

pub index-le : (f : ℕ → Bool) (run : List ℕ) → index f run ≤ length run
unfolding index
index-le f [] = omega arith
index-le f (y ∷ ys) = go (f y) (index-le f ys)
  where
    go : (b : Bool) → index f ys ≤ length ys → cond b 0 (suc (index f ys)) ≤ suc (length ys)
    go true h = omega arith
    go false h = omega arith

-- ---- adding and erasing by the place that a search finds

pub add_at : (x : ℕ) (run : List ℕ) → add x run ≡ take (index (leb x) run) run ++ (x ∷ drop (index (leb x) run) run)
unfolding index add
add_at x [] = refl
add_at x (y ∷ ys) = go (leb x y) (add_at x ys)
  where
    go : (b : Bool) → add x ys ≡ take (index (leb x) ys) ys ++ (x ∷ drop (index (leb x) ys) ys)
        → cond b (x ∷ y ∷ ys) (y ∷ add x ys)
        ≡ take (cond b 0 (suc (index (leb x) ys))) (y ∷ ys) ++ (x ∷ drop (cond b 0 (suc (index (leb x) ys))) (y ∷ ys))
    go true ih = refl
    go false ih = ap (λ (l : List ℕ). y ∷ l) ih

-- the first of a run is x or larger, or smaller
index-here : (x y : ℕ) (ys : List ℕ) → x ≤ y → index (leb x) (y ∷ ys) ≡ 0
unfolding index
index-here x y ys h = ap (λ (b : Bool). cond b 0 (suc (index (leb x) ys))) (le-leb x y h)

index-next : (x y : ℕ) (ys : List ℕ) → y < x → index (leb x) (y ∷ ys) ≡ suc (index (leb x) ys)
unfolding index
index-next x y ys h = ap (λ (b : Bool). cond b 0 (suc (index (leb x) ys))) (lt-leb x y h)

-- the entry there is x: it is the one that is erased
pub erase-at : (x : ℕ) (run : List ℕ) (u : ℕ) → u ≡ index (leb x) run → u < length run → get_or run u 0 ≡ x → erase x run ≡ take u run ++ drop (suc u) run
erase-at x [] u eu h e = absurd (omega arith)
erase-at x (y ∷ ys) u eu h e = go (dec_le x y) (erase-at x ys (u - 1))
  where
    go : Dec (x ≤ y) → (u - 1 ≡ index (leb x) ys → u - 1 < length ys → get_or ys (u - 1) 0 ≡ x → erase x ys ≡ take (u - 1) ys ++ drop (suc (u - 1)) ys)
        → erase x (y ∷ ys) ≡ take u (y ∷ ys) ++ drop (suc u) (y ∷ ys)
    go (yes g) ih =
        let z : u ≡ 0 = eu ∙ index-here x y ys g in
        let ey : x ≡ y = sym e ∙ ap (λ (i : ℕ). get_or (y ∷ ys) i 0) z in
        erase-here x y ys ey ∙ sym (ap (λ (i : ℕ). take i (y ∷ ys) ++ drop (suc i) (y ∷ ys)) z)
    go (no g) ih =
        let s : u ≡ suc (index (leb x) ys) = eu ∙ index-next x y ys (omega arith) in
        let v : u ≡ suc (u - 1) = omega arith in
        erase-next x y ys (λ z. absurd (g (omega arith)))
        ∙ ap (λ (l : List ℕ). y ∷ l) (ih (omega arith) (omega arith) (sym (ap (λ (i : ℕ). get_or (y ∷ ys) i 0) v) ∙ e))
        ∙ sym (ap (λ (i : ℕ). take i (y ∷ ys) ++ drop (suc i) (y ∷ ys)) v)

-- what is read in a run is in it
pub has-at : (x : ℕ) (run : List ℕ) (u : ℕ) → u < length run → get_or run u 0 ≡ x → has x run ≡ true
has-at x [] u h e = absurd (omega arith)
has-at x (y ∷ ys) zero h e = has_here x y ys (sym e)
has-at x (y ∷ ys) (suc u) h e = go (ℕ_discrete x y) (has-at x ys u (omega arith) e)
  where
    go : Dec (x ≡ y) → has x ys ≡ true → has x (y ∷ ys) ≡ true
    go (yes d) ih = has_here x y ys d
    go (no d) ih = has-next x y ys d ∙ ih

-- nothing changes where x is not in the run
pub erase-gone : (x : ℕ) (run : List ℕ) → has x run ≡ false → erase x run ≡ run
erase-gone x [] h = unfold erase in refl
erase-gone x (y ∷ ys) h = go (ℕ_discrete x y) (erase-gone x ys)
  where
    go : Dec (x ≡ y) → (has x ys ≡ false → erase x ys ≡ ys) → erase x (y ∷ ys) ≡ y ∷ ys
    go (yes d) ih = absurd (clash (sym (has_here x y ys d) ∙ h))
    go (no d) ih = erase-next x y ys d ∙ ap (λ (l : List ℕ). y ∷ l) (ih (sym (has-next x y ys d) ∙ h))

-- a rising run that begins above x
has-low : (x y : ℕ) (ys : List ℕ) → Rising (y ∷ ys) → x < y → has x (y ∷ ys) ≡ false
unfolding Rising Above has
has-low x y [] r h = has-next x y [] (λ z. absurd (omega arith))
has-low x y (z ∷ zs) r h = has-next x y (z ∷ zs) (λ e. absurd (omega arith)) ∙ has-low x z zs r.1 (omega (arith, r.0))

-- there is none, or another: x is not in the run
pub has-none : (x : ℕ) (run : List ℕ) (u : ℕ) → Rising run → u ≡ index (leb x) run → (u < length run → get_or run u 0 ≡ x → ⊥) → has x run ≡ false
unfolding Rising
has-none x [] u r eu n = unfold has in refl
has-none x (y ∷ ys) u r eu n = go (dec_le x y) (has-none x ys (u - 1) r.1)
  where
    other : (y ≡ x → ⊥) → x ≤ y → x < y
    other d h = omega arith

    go : Dec (x ≤ y) → (u - 1 ≡ index (leb x) ys → (u - 1 < length ys → get_or ys (u - 1) 0 ≡ x → ⊥) → has x ys ≡ false) → has x (y ∷ ys) ≡ false
    go (yes g) ih =
        let z : u ≡ 0 = eu ∙ index-here x y ys g in
        let d : y ≡ x → ⊥ = λ e. n (omega arith) (ap (λ (i : ℕ). get_or (y ∷ ys) i 0) z ∙ e) in
        has-low x y ys r (other d g)
    go (no g) ih =
        let s : u ≡ suc (index (leb x) ys) = eu ∙ index-next x y ys (omega arith) in
        let v : u ≡ suc (u - 1) = omega arith in
        has-next x y ys (λ z. absurd (g (omega arith)))
        ∙ ih (omega arith) (λ h e. n (omega arith) (ap (λ (i : ℕ). get_or (y ∷ ys) i 0) v ∙ e))

-- ---- the last x becomes suc x

-- none is below y
add-front : (y : ℕ) (zs : List ℕ) → index (leb y) zs ≡ 0 → add y zs ≡ y ∷ zs
add-front y [] e = unfold add in refl
add-front y (z ∷ zs) e = go (dec_le y z)
  where
    go : Dec (y ≤ z) → add y (z ∷ zs) ≡ y ∷ z ∷ zs
    go (yes h) = add-here y z zs h
    go (no h) = absurd (omega (arith, index-next y z zs (omega arith)))

-- a run of which one is below suc x, and all from z on, begins with x where z is x
again : (x : ℕ) (zs : List ℕ) → Above x zs → 1 ≤ index (leb (suc x)) zs → x ∷ add (suc x) (erase x zs) ≡ add (suc x) zs
unfolding Above
again x [] a h = absurd (unfold index in omega arith)
again x (w ∷ ws) a h = go (dec_le (suc x) w)
  where
    go : Dec (suc x ≤ w) → x ∷ add (suc x) (erase x (w ∷ ws)) ≡ add (suc x) (w ∷ ws)
    go (yes g) = absurd (omega (arith, index-here (suc x) w ws g))
    go (no g) =
        let e : x ≡ w = omega arith in
        ap (λ (l : List ℕ). x ∷ add (suc x) l) (erase-here x w ws e) ∙ ap (λ (v : ℕ). v ∷ add (suc x) ws) e ∙ sym (add-next (suc x) w ws (omega arith))

pub last-turned : (x : ℕ) (run : List ℕ) (u : ℕ) → Rising run → suc u ≡ index (leb (suc x)) run → get_or run u 0 ≡ x
    → take u run ++ (suc x ∷ drop (suc u) run) ≡ add (suc x) (erase x run)
unfolding Rising
last-turned x [] u r eu e = absurd (unfold index in omega arith)
last-turned x (z ∷ zs) u r eu e = go (dec_le (suc x) z) u eu e (λ v. last-turned x zs v r.1)
  where
    go : Dec (suc x ≤ z) → (u : ℕ) → suc u ≡ index (leb (suc x)) (z ∷ zs) → get_or (z ∷ zs) u 0 ≡ x
        → ((v : ℕ) → suc v ≡ index (leb (suc x)) zs → get_or zs v 0 ≡ x → take v zs ++ (suc x ∷ drop (suc v) zs) ≡ add (suc x) (erase x zs))
        → take u (z ∷ zs) ++ (suc x ∷ drop (suc u) (z ∷ zs)) ≡ add (suc x) (erase x (z ∷ zs))
    go (yes h) u eu e ih = absurd (omega (arith, index-here (suc x) z zs h))
    go (no h) zero eu e ih =
        let i : index (leb (suc x)) zs ≡ 0 = omega (arith, index-next (suc x) z zs (omega arith)) in
        sym (add-front (suc x) zs i) ∙ ap (add (suc x)) (sym (erase-here x z zs (sym e)))
    go (no h) (suc v) eu e ih = late (ℕ_discrete x z)
      where
        i : suc v ≡ index (leb (suc x)) zs
        i = omega (arith, index-next (suc x) z zs (omega arith))

        late : Dec (x ≡ z) → z ∷ (take v zs ++ (suc x ∷ drop (suc v) zs)) ≡ add (suc x) (erase x (z ∷ zs))
        late (yes d) =
            ap (λ (l : List ℕ). z ∷ l) (ih v i e) ∙ ap (λ (w : ℕ). w ∷ add (suc x) (erase x zs)) (sym d)
            ∙ again x zs (subst (λ (w : ℕ). Above w zs) (sym d) r.0) (omega (arith, i)) ∙ ap (add (suc x)) (sym (erase-here x z zs d))
        late (no d) =
            ap (λ (l : List ℕ). z ∷ l) (ih v i e) ∙ sym (add-next (suc x) z (erase x zs) (omega arith)) ∙ ap (add (suc x)) (sym (erase-next x z zs d))

has_first : (x : ℕ) (ys : List ℕ) → Above x ys → 1 ≤ index (leb (suc x)) ys → has x ys ≡ true
unfolding Above
has_first x [] a g = absurd (unfold index in omega arith)
has_first x (w ∷ ws) a g = has_here x w ws (tight (dec_le (suc x) w))
  where
    tight : Dec (suc x ≤ w) → x ≡ w
    tight (yes q) = absurd (omega (arith, index-here (suc x) w ws q))
    tight (no q) = omega arith

-- the last below suc x is no x
pub has_last : (x : ℕ) (run : List ℕ) (i : ℕ) → Rising run → i ≡ index (leb (suc x)) run → (1 ≤ i → get_or run (i - 1) 0 ≡ x → ⊥) → has x run ≡ false
unfolding Rising
has_last x [] i r ei n = unfold has in refl
has_last x (z ∷ zs) i r ei n = go (dec_le (suc x) z) (has_last x zs (i - 1) r.1)
  where
    go : Dec (suc x ≤ z) → (i - 1 ≡ index (leb (suc x)) zs → (1 ≤ i - 1 → get_or zs (i - 1 - 1) 0 ≡ x → ⊥) → has x zs ≡ false) → has x (z ∷ zs) ≡ false
    go (yes h) ih = has-low x z zs r (omega arith)
    go (no h) ih = has-next x z zs differ ∙ rest
      where
        s : i ≡ suc (index (leb (suc x)) zs)
        s = ei ∙ index-next (suc x) z zs (omega arith)

        step : 1 ≤ i - 1 → get_or zs (i - 1 - 1) 0 ≡ get_or (z ∷ zs) (i - 1) 0
        step g =
            let v : i - 1 ≡ suc (i - 1 - 1) = omega arith in
            sym (ap (λ (j : ℕ). get_or (z ∷ zs) j 0) v)

        rest : has x zs ≡ false
        rest = ih (omega (arith, s)) (λ g e. n (omega arith) (sym (step g) ∙ e))

        differ : x ≡ z → ⊥
        differ d = split (dec_le 1 (i - 1))
          where
            split : Dec (1 ≤ i - 1) → ⊥
            split (no g) =
                let o : i - 1 ≡ 0 = omega arith in
                n (omega (arith, s)) (ap (λ (j : ℕ). get_or (z ∷ zs) j 0) o ∙ sym d)
            split (yes g) = clash (sym (has_first x zs (subst (λ (w : ℕ). Above w zs) (sym d) r.0) (omega (arith, s))) ∙ rest)
