-- What a right directory says of its places, and the words and the parts of tables that follow one another, each by induction on the places.
use mathlib.Core.Path.{◌≡◌, refl, sym, ap, ap₂, ◌∙◌, subst}
use mathlib.Core.Bool.{Bool, true, false, ◌&&◌}
use mathlib.Core.List.{List, [], ◌∷◌, ◌++◌, append_assoc}
use Prim.Native.Nat.{ℕ, zero, suc, ◌+◌, ◌-◌, ◌≤◌, ◌<◌, ◌^◌}
use native.Mathlib.Omega.{arith}
use native.Mathlib.Decide.{dec_le}
use lib.Dec.{T, leb, eqb, leb→le, eqb→eq}
use lib.ListN.{length, get_or, take, drop, set, replicate, length-append, length-set, get_or-eq_default}
use lib.Seq.{take-length, set-append_left, set_at, get_or_at, split_at, drop-drop}
use borrow.Author.Tests.{eq-eqb, ne_eqb}
use Rattle.lists.specs.Lists.{within, every, sum, front, behind}
use Rattle.lists.proofs.Tests.{and_left, and_right, not_test}
use Rattle.lists.proofs.Alls.{All, all-get, all_map, every-all}
use Rattle.lists.proofs.Sums.{sum-append}
use Rattle.slots.specs.Numbers.{limit}
use Rattle.directory.specs.declared.Place.{Place}
use Rattle.directory.specs.Places.{no_place, taken, other, places_in_use, places_not_in_use, places_right, zero_place, directory_right, words_taken}
use Rattle.directory.specs.Places.{part_in, offset_in, keep, trim, fifteen}
use Rattle.directory.proofs.Front.{front-behind, front_length, front-all, front-append, behind-append, front-set, behind-set}

-- ---- a right directory

pub right-used : (k : ℕ) (ps : List Place) → T (directory_right k ps) → T (places_right k 5 (places_in_use ps))
unfolding directory_right
right-used k ps t = and_left (places_right k 5 (places_in_use ps)) (every zero_place (places_not_in_use ps)) t

pub right-rest : (k : ℕ) (ps : List Place) → T (directory_right k ps) → T (every zero_place (places_not_in_use ps))
unfolding directory_right
right-rest k ps t = and_right (places_right k 5 (places_in_use ps)) (every zero_place (places_not_in_use ps)) t

-- what holds of each place in use
pub record RightPlace (k last : ℕ) (p : Place) : Type 0 where
  pub b_low : last < p.b
  pub b_high : p.b ≤ k
  pub s_low : 3 ≤ p.s
  pub s_high : p.s < p.b
  pub count_high : p.count ≤ limit p.s

pub right-first : (k last : ℕ) (p : Place) (ps : List Place) → T (places_right k last (p ∷ ps)) → RightPlace k last p
unfolding places_right
right-first k last p ps t =
    let q = leb p.count (limit p.s) && places_right k p.b ps in
    let u = and_left (within (last + 1) k p.b) (within 3 (p.b - 1) p.s && q) t in
    let t₁ = and_right (within (last + 1) k p.b) (within 3 (p.b - 1) p.s && q) t in
    let v = and_left (within 3 (p.b - 1) p.s) q t₁ in
    let w = and_left (leb p.count (limit p.s)) (places_right k p.b ps) (and_right (within 3 (p.b - 1) p.s) q t₁) in
    let b₁ : last + 1 ≤ p.b = leb→le _ _ (and_left (leb (last + 1) p.b) (leb p.b k) u) in
    let s₂ : p.s ≤ p.b - 1 = leb→le _ _ (and_right (leb 3 p.s) (leb p.s (p.b - 1)) v) in
    record {
      b_low = omega arith;
      b_high = leb→le _ _ (and_right (leb (last + 1) p.b) (leb p.b k) u);
      s_low = leb→le _ _ (and_left (leb 3 p.s) (leb p.s (p.b - 1)) v);
      s_high = omega arith;
      count_high = leb→le _ _ w;
    }

pub right-next : (k last : ℕ) (p : Place) (ps : List Place) → T (places_right k last (p ∷ ps)) → T (places_right k p.b ps)
unfolding places_right
right-next k last p ps t =
    let q = leb p.count (limit p.s) && places_right k p.b ps in
    and_right (leb p.count (limit p.s)) (places_right k p.b ps)
    (and_right (within 3 (p.b - 1) p.s) q (and_right (within (last + 1) k p.b) (within 3 (p.b - 1) p.s && q) t))

pub places-right : (k last : ℕ) (ps : List Place) → T (places_right k last ps) → All (RightPlace k last) ps
places-right k last [] t = tt
places-right k last (p ∷ ps) t =
    let r : RightPlace k last p = right-first k last p ps t in
    (r, all_map (RightPlace k p.b) (RightPlace k last) (λ q s. lower q r.b_low s) ps (places-right k p.b ps (right-next k last p ps t)))
  where
    lower : (q : Place) → last < p.b → RightPlace k p.b q → RightPlace k last q
    lower q l s = record { b_low = omega arith; b_high = s.b_high; s_low = s.s_low; s_high = s.s_high; count_high = s.count_high }

pub right-places : (k : ℕ) (ps : List Place) → T (directory_right k ps) → All (RightPlace k 5) (places_in_use ps)
right-places k ps t = places-right k 5 (places_in_use ps) (right-used k ps t)

-- an unused place of a right directory is zero
all-zero : (b s count : ℕ) → b ≡ 0 → s ≡ 0 → count ≡ 0 → ◌≡◌ {A = Place} (record { b = b; s = s; count = count }) no_place
all-zero b s count e f g = cc

pub default-is : (p : Place) → (p.b ≡ 0) × ((p.s ≡ 0) × (p.count ≡ 0)) → p ≡ no_place
default-is p z = all-zero p.b p.s p.count z.0 z.1.0 z.1.1

zero_is : (p : Place) → T (zero_place p) → p ≡ no_place
zero_is p t =
    let u = and_right (eqb p.b 0) (eqb p.s 0 && eqb p.count 0) t in
    all-zero p.b p.s p.count (eqb→eq _ _ (and_left (eqb p.b 0) (eqb p.s 0 && eqb p.count 0) t))
    (eqb→eq _ _ (and_left (eqb p.s 0) (eqb p.count 0) u)) (eqb→eq _ _ (and_right (eqb p.s 0) (eqb p.count 0) u))

zeros-are : (ps : List Place) → T (every zero_place ps) → ps ≡ replicate (length ps) no_place
unfolding every
zeros-are [] t = refl
zeros-are (p ∷ ps) t =
    ap₂ (λ (q : Place) (l : List Place). q ∷ l) (zero_is p (and_left (zero_place p) (every zero_place ps) t))
    (zeros-are ps (and_right (zero_place p) (every zero_place ps) t))

-- ---- the fifteen places of the tables in use

pub in-use-append : (ps : List Place) → places_in_use ps ++ places_not_in_use ps ≡ ps
in-use-append ps = front-behind taken ps

pub in-use-taken : (ps : List Place) → All (λ p. T (taken p)) (places_in_use ps)
in-use-taken ps = front-all taken ps

pub in-use-length : (ps : List Place) → length ps ≡ 15 → length (places_in_use ps) ≤ 15
in-use-length ps e = omega (arith, front_length taken ps)

pub in-use-most : (ps : List Place) (n : ℕ) → length ps ≡ 15 → n ≤ length (places_in_use ps) → n ≤ 15
in-use-most ps n e h = omega (arith, in-use-length ps e)

pub fifteen-in-use : (ps : List Place) → length ps ≡ 15 → T (every zero_place (places_not_in_use ps)) → fifteen (places_in_use ps) ≡ ps
fifteen-in-use ps e t =
    let n : length (places_not_in_use ps) ≡ 15 - length (places_in_use ps) = omega (arith, simp length-append at (ap length (in-use-append ps))) in
    ap (λ m. places_in_use ps ++ replicate m no_place) (sym n) ∙ ap (λ l. places_in_use ps ++ l) (sym (zeros-are (places_not_in_use ps) t)) ∙ in-use-append ps

pub fifteen-right : (k : ℕ) (ps : List Place) → length ps ≡ 15 → T (directory_right k ps) → fifteen (places_in_use ps) ≡ ps
fifteen-right k ps e t = fifteen-in-use ps e (right-rest k ps t)

-- a place in use replaced by one in use
pub in-use-set : (ps : List Place) (i : ℕ) (q : Place) → i < length (places_in_use ps) → T (taken q) → places_in_use (set ps i q) ≡ set (places_in_use ps) i q
in-use-set ps i q h t = front-set taken ps i h q t

pub rest-set : (ps : List Place) (i : ℕ) (q : Place) → i < length (places_in_use ps) → T (taken q) → places_not_in_use (set ps i q) ≡ places_not_in_use ps
rest-set ps i q h t = behind-set taken ps i h q t

pub fifteen-set : (us : List Place) (i : ℕ) (q : Place) → i < length us → set (fifteen us) i q ≡ fifteen (set us i q)
fifteen-set us i q h =
    set-append_left us (replicate (15 - length us) no_place) i q h
    ∙ ap (λ (n : ℕ). set us i q ++ replicate (15 - n) no_place) (sym (length-set us i q))

-- what a directory of these tables has in use
none-in-use : (n : ℕ) → places_in_use (replicate n no_place) ≡ []
unfolding front
none-in-use zero = refl
none-in-use (suc n) = refl

pub in-use-fifteen : (us : List Place) → All (λ p. T (taken p)) us → places_in_use (fifteen us) ≡ us
in-use-fifteen us a = front-append taken (replicate (15 - length us) no_place) (none-in-use (15 - length us)) us a

zeros : (n : ℕ) → T (every zero_place (places_not_in_use (replicate n no_place)))
unfolding every behind
zeros zero = tt
zeros (suc n) = zero_rest n
  where
    zero_rest : (m : ℕ) → T (every zero_place (replicate m no_place))
    zero_rest zero = tt
    zero_rest (suc m) = zero_rest m

pub rest-fifteen : (us : List Place) → All (λ p. T (taken p)) us → T (every zero_place (places_not_in_use (fifteen us)))
rest-fifteen us a =
    subst (λ (l : List Place). T (every zero_place l))
    (sym (behind-append taken (replicate (15 - length us) no_place) (none-in-use (15 - length us)) us a)) (zeros (15 - length us))

module _ (us : List Place) (h : length us < 15) where
  room : 15 - length us ≡ suc (14 - length us)
  room = omega arith

  -- with one unused place, or one table, more
  fifteen-free : fifteen us ≡ us ++ no_place ∷ replicate (14 - length us) no_place
  fifteen-free = ap (λ (n : ℕ). us ++ replicate n no_place) room

  fifteen-more : (q : Place) → fifteen (us ++ q ∷ []) ≡ us ++ q ∷ replicate (14 - length us) no_place
  fifteen-more q =
      let n : 15 - length (us ++ q ∷ []) ≡ 14 - length us = omega (arith, length-append us (q ∷ [])) in
      ap (λ (m : ℕ). (us ++ q ∷ []) ++ replicate m no_place) n ∙ append_assoc us (q ∷ []) (replicate (14 - length us) no_place)

  pub fifteen-add : (q : Place) → set (fifteen us) (length us) q ≡ fifteen (us ++ q ∷ [])
  fifteen-add q =
      ap (λ (l : List Place). set l (length us) q) fifteen-free
      ∙ set_at us no_place (replicate (14 - length us) no_place) q (length us) refl
      ∙ sym (fifteen-more q)

  pub fifteen-drop : (q : Place) → set (fifteen (us ++ q ∷ [])) (length us) no_place ≡ fifteen us
  fifteen-drop q =
      ap (λ (l : List Place). set l (length us) no_place) (fifteen-more q)
      ∙ set_at us q (replicate (14 - length us) no_place) no_place (length us) refl
      ∙ sym fifteen-free

  pub fifteen-last : (q : Place) → get_or (fifteen (us ++ q ∷ [])) (length us) no_place ≡ q
  fifteen-last q =
      ap (λ (l : List Place). get_or l (length us) no_place) (fifteen-more q)
      ∙ get_or_at us q (replicate (14 - length us) no_place) no_place (length us) refl

-- ---- sizes, words and parts

all_append : (P : Place → Type 0) (ps qs : List Place) → All P ps → All P qs → All P (ps ++ qs)
all_append P [] qs a b = b
all_append P (p ∷ ps) qs a b = (a.0, all_append P ps qs a.1 b)

-- no place of a right directory is larger than 2^20 words
pub right-sizes : (k : ℕ) (ps : List Place) → k ≤ 20 → T (directory_right k ps) → (j : ℕ) → (get_or ps j no_place).s ≤ 20
right-sizes k ps h t j = go (dec_le (length ps) j)
  where
    Small : Place → Type 0
    Small p = p.s ≤ 20

    used : All Small (places_in_use ps)
    used = all_map (RightPlace k 5) Small (λ p r. omega (arith, r.b_high, r.s_high)) (places_in_use ps) (right-places k ps t)

    rest : All Small (places_not_in_use ps)
    rest =
        all_map (λ p. T (zero_place p)) Small (λ p z. omega (arith, ap (λ (q : Place). q.s) (zero_is p z))) (places_not_in_use ps)
        (every-all zero_place (places_not_in_use ps) (right-rest k ps t))

    small : All Small ps
    small = subst (All Small) (in-use-append ps) (all_append Small (places_in_use ps) (places_not_in_use ps) used rest)

    go : Dec (length ps ≤ j) → (get_or ps j no_place).s ≤ 20
    go (yes l) = omega (arith, ap (λ (q : Place). q.s) (get_or-eq_default ps no_place l))
    go (no l) = all-get Small ps no_place small j (omega arith)

pub words_append : (ps qs : List Place) → words_taken (ps ++ qs) ≡ words_taken ps + words_taken qs
unfolding words_taken
words_append ps qs = sum-append (λ (p : Place). 2 ^ p.s) ps qs

pub words-cons : (p : Place) (ps : List Place) → words_taken (p ∷ ps) ≡ 2 ^ p.s + words_taken ps
unfolding words_taken sum
words-cons p ps = refl

pub words-none : words_taken [] ≡ 0
unfolding words_taken sum
words-none = refl

-- the words of as many tables as there are
pub words-all : (us : List Place) (n words : ℕ) → n ≡ length us → words ≡ words_taken (take n us) → words ≡ words_taken us
words-all us n words e f = f ∙ ap (λ (m : ℕ). words_taken (take m us)) e ∙ ap words_taken (take-length us)

-- another count changes neither the words nor the sizes
pub words-set : (ps : List Place) (i : ℕ) (q : Place) → q.s ≡ (get_or ps i no_place).s → words_taken (set ps i q) ≡ words_taken ps
words-set [] i q e = refl
words-set (p ∷ ps) zero q e = words-cons q ps ∙ ap (λ (n : ℕ). 2 ^ n + words_taken ps) e ∙ sym (words-cons p ps)
words-set (p ∷ ps) (suc i) q e = words-cons p (set ps i q) ∙ ap (λ (n : ℕ). 2 ^ p.s + n) (words-set ps i q e) ∙ sym (words-cons p ps)

pub sizes-set : (ps : List Place) (i : ℕ) (q : Place) → q.s ≡ (get_or ps i no_place).s → (j : ℕ) → (get_or (set ps i q) j no_place).s ≡ (get_or ps j no_place).s
sizes-set [] i q e j = refl
sizes-set (p ∷ ps) zero q e zero = e
sizes-set (p ∷ ps) zero q e (suc j) = refl
sizes-set (p ∷ ps) (suc i) q e zero = refl
sizes-set (p ∷ ps) (suc i) q e (suc j) = sizes-set ps i q e j

-- the table at place i ends within the words of all
pub words_inside : (ps : List Place) (i : ℕ) → i < length ps → words_taken (take i ps) + 2 ^ (get_or ps i no_place).s ≤ words_taken ps
words_inside ps i h =
    let e : words_taken ps ≡ words_taken (take i ps) + words_taken (get_or ps i no_place ∷ drop (suc i) ps)
    = ap words_taken (split_at ps i no_place h) ∙ words_append (take i ps) (get_or ps i no_place ∷ drop (suc i) ps) in
    omega (arith, words-cons (get_or ps i no_place) (drop (suc i) ps))

part-next : (b : ℕ) (p : Place) (ps : List Place) (ws : List ℕ) → T (other b p) → part_in b (p ∷ ps) ws ≡ part_in b ps (drop (2 ^ p.s) ws)
unfolding part_in
part-next b p ps ws t = rw (not_test (eqb b p.b) t, part_in)

offset-next : (b : ℕ) (p : Place) (ps : List Place) → T (other b p) → offset_in b (p ∷ ps) ≡ 2 ^ p.s + offset_in b ps
unfolding offset_in
offset-next b p ps t = rw (not_test (eqb b p.b) t, offset_in)

-- no table of length b
pub part_none : (b : ℕ) (ps : List Place) (ws : List ℕ) → T (every (other b) ps) → part_in b ps ws ≡ []
unfolding every
part_none b [] ws t = unfold part_in in refl
part_none b (p ∷ ps) ws t =
    part-next b p ps ws (and_left (other b p) (every (other b) ps) t) ∙ part_none b ps (drop (2 ^ p.s) ws) (and_right (other b p) (every (other b) ps) t)

-- the first table of length b is at place i
pub part_at : (b : ℕ) (ps : List Place) (i : ℕ) (ws : List ℕ) → i < length ps → T (every (other b) (take i ps)) → b ≡ (get_or ps i no_place).b
    → part_in b ps ws ≡ take (2 ^ (get_or ps i no_place).s) (drop (words_taken (take i ps)) ws)
unfolding every
part_at b [] i ws h t e = absurd (omega arith)
part_at b (p ∷ ps) zero ws h t e = here ∙ ap (λ (n : ℕ). take (2 ^ p.s) (drop n ws)) (sym words-none)
  where
    here : part_in b (p ∷ ps) ws ≡ take (2 ^ p.s) ws
    here = unfold part_in in ap (λ (t : Bool). elim t [ true ↦ take (2 ^ p.s) ws | false ↦ part_in b ps (drop (2 ^ p.s) ws) ]) (eq-eqb b p.b e)
part_at b (p ∷ ps) (suc i) ws h t e =
    part-next b p ps ws (and_left (other b p) (every (other b) (take i ps)) t)
    ∙ part_at b ps i (drop (2 ^ p.s) ws) (omega arith) (and_right (other b p) (every (other b) (take i ps)) t) e
    ∙ ap (take (2 ^ (get_or ps i no_place).s))
    (drop-drop (words_taken (take i ps)) (2 ^ p.s) ws ∙ ap (λ (n : ℕ). drop n ws) (sym (words-cons p (take i ps))))

-- the words before it are those of the tables before it
pub offset_at : (b : ℕ) (ps : List Place) (i : ℕ) → i < length ps → T (every (other b) (take i ps)) → b ≡ (get_or ps i no_place).b
    → words_taken (take i ps) ≡ offset_in b ps
unfolding every
offset_at b [] i h t e = absurd (omega arith)
offset_at b (p ∷ ps) zero h t e = words-none ∙ sym here
  where
    here : offset_in b (p ∷ ps) ≡ 0
    here = unfold offset_in in ap (λ (t : Bool). elim t [ true ↦ 0 | false ↦ 2 ^ p.s + offset_in b ps ]) (eq-eqb b p.b e)
offset_at b (p ∷ ps) (suc i) h t e =
    words-cons p (take i ps)
    ∙ ap (λ (n : ℕ). 2 ^ p.s + n) (offset_at b ps i (omega arith) (and_right (other b p) (every (other b) (take i ps)) t) e)
    ∙ sym (offset-next b p ps (and_left (other b p) (every (other b) (take i ps)) t))

-- ---- empty tables at the end

keep-more : (u : Place) (us : List Place) (p : Place) → keep u (us ++ p ∷ []) ≡ u ∷ (us ++ p ∷ [])
unfolding keep
keep-more u [] p = refl
keep-more u (v ∷ us) p = refl

pub trim-empty : (us : List Place) (p : Place) → p.count ≡ 0 → trim (us ++ p ∷ []) ≡ trim us
unfolding trim
trim-empty [] p e = unfold keep in ap (λ (t : Bool). elim t [ true ↦ [] | false ↦ p ∷ [] ]) (eq-eqb p.count 0 e)
trim-empty (u ∷ us) p e = ap (keep u) (trim-empty us p e)

pub trim-full : (us : List Place) (p : Place) → (p.count ≡ 0 → ⊥) → trim (us ++ p ∷ []) ≡ us ++ p ∷ []
unfolding trim
trim-full [] p e = unfold keep in ap (λ (t : Bool). elim t [ true ↦ [] | false ↦ p ∷ [] ]) (ne_eqb p.count 0 e)
trim-full (u ∷ us) p e = ap (keep u) (trim-full us p e) ∙ keep-more u us p
