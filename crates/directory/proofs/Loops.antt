-- One step of each loop, and its end: what the definitions say at the code's place, by what its tests found there.
use mathlib.Core.Path.{◌≡◌, refl, sym, ap, ◌∙◌, subst}
use mathlib.Core.Bool.{Bool, true, false, not, ◌&&◌}
use mathlib.Core.List.{List, [], ◌∷◌}
use Prim.Native.Nat.{ℕ, ◌+◌, ◌-◌, ◌*◌, ◌≤◌, ◌<◌, ◌^◌}
use native.Mathlib.Numerals.{add-one}
use native.Mathlib.Omega.{arith}
use native.Mathlib.Decide.{dec_le, ℕ_discrete}
use lib.Dec.{T, leb, eqb, eqb→eq}
use Rattle.std.specs.Bool.{IsTrue}
use lib.ListN.{length, get_or, take, drop, drop_of_length-le, length-take}
use lib.Pow.{pow_mono}
use lib.Seq.{drop-cons, get_or-take}
use Rattle.std.specs.List.{sum_by}
use Rattle.std.proofs.lemmas.List.Sums.{sum_by-le}
use Rattle.std.proofs.lemmas.List.Recursion.{is_sum_by}
use borrow.Author.Tests.{eq-eqb, ne_eqb, le-leb, lt-leb}
use Rattle.lists.specs.Lists.{within, every, front, behind}
use Rattle.lists.proofs.Tests.{no_true, true-test, test-true, and_left}
use Rattle.lists.proofs.Alls.{All, all-get, get-all}
use Rattle.slots.specs.Numbers.{limit}
use Rattle.directory.specs.declared.Place.{Place}
use Rattle.directory.specs.Places.{no_place, taken, places_in_use, places_not_in_use, places_right, zero_place, directory_right, words_taken}
use Rattle.directory.proofs.Front.{front-yes, front-no, behind-yes, behind-no, front-take}
use Rattle.directory.proofs.Laws.{right-first, words-cons, words-none}

step : (ps : List Place) → length ps ≡ 15 → (i : ℕ) → i < 15 → drop i ps ≡ get_or ps i no_place ∷ drop (i + 1) ps
step ps l i h = let k : i < length ps = omega arith in rw (add-one, drop-cons ps i no_place)

past : (ps : List Place) → length ps ≡ 15 → (i : ℕ) → 15 ≤ i → drop i ps ≡ []
past ps l i h = let k : length ps ≤ i = omega arith in drop_of_length-le ps k

is_taken : (p : Place) → (p.b ≡ 0 → ⊥) → taken p ≡ true
is_taken p e = ap not (ne_eqb p.b 0 e)

is_free : (p : Place) → p.b ≡ 0 → taken p ≡ false
is_free p e = ap not (eq-eqb p.b 0 e)

-- ---- right places

module _ (k last : ℕ) (p : Place) where
  pub right-1 : p.b ≤ last → false ≡ places_right k last (p ∷ [])
  unfolding places_right
  right-1 h₁ = let e : leb (last + 1) p.b ≡ false = lt-leb (last + 1) p.b (omega arith) in rw e

  module _ (h₁ : last < p.b) where
    e₁ : leb (last + 1) p.b ≡ true
    e₁ = le-leb (last + 1) p.b (omega arith)

    pub right-2 : k < p.b → false ≡ places_right k last (p ∷ [])
    unfolding places_right
    right-2 h₂ = rw (e₁, lt-leb p.b k h₂)

    module _ (h₂ : p.b ≤ k) where
      pub right-3 : p.s < 3 → false ≡ places_right k last (p ∷ [])
      unfolding places_right
      right-3 h₃ = rw (e₁, le-leb p.b k h₂, lt-leb 3 p.s h₃)

      module _ (h₃ : 3 ≤ p.s) where
        pub right-4 : p.b ≤ p.s → false ≡ places_right k last (p ∷ [])
        unfolding places_right
        right-4 h₄ = let e : leb p.s (p.b - 1) ≡ false = lt-leb p.s (p.b - 1) (omega arith) in rw (e₁, le-leb p.b k h₂, le-leb 3 p.s h₃, e)

        pub right-5 : (m : ℕ) → p.s < p.b → m ≡ limit p.s → leb p.count m ≡ places_right k last (p ∷ [])
        unfolding places_right
        right-5 m h₄ e₅ =
            let e : leb p.s (p.b - 1) ≡ true = le-leb p.s (p.b - 1) (omega arith) in
            rw (e₁, le-leb p.b k h₂, le-leb 3 p.s h₃, e, ← e₅) (sym (and-true (leb p.count m)))
          where
            and-true : (t : Bool) → t && true ≡ t
            and-true true = refl
            and-true false = refl

-- the rest are zero: `answer` is the test of those from i on
module _ (ps : List Place) (l : length ps ≡ 15) (i : ℕ) (answer : Bool) (inv : answer ≡ every zero_place (drop i ps)) where
  module _ (h : i < 15) (r : Bool) (e : r ≡ zero_place (get_or ps i no_place)) where
    zero-step : answer ≡ r && every zero_place (drop (i + 1) ps)
    unfolding every
    zero-step = inv ∙ ap (every zero_place) (step ps l i h) ∙ ap (λ t. t && every zero_place (drop (i + 1) ps)) (sym e)

    pub zero-no : r ≡ false → false ≡ answer
    zero-no f = sym (zero-step ∙ ap (λ t. t && every zero_place (drop (i + 1) ps)) f)

    pub zero-yes : r ≡ true → answer ≡ every zero_place (drop (i + 1) ps)
    zero-yes f = zero-step ∙ ap (λ t. t && every zero_place (drop (i + 1) ps)) f

-- the directory from a place on, lengths above `last`
abbrev pub right_from : ℕ → ℕ → List Place → Bool
right_from k last ps = places_right k last (places_in_use ps) && every zero_place (places_not_in_use ps)

pub right-start : (k : ℕ) (ps : List Place) → directory_right k ps ≡ right_from k 5 ps
unfolding directory_right
right-start k ps = refl

regroup : (a b c d e : Bool) → (a && (b && (c && d))) && e ≡ (a && (b && (c && true))) && (d && e)
regroup true true true d e = refl
regroup true true false d e = refl
regroup true false c d e = refl
regroup false b c d e = refl

module _ (k last : ℕ) (ps : List Place) (l : length ps ≡ 15) (i : ℕ) (answer : Bool) (inv : answer ≡ right_from k last (drop i ps)) where
  module _ (h : i < 15) (r : Bool) where
    pub right-free : (get_or ps i no_place).b ≡ 0 → r ≡ every zero_place (drop i ps) → r ≡ answer
    unfolding places_right
    right-free e f =
        let p = get_or ps i no_place in
        let qs = drop (i + 1) ps in
        let u : places_in_use (drop i ps) ≡ [] = ap places_in_use (step ps l i h) ∙ front-no taken p qs (is_free p e) in
        let n : places_not_in_use (drop i ps) ≡ drop i ps = ap places_not_in_use (step ps l i h) ∙ behind-no taken p qs (is_free p e) ∙ sym (step ps l i h) in
        f ∙ sym (inv ∙ ap (λ l. places_right k last l && every zero_place (places_not_in_use (drop i ps))) u ∙ ap (every zero_place) n)

    module _ (e : (get_or ps i no_place).b ≡ 0 → ⊥) (f : r ≡ places_right k last (get_or ps i no_place ∷ [])) where
      right-step : answer ≡ r && right_from k (get_or ps i no_place).b (drop (i + 1) ps)
      unfolding places_right
      right-step =
          let p = get_or ps i no_place in
          let qs = drop (i + 1) ps in
          let u : places_in_use (drop i ps) ≡ p ∷ places_in_use qs = ap places_in_use (step ps l i h) ∙ front-yes taken p qs (is_taken p e) in
          let n : places_not_in_use (drop i ps) ≡ places_not_in_use qs = ap places_not_in_use (step ps l i h) ∙ behind-yes taken p qs (is_taken p e) in
          inv
          ∙ ap (λ l. places_right k last l && every zero_place (places_not_in_use (drop i ps))) u
          ∙ ap (λ l. places_right k last (p ∷ places_in_use qs) && every zero_place l) n
          ∙ regroup (within (last + 1) k p.b) (within 3 (p.b - 1) p.s) (leb p.count (limit p.s)) (places_right k p.b (places_in_use qs))
          (every zero_place (places_not_in_use qs))
          ∙ ap (λ t. t && right_from k p.b qs) (sym f)

      pub right-no : r ≡ false → false ≡ answer
      right-no g = sym (right-step ∙ ap (λ t. t && right_from k (get_or ps i no_place).b (drop (i + 1) ps)) g)

      pub right-yes : r ≡ true → answer ≡ right_from k (get_or ps i no_place).b (drop (i + 1) ps)
      right-yes g = right-step ∙ ap (λ t. t && right_from k (get_or ps i no_place).b (drop (i + 1) ps)) g

  pub right_end : 15 ≤ i → true ≡ answer
  unfolding places_right every front behind
  right_end h = sym (inv ∙ ap (right_from k last) (past ps l i h))

-- ---- words

abbrev pub words_of : Place → ℕ
words_of p = 2 ^ p.s

-- the first n places, none of which is larger than 2^20 words
module _ (ps : List Place) (all : (j : ℕ) → (get_or ps j no_place).s ≤ 20) (n : ℕ) where
  abbrev Small : Place → Type 0
  Small p = p.s ≤ 20

  all-small : All Small (take n ps)
  all-small =
      get-all Small (take n ps) no_place
      (λ k h. let m : k < n = omega (arith, length-take n ps) in subst Small (sym (get_or-take n ps k no_place m)) (all k))

  small : (k : ℕ) (d : Place) → k < length (take n ps) → (get_or (take n ps) k d).s ≤ 20
  small k d h = all-get Small (take n ps) d all-small k h

  pub small-at : (p : Place) (k : ℕ) → k < length (take n ps) → p ≡ get_or (take n ps) k p → p.s ≤ 20
  small-at p k h e = subst Small (sym e) (small k p h)

  pub words-bounded : n ≤ 15 → sum_by words_of (take n ps) ≤ 15 * 1048576
  words-bounded h =
      let most = sum_by-le words_of 1048576 (take n ps) (λ k d l. pow_mono {i = (get_or (take n ps) k d).s} {j = 20} (small k d l)) in
      omega (arith, most, length-take n ps)

pub words-summed : (ps : List Place) (n r : ℕ) → n ≤ length (places_in_use ps) → r ≡ sum_by words_of (take n ps) → r ≡ words_taken (take n (places_in_use ps))
words-summed ps n r h e =
    e ∙ sym (is_sum_by words_taken words_of words-none words-cons (take n ps)) ∙ sym (ap words_taken (front-take taken ps n h))

-- ---- right, and the words, in one walk

-- behind a place that is not in use: no length is above k and at most k
pub right-past : (k : ℕ) (ps : List Place) → right_from k k ps ≡ every zero_place ps
unfolding places_right every front behind
right-past k [] = refl
right-past k (p ∷ ps) = go (ℕ_discrete p.b 0)
  where
    none : within (k + 1) k p.b ≡ false
    none = pick (dec_le (k + 1) p.b)
      where
        pick : Dec (k + 1 ≤ p.b) → within (k + 1) k p.b ≡ false
        pick (yes l) = rw (le-leb (k + 1) p.b l, lt-leb p.b k (omega arith))
        pick (no l) = rw (lt-leb (k + 1) p.b (omega arith))

    go : Dec (p.b ≡ 0) → right_from k k (p ∷ ps) ≡ every zero_place (p ∷ ps)
    go (yes e) = rw (front-no taken p ps (is_free p e), behind-no taken p ps (is_free p e))
    go (no e) = rw (front-yes taken p ps (is_taken p e), behind-yes taken p ps (is_taken p e), none, ne_eqb p.b 0 e)

none-in-use : (ps : List Place) → every zero_place ps ≡ true → places_in_use ps ≡ []
unfolding every front
none-in-use [] e = refl
none-in-use (p ∷ ps) e =
    let z = and_left (zero_place p) (every zero_place ps) (true-test _ e) in
    front-no taken p ps (is_free p (eqb→eq _ _ (and_left (eqb p.b 0) (eqb p.s 0 && eqb p.count 0) z)))

-- before place i: what is left decides, and the words so far and those left are all, where the directory is right
pub record Walk (k : ℕ) (ps : List Place) (last words i : ℕ) : Type 0 where
  pub rest : directory_right k ps ≡ right_from k last (drop i ps)
  pub all : T (directory_right k ps) → words + words_taken (places_in_use (drop i ps)) ≡ words_taken (places_in_use ps)

abbrev pub Walked : ℕ → List Place → ℕ → ℕ → ℕ → Type 0
Walked k ps last words i = (i ≤ 15) × ((words ≤ i * 1048576) × Walk k ps last words i)

pub walk_start : (k : ℕ) (ps : List Place) → Walked k ps 5 0 0
walk_start k ps = (omega arith, (omega arith, record { rest = right-start k ps; all = λ _. omega arith }))

module _ (k last : ℕ) (ps : List Place) (l : length ps ≡ 15) (i words : ℕ) (w : Walked k ps last words i) where
  module _ (h : i < 15) (r : Bool) where
    module _ (e : (get_or ps i no_place).b ≡ 0) (f : r ≡ zero_place (get_or ps i no_place)) where
      rest-zero : directory_right k ps ≡ every zero_place (drop i ps)
      rest-zero = sym (right-free k last ps l i (directory_right k ps) w.1.1.rest h (every zero_place (drop i ps)) e refl)

      pub free-wrong : r ≡ false → false ≡ directory_right k ps
      free-wrong g = zero-no ps l i (directory_right k ps) rest-zero h r f g

      pub free_step : r ≡ true → (last' words' : ℕ) → last' ≡ k → words' ≡ words → Walked k ps last' words' (i + 1)
      free_step g last' words' el ew =
          let z : directory_right k ps ≡ every zero_place (drop (i + 1) ps) = zero-yes ps l i (directory_right k ps) rest-zero h r f g in
          let u : places_in_use (drop i ps) ≡ [] =
          ap places_in_use (step ps l i h) ∙ front-no taken (get_or ps i no_place) (drop (i + 1) ps) (is_free (get_or ps i no_place) e) in (
            omega arith,
            (
              omega (arith, w.1.0),
              record {
                rest = z ∙ sym (right-past k (drop (i + 1) ps)) ∙ ap (λ (n : ℕ). right_from k n (drop (i + 1) ps)) (sym el);
                all = λ t. ap (λ (n : ℕ). n + words_taken (places_in_use (drop (i + 1) ps))) ew
                    ∙ ap (λ (q : List Place). words + words_taken q) (none-in-use (drop (i + 1) ps) (sym z ∙ test-true _ t) ∙ sym u)
                    ∙ w.1.1.all t;
              },
            ),
          )

    module _ (e : (get_or ps i no_place).b ≡ 0 → ⊥) (f : r ≡ places_right k last (get_or ps i no_place ∷ [])) where
      pub used-wrong : r ≡ false → false ≡ directory_right k ps
      used-wrong g = right-no k last ps l i (directory_right k ps) w.1.1.rest h r e f g

      pub used-small : k ≤ 20 → r ≡ true → (get_or ps i no_place).s ≤ 20
      used-small k20 g =
          let q = right-first k last (get_or ps i no_place) [] (true-test _ (sym f ∙ g)) in
          omega (arith, q.b_high, q.s_high)

      pub used_step : r ≡ true → (z : ℕ) → (z ≡ 2 ^ (get_or ps i no_place).s) × (z ≤ 1048576) → (last' words' : ℕ) → last' ≡ (get_or ps i no_place).b
          → words' ≡ words + z
          → Walked k ps last' words' (i + 1)
      used_step g z ez last' words' el ew =
          let p = get_or ps i no_place in
          let qs = drop (i + 1) ps in
          let u : places_in_use (drop i ps) ≡ p ∷ places_in_use qs = ap places_in_use (step ps l i h) ∙ front-yes taken p qs (is_taken p e) in
          let s : words_taken (places_in_use (drop i ps)) ≡ 2 ^ p.s + words_taken (places_in_use qs) = ap words_taken u ∙ words-cons p (places_in_use qs) in (
            omega arith,
            (
              omega (arith, w.1.0, ez.1, ew),
              record {
                rest = right-yes k last ps l i (directory_right k ps) w.1.1.rest h r e f g ∙ ap (λ (n : ℕ). right_from k n qs) (sym el);
                all = λ t. omega (arith, w.1.1.all t, s, ew, ez.0);
              },
            ),
          )

  pub walk_end : 15 ≤ i → IsTrue (directory_right k ps) × (words ≡ words_taken (places_in_use ps))
  unfolding front
  walk_end h =
      let n : words_taken (places_in_use (drop i ps)) ≡ 0 = ap (λ (q : List Place). words_taken (places_in_use q)) (past ps l i h) ∙ words-none in
      let t : IsTrue (directory_right k ps) = sym (right_end k last ps l i (directory_right k ps) w.1.1.rest h) in
      (t, omega (arith, w.1.1.all (true-test _ t), n))

pub walk-wrong : (k : ℕ) (ps : List Place) → false ≡ directory_right k ps → IsTrue (directory_right k ps) → ⊥
walk-wrong k ps e t = no_true (e ∙ t)

-- whether a place is not the default is whether it is not zero
pub zero-test : (p d : Place) (r : Bool) → (d.b ≡ 0) × ((d.s ≡ 0) × (d.count ≡ 0)) → r ≡ not (eqb p.b d.b && (eqb p.s d.s && eqb p.count d.count))
    → not r ≡ zero_place p
zero-test p d r z e = rw (e, z.0, z.1.0, z.1.1) (twice (eqb p.b 0 && (eqb p.s 0 && eqb p.count 0)))
  where
    twice : (t : Bool) → not (not t) ≡ t
    twice true = refl
    twice false = refl
