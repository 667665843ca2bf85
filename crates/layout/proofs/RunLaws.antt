-- Laws of runs: reading one by its entries, searching it, and what a search has to do with adding and erasing.
use mathlib.Core.Path.{◌≡◌, refl, sym, ap, ap₂, ◌∙◌}
use mathlib.Core.Bool.{Bool, true, false, cond}
use mathlib.Core.List.{List, [], ◌∷◌, ◌++◌, map, reverse, append-nil}
use Prim.Native.Nat.{ℕ, zero, suc, ◌+◌, ◌-◌, ◌/◌, ◌%◌, ◌≤◌, ◌<◌}
use native.Mathlib.Omega.{arith}
use native.Mathlib.Decide.{dec_lt}
use lib.Dec.{ltb}
use borrow.Author.Tests.{lt-ltb, le-ltb, le-leb}
use lib.ListN.{length, drop, get_or, length-drop}
use lib.Seq.{drop-cons, take-length, drop-length}
use Rattle.layout.specs.Machine.{Entry, start, more}
use Rattle.layout.specs.Decode.{turn, entry, entry_of, stop', steps, passed, mores, nth, skip, ahead, reading, last_run, last_place, run_at, place_of}
use Rattle.layout.specs.Moves.{wrap, back, lefts, rights}
use Rattle.layout.specs.Reading.{payload_of, here, run_from, home_of}
use Rattle.layout.proofs.Same.{turn-length}
use Rattle.layout.proofs.Bridge.{turn-home, get-back}
use Rattle.layout.proofs.Walks.{rights-length, read}

-- ---- where a run is

pub nth_here : (m : ℕ) (l : List Entry) → here (drop (skip m l) l) ≡ nth m l
unfolding here nth skip
nth_here m [] = refl
nth_here m (more p ∷ es) = nth_here m es
nth_here zero (start p ∷ es) = refl
nth_here (suc m) (start p ∷ es) = nth_here m es

next-turn : (ws : List ℕ) (c : ℕ) → c < length ws → 1 < length ws → turn (wrap (length ws) c 1) ws ≡ turn (suc c) ws
unfolding wrap
next-turn ws c hc h = go (dec_lt (c + 1) (length ws))
  where
    go : Dec (c + 1 < length ws) → turn (cond (ltb (c + 1) (length ws)) (c + 1) (c + 1 - length ws)) ws ≡ turn (suc c) ws
    go (yes g) =
        ap (λ (b : Bool). turn (cond b (c + 1) (c + 1 - length ws)) ws) (lt-ltb (c + 1) (length ws) g)
        ∙ ap (λ (i : ℕ). turn i ws) (native.Mathlib.Numerals.add-one c)
    go (no g) =
        let z : c + 1 - length ws ≡ 0 = omega arith in
        let e : suc c ≡ length ws = omega arith in
        ap (λ (b : Bool). turn (cond b (c + 1) (c + 1 - length ws)) ws) (le-ltb (c + 1) (length ws) (omega arith))
        ∙ ap (λ (i : ℕ). turn i ws) z
        ∙ append-nil ws
        ∙ sym (ap (λ (i : ℕ). turn i ws) e ∙ ap₂ (λ (a b : List ℕ). a ++ b) (drop-length ws) (take-length ws))

pub homed : (ws : List ℕ) (c k b : ℕ) → c < length ws → 1 < length ws → steps (lefts ws c) ≡ k → b ≡ home_of (length ws) c k → ahead (turn (suc c) ws) ≡ rights ws b
unfolding home_of
homed ws c k b hc h ek eb = go (dec_lt k (length ws))
  where
    t : List ℕ
    t = turn (suc c) ws

    i : length t - suc (steps (reverse t)) ≡ length ws - suc k
    i = ap₂ (λ (x y : ℕ). x - suc y) (turn-length (suc c) ws) ek

    go : Dec (k < length ws) → ahead (turn (suc c) ws) ≡ rights ws b
    go (yes g) =
        ap (λ (x : ℕ). map entry (turn x t)) i ∙ ap (map entry) (turn-home ws c k hc g)
        ∙ ap (rights ws) (sym (eb ∙ ap (λ (z : Bool). cond z (back (length ws) c k) (wrap (length ws) c 1)) (lt-ltb k (length ws) g)))
    go (no g) =
        let z : length ws - suc k ≡ 0 = omega arith in
        ap (λ (x : ℕ). map entry (turn x t)) (i ∙ z) ∙ ap (map entry) (append-nil t ∙ sym (next-turn ws c hc h))
        ∙ ap (rights ws) (sym (eb ∙ ap (λ (y : Bool). cond y (back (length ws) c k) (wrap (length ws) c 1)) (le-ltb k (length ws) (omega arith))))

module _ (ws : List ℕ) (c k m b s : ℕ) (hc : c < length ws) (h : 1 < length ws) (ek : steps (lefts ws c) ≡ k) (em : passed (lefts ws c) ≡ m)
    (eb : b ≡ home_of (length ws) c k) (es : skip m (rights ws b) ≡ s) where
  pub located : run_from ws b s ≡ reading (turn (suc c) ws)
  unfolding run_from
  located =
      ap (λ (j : ℕ). here (drop j (rights ws b))) (sym es) ∙ nth_here m (rights ws b)
      ∙ sym (ap₂ nth em (homed ws c k b hc h ek eb))

  pub carried : s - k ≡ place_of ws c
  unfolding place_of last_place
  carried = sym (ap₂ ◌-◌ (ap₂ skip em (homed ws c k b hc h ek eb) ∙ es) ek)

-- the run of an address whose occupied bit is 0, and of one whose bit is 1
module _ (ws : List ℕ) (c : ℕ) (hc : c < length ws) where
  first : get_or ws c 0 ≡ get_or (lefts ws c) 0 0
  first =
      let e : back (length ws) c 0 ≡ c = unfold back in ap (λ (z : Bool). cond z (c - 0) (c + length ws - 0)) (le-leb 0 c (omega arith)) ∙ (omega arith) in
      ap (λ (i : ℕ). get_or ws i 0) (sym e) ∙ get-back ws c 0 hc (omega arith) 0

  pub run_none : get_or ws c 0 % 2 ≡ 0 → run_at ws c ≡ []
  unfolding run_at last_run
  run_none z = ap (λ (b : ℕ). stop' b (reading (turn (suc c) ws))) (ap (λ (w : ℕ). w % 2) (sym first) ∙ z)

  pub run-some : get_or ws c 0 % 2 ≡ 1 → run_at ws c ≡ reading (turn (suc c) ws)
  unfolding run_at last_run
  run-some z = ap (λ (b : ℕ). stop' b (reading (turn (suc c) ws))) (ap (λ (w : ℕ). w % 2) (sym first) ∙ z)

-- ---- entry t of a run

mores-length : (es : List Entry) → length (mores es) ≤ length es
unfolding mores
mores-length [] = omega arith
mores-length (start p ∷ es) = omega arith
mores-length (more p ∷ es) = omega (arith, mores-length es)

here-length : (es : List Entry) → length (here es) ≤ length es
unfolding here
here-length [] = omega arith
here-length (e ∷ es) = omega (arith, mores-length es)

pub run_length : (ws : List ℕ) (b f : ℕ) → length (run_from ws b f) ≤ length ws - f
unfolding run_from
run_length ws b f = omega (arith, here-length (drop f (rights ws b)), length-drop f (rights ws b), rights-length ws b)

mores-stop : (es : List Entry) (s p : ℕ) → s < length es → s ≤ length (mores es) → get_or es s (start 0) ≡ start p → length (mores es) ≡ s
unfolding mores
mores-stop [] s p h g e = absurd (omega arith)
mores-stop (start q ∷ es) s p h g e = omega arith
mores-stop (more q ∷ es) zero p h g e = absurd (distinct e)
  where
    tag : Entry → ℕ
    tag (start a) = 0
    tag (more a) = 1

    distinct : more q ≡ start p → ⊥
    distinct d = omega (arith, ap tag d)
mores-stop (more q ∷ es) (suc s) p h g e = ap suc (mores-stop es s p (omega arith) (omega arith) e)

mores-on : (es : List Entry) (s p : ℕ) → s < length es → s ≤ length (mores es) → get_or es s (start 0) ≡ more p → (s < length (mores es)) × (get_or (mores es) s 0 ≡ p)
unfolding mores
mores-on [] s p h g e = absurd (omega arith)
mores-on (start q ∷ es) (suc s) p h g e = absurd (omega arith)
mores-on (start q ∷ es) zero p h g e = absurd (distinct e)
  where
    tag : Entry → ℕ
    tag (start a) = 0
    tag (more a) = 1

    distinct : start q ≡ more p → ⊥
    distinct d = omega (arith, ap tag d)
mores-on (more q ∷ es) zero p h g e = (omega arith, ap payload_of e)
mores-on (more q ∷ es) (suc s) p h g e =
    let r = mores-on es s p (omega arith) (omega arith) e in
    (omega (arith, r.0), r.1)

-- the answers of a step
abbrev pub Answer : List ℕ → ℕ → Bool → ℕ → Type 0
Answer run t m p = (m ≡ ltb t (length run)) × (p ≡ get_or run t 0)

module _ (l : List Entry) (f t : ℕ) (h : f + t < length l) where
  cut : drop f l ≡ get_or l f (start 0) ∷ drop (suc f) l
  cut = drop-cons l f (start 0) (omega arith)

  at : (s : ℕ) → t ≡ suc s → get_or (drop (suc f) l) s (start 0) ≡ get_or l (f + t) (start 0)
  at s e =
      let i : suc f + s ≡ f + t = omega arith in
      lib.Seq.get_or-drop (suc f) l s (start 0) ∙ ap (λ (j : ℕ). get_or l j (start 0)) i

  pub entry_first : t ≡ 0 → Answer (here (drop f l)) t true (payload_of (get_or l (f + t) (start 0)))
  unfolding here
  entry_first z =
      let e : f ≡ f + t = omega arith in (
        sym (lt-ltb t (length (here (drop f l))) (omega (arith, ap (λ (d : List Entry). length (here d)) cut))),
        ap (λ (j : ℕ). payload_of (get_or l j (start 0))) (sym e) ∙ sym (ap₂ (λ (j : ℕ) (d : List Entry). get_or (here d) j 0) z cut),
      )

  pub entry-stop : (t ≡ 0 → ⊥) → t ≤ length (here (drop f l)) → (p : ℕ) → get_or l (f + t) (start 0) ≡ start p → Answer (here (drop f l)) t false 0
  unfolding here
  entry-stop nz g p e = go (t - 1) (omega arith)
    where
      go : (s : ℕ) → t ≡ suc s → (false ≡ ltb t (length (here (drop f l)))) × (0 ≡ get_or (here (drop f l)) t 0)
      go s et =
          let n = ap (λ (d : List Entry). length (here d)) cut in
          let z : length (mores (drop (suc f) l)) ≡ s = mores-stop (drop (suc f) l) s p (omega (arith, length-drop (suc f) l)) (omega arith) (at s et ∙ e) in (
            sym (le-ltb t (length (here (drop f l))) (omega arith)),
            sym (lib.ListN.get_or-eq_default (here (drop f l)) 0 {n = t} (omega arith)),
          )

  pub entry-on : (t ≡ 0 → ⊥) → t ≤ length (here (drop f l)) → (p : ℕ) → get_or l (f + t) (start 0) ≡ more p → Answer (here (drop f l)) t true p
  unfolding here
  entry-on nz g p e = go (t - 1) (omega arith)
    where
      go : (s : ℕ) → t ≡ suc s → (true ≡ ltb t (length (here (drop f l)))) × (p ≡ get_or (here (drop f l)) t 0)
      go s et =
          let n = ap (λ (d : List Entry). length (here d)) cut in
          let z = mores-on (drop (suc f) l) s p (omega (arith, length-drop (suc f) l)) (omega arith) (at s et ∙ e) in (
            sym (lt-ltb t (length (here (drop f l))) (omega (arith, z.0))),
            sym (ap₂ (λ (j : ℕ) (d : List Entry). get_or (here d) j 0) et cut ∙ z.1),
          )

-- the same, of the words
module _ (ws : List ℕ) (b f t n : ℕ) (hb : b < n) (hn : length ws ≡ n) (g : t ≤ length (run_from ws b f)) where
  pub step-out : n ≤ f + t → Answer (run_from ws b f) t false 0
  step-out h = (
    sym (le-ltb t (length (run_from ws b f)) (omega (arith, run_length ws b f))),
    sym (lib.ListN.get_or-eq_default (run_from ws b f) 0 {n = t} (omega (arith, run_length ws b f))),
  )

  module _ (i : ℕ) (h : f + t < n) (ei : i ≡ wrap n b (f + t)) where
    word : get_or (rights ws b) (f + t) (start 0) ≡ entry_of (get_or ws i 0 / 2 % 2) (get_or ws i 0 / 8)
    word = read ws b (f + t) n i hb h hn ei

    in-range : f + t < length (rights ws b)
    in-range = omega (arith, rights-length ws b)

    pay-of : (x p : ℕ) → payload_of (entry_of x p) ≡ p
    pay-of zero p = refl
    pay-of (suc x) p = refl

    pub step-first : t ≡ 0 → Answer (run_from ws b f) t true (get_or ws i 0 / 8)
    unfolding run_from
    step-first z =
        let a = entry_first (rights ws b) f t in-range z in
        (a.0, sym (ap payload_of word ∙ pay-of (get_or ws i 0 / 2 % 2) (get_or ws i 0 / 8)) ∙ a.1)

    pub step-stop : (t ≡ 0 → ⊥) → get_or ws i 0 / 2 % 2 ≡ 0 → Answer (run_from ws b f) t false 0
    unfolding run_from
    step-stop nz z = entry-stop (rights ws b) f t in-range nz g (get_or ws i 0 / 8) (word ∙ ap (λ (x : ℕ). entry_of x (get_or ws i 0 / 8)) z)

    pub step-on : (t ≡ 0 → ⊥) → (get_or ws i 0 / 2 % 2 ≡ 0 → ⊥) → Answer (run_from ws b f) t true (get_or ws i 0 / 8)
    unfolding run_from
    step-on nz y = entry-on (rights ws b) f t in-range nz g (get_or ws i 0 / 8) (word ∙ go (get_or ws i 0 / 2 % 2) y)
      where
        go : (x : ℕ) → (x ≡ 0 → ⊥) → entry_of x (get_or ws i 0 / 8) ≡ more (get_or ws i 0 / 8)
        go zero n = absurd (n refl)
        go (suc x) n = refl
