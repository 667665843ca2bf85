-- The laws of the searches in a run: what a read gives, and what is known of a search where it ends.
use Rattle.std.proofs.Common.{◌≡◌, ℕ, suc, ◌+◌, ◌-◌, ◌%◌, ◌≤◌, ◌<◌, refl, sym, ap, ◌∙◌, add-one, drop-cons, arith}
use Rattle.std.proofs.Common.{Bool, true, false, cond, List, [], ◌∷◌, length, drop, get_or, Option, Some, None, is_some, slice_get}
use lib.ListN.{drop_of_length-le}
use Rattle.std.proofs.lemmas.Option.{slice_get_past, slice_get_within, slice_get-get_or, get_or_from_slice_get}
use Rattle.std.specs.Option.{option_eq}
use native.Mathlib.Decide.{dec_lt}
use lib.Dec.{leb, ltb, eqb}
use mir.Val.{bool_byte}
use borrow.Author.Tests.{lt-ltb, le-ltb, eq-eqb}
use Rattle.std.proofs.lemmas.Bool.{eqb-true}
use Rattle.layout.specs.Decode.{turn, reading, run_at, place_of}
use Rattle.layout.specs.Reading.{run_from, index}
use Rattle.lists.specs.Lists.{bit}
use Rattle.lists.specs.Runs.{count}
use Rattle.layout.proofs.RunLaws.{Answer, run-some}
use Rattle.layout.proofs.Searches.{true-lt, false-le, Seeking, seeking-found, seeking-end}
use Rattle.lookup.specs.Spots.{First, Spotted, Missing, LastSpotted, LastMissing}

-- ---- reads

module _ (run : List ℕ) (t : ℕ) where
  pub some-read : (p : ℕ) → Answer run t true p → Some p ≡ slice_get run t
  some-read p a = sym (slice_get-get_or run t 0 (true-lt t (length run) true a.0 refl) ∙ ap Some (sym a.1))

  pub none-read : (p : ℕ) → Answer run t false p → None ≡ slice_get run t
  none-read p a = sym (slice_get_past run t (false-le t (length run) false a.0 refl))

  pub read-some : (p : ℕ) → Some p ≡ slice_get run t → (t < length run) × (get_or run t 0 ≡ p)
  read-some p e = (slice_get_within run t p (sym e), get_or_from_slice_get run t p 0 (sym e))

  pub read-none : None ≡ slice_get run t → length run ≤ t
  read-none e = go (dec_lt t (length run))
    where
      go : Dec (t < length run) → length run ≤ t
      go (yes h) = let there = slice_get-get_or run t 0 h in cc
      go (no h) = omega arith

-- ---- an iterator over a run that has t entries behind it

module _ (run : List ℕ) (t : ℕ) where
  pub next-some : (p : ℕ) (rest : List ℕ) → drop t run ≡ p ∷ rest → (t < length run) × (get_or run t 0 ≡ p) × (rest ≡ drop (t + 1) run)
  next-some p rest e = go (dec_lt t (length run))
    where
      go : Dec (t < length run) → (t < length run) × (get_or run t 0 ≡ p) × (rest ≡ drop (t + 1) run)
      go (yes h) =
          let cut = drop-cons run t 0 h in
          let next : drop (suc t) run ≡ drop (t + 1) run = ap (λ (j : ℕ). drop j run) (sym (add-one t)) in
          (h, cc, cc)
      go (no n) =
          let past : drop t run ≡ [] = drop_of_length-le run {i = t} (omega arith) in
          absurd cc

  pub next-none : drop t run ≡ [] → length run ≤ t
  next-none e = go (dec_lt t (length run))
    where
      go : Dec (t < length run) → length run ≤ t
      go (yes h) = let cut = drop-cons run t 0 h in absurd cc
      go (no n) = omega arith

-- ---- the first that passes a test

pub first-empty : (f : ℕ → Bool) (run : List ℕ) → length run ≡ 0 → First f run None
first-empty f run e = sym (slice_get_past run (index f run) (omega arith))

module _ (f : ℕ → Bool) (run : List ℕ) (t : ℕ) (s : Seeking f run t) where
  pub first_found : t < length run → (p : ℕ) → p ≡ get_or run t 0 → f p ≡ true → First f run (Some p)
  first_found h p ep tb =
      let e : index f run ≡ t = seeking-found f run t s h (ap f (sym ep) ∙ tb) in
      sym (ap (slice_get run) e ∙ slice_get-get_or run t 0 h ∙ ap Some (sym ep))

  pub first-none : length run ≤ t → First f run None
  first-none h =
      let e : index f run ≡ t = seeking-end f run t s h in
      sym (slice_get_past run (index f run) (omega arith))

-- ---- a payload

pub none-there : (ws : List ℕ) (c x : ℕ) → length (run_at ws c) ≡ 0 → Missing ws c x
none-there ws c x e h s = omega arith

module _ (ws : List ℕ) (c x u : ℕ) (eu : u ≡ index (leb x) (run_at ws c)) where
  pub other-there : (p : ℕ) → Some p ≡ slice_get (run_at ws c) u → (p ≡ x → ⊥) → Missing ws c x
  other-there p e n h s = n (sym (read-some (run_at ws c) u p e).1 ∙ ap (λ (i : ℕ). get_or (run_at ws c) i 0) eu ∙ s)

  pub past_end : None ≡ slice_get (run_at ws c) u → Missing ws c x
  past_end e h s = let past = read-none (run_at ws c) u e in absurd (omega arith)

-- ---- how many are x

pub one-more : (x y : ℕ) (ys : List ℕ) (d : ℕ) → d ≡ bool_byte (eqb x y) → (count x (y ∷ ys) ≡ d + count x ys) × (d ≤ 1)
unfolding count
one-more x y ys d e = go (eqb x y) e
  where
    go : (b : Bool) → d ≡ bool_byte b → (bit b + count x ys ≡ d + count x ys) × (d ≤ 1)
    go true z = (omega (arith, z), omega (arith, z))
    go false z = (omega (arith, z), omega (arith, z))

-- ---- the run of an address: it is empty, or where the walk found it

pub run-found : (ws : List ℕ) (c b from : ℕ) → c < length ws → (get_or ws c 0 % 2 ≡ 0 → ⊥) → run_from ws b from ≡ reading (turn (suc c) ws)
    → run_from ws b from ≡ run_at ws c
run-found ws c b from hc some e = e ∙ sym (run-some ws c hc (omega arith))

-- ---- what `find` and `last_below` answer; `run` is the run of c

pub within-some : (run : List ℕ) (t : ℕ) → is_some (slice_get run t) ≡ ltb t (length run)
within-some run t = go (dec_lt t (length run))
  where
    go : Dec (t < length run) → is_some (slice_get run t) ≡ ltb t (length run)
    go (yes h) = ap is_some (slice_get-get_or run t 0 h) ∙ sym (lt-ltb t (length run) h)
    go (no h) = ap is_some (slice_get_past run t (omega arith)) ∙ sym (le-ltb t (length run) (omega arith))

one : (b : Bool) → bool_byte b ≡ cond b 1 0
one true = refl
one false = refl

module _ (ws : List ℕ) (c x : ℕ) (run : List ℕ) (er : run ≡ run_at ws c) where
  module _ (u : ℕ) (eu : u ≡ index (leb x) run) where
    first : u ≡ index (leb x) (run_at ws c)
    first = eu ∙ ap (index (leb x)) er

    pub other-found : (p : ℕ) → Some p ≡ slice_get run u → (p ≡ x → ⊥) → Missing ws c x
    other-found p e = other-there ws c x u first p (e ∙ ap (λ (l : List ℕ). slice_get l u) er)

    pub none-found : None ≡ slice_get run u → Missing ws c x
    none-found e = past_end ws c x u first (e ∙ ap (λ (l : List ℕ). slice_get l u) er)

    pub spotted : (p : ℕ) → Some p ≡ slice_get run u → p ≡ x → (d : ℕ) → d ≡ place_of ws c → (next : Option ℕ) → next ≡ slice_get run (u + 1)
        → (v : ℕ) → v ≡ bool_byte (is_some next) → Spotted ws c x (d + u) u v
    spotted p e sp d ed next en v ev =
        let here = read-some (run_at ws c) u p (e ∙ ap (λ (l : List ℕ). slice_get l u) er) in
        let more = within-some (run_at ws c) (u + 1) in
        record {
          first = first;
          inside = here.0;
          same = here.1 ∙ sp;
          place = ap (λ (i : ℕ). i + u) ed;
          behind = ev ∙ ap (λ (o : Option ℕ). bool_byte (is_some o)) (en ∙ ap (λ (l : List ℕ). slice_get l (u + 1)) er) ∙ ap bool_byte more ∙ one _;
        }

  module _ (i : ℕ) (ei : i ≡ index (leb (x + 1)) run) where
    last : i ≡ index (leb (suc x)) (run_at ws c)
    last = ei ∙ ap (λ (y : ℕ). index (leb y) run) (native.Mathlib.Numerals.add-one x) ∙ ap (index (leb (suc x))) er

    pub none-below : (1 ≤ i → ⊥) → LastMissing ws c x
    none-below n h s = n (omega (arith, last))

    module _ (j : ℕ) (ej : j ≡ i - 1) (some : 1 ≤ i) (o : Option ℕ) (eo : o ≡ slice_get run j) where
      read : get_or (run_at ws c) (index (leb (suc x)) (run_at ws c) - 1) 0 ≡ get_or run j 0
      read =
          ap (λ (k : ℕ). get_or (run_at ws c) (k - 1) 0) (sym last) ∙ ap (λ (k : ℕ). get_or (run_at ws c) k 0) (sym ej)
          ∙ ap (λ (l : List ℕ). get_or l j 0) (sym er)

      pub last-other : (o ≡ Some x → ⊥) → j < length run → LastMissing ws c x
      last-other n h _ s = n (eo ∙ slice_get-get_or run j 0 h ∙ ap Some (sym read ∙ s))

      pub last-spotted : o ≡ Some x → (d : ℕ) → d ≡ place_of ws c → LastSpotted ws c x (d + j)
      last-spotted e d ed =
          record {
            some = omega (arith, last);
            same = read ∙ (read-some run j x (sym e ∙ eo)).1;
            place = ap (λ (a : ℕ). a + j) ed ∙ ap (λ (k : ℕ). place_of ws c + k) (ej ∙ ap (λ (k : ℕ). k - 1) last);
          }

-- `==` on what was read
pub same-some : (o : Option ℕ) (x : ℕ) (b : Bool) → b ≡ option_eq eqb o (Some x) → b ≡ true → o ≡ Some x
same-some None x b e t = absurd cc
same-some (Some p) x b e t = ap Some (eqb-true p x (sym e ∙ t))

pub other-some : (o : Option ℕ) (x : ℕ) (b : Bool) → b ≡ option_eq eqb o (Some x) → b ≡ false → o ≡ Some x → ⊥
other-some o x b e f s = let same = e ∙ ap (λ (v : Option ℕ). option_eq eqb v (Some x)) s ∙ eq-eqb x x refl in absurd cc

pub no_last : (ws : List ℕ) (c x : ℕ) → run_at ws c ≡ [] → LastMissing ws c x
no_last ws c x e h s = unfold index in omega (arith, ap (index (leb (suc x))) e)
