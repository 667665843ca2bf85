-- The pass over the queue: a word of the block adds to the counters of its address and to no other, and a word of another block to none, so
-- the counters of a block are those of its addresses.
use mathlib.Core.Path.{◌≡◌, refl, sym, ap, ap₂, ◌∙◌}
use mathlib.Core.Bool.{Bool, true, false, ◌||◌}
use mathlib.Core.List.{List, [], ◌∷◌, ◌++◌, map, append_assoc}
use Prim.Native.Nat.{ℕ, zero, suc, ◌+◌, ◌-◌, ◌*◌, ◌/◌, ◌%◌, ◌≤◌, ◌<◌}
use native.Mathlib.Omega.{arith}
use native.Mathlib.Numerals.{add-one}
use native.Mathlib.Decide.{ℕ_discrete, dec_lt}
use lib.Dec.{eqb}
use borrow.Author.Tests.{eqb-false}
use lib.ListN.{length, take, drop, get_or, set, replicate, length-replicate, length-append, length-set, length-map, get_or-map}
use lib.Seq.{drop-append_seam, take_all, take-suc, get_or-set_same, get_or-set_other, length-take-le}
use Rattle.lists.specs.Runs.{count}
use Rattle.lists.proofs.Tests.{no_true, is, is-yes, is-no}
use Rattle.lists.proofs.RunLaws.{count-append}
use Rattle.rules.specs.Sound.{naming}
use Rattle.std.proofs.lemmas.List.{get_or_past, map-set}
use Rattle.tallies.specs.declared.Naming.{Naming}
use Rattle.tallies.specs.Tally.{block_size, Tallied, Others, AtMost, Raised}
use Rattle.tallies.specs.Namings.{words_of, evens_of, Named}
use Rattle.tallies.proofs.Sums.{count-le}

naming-append : (c : ℕ) (a b : List ℕ) → naming c (a ++ b) ≡ naming c a + naming c b
unfolding count naming
naming-append c [] b = omega arith
naming-append c (x ∷ a) b = omega (arith, naming-append c a b)

-- one queue word more
pub count_next : (p : ℕ) (l : List ℕ) (i : ℕ) → i < length l → count p (take (i + 1) l) ≡ count p (take i l) + is p (get_or l i 0)
unfolding count
count_next p l i h =
    rw (add-one i, take-suc l i 0 h) (count-append p (take i l) (get_or l i 0 ∷ []) ∙ (omega arith))

pub naming-next : (c : ℕ) (l : List ℕ) (i : ℕ) → i < length l → naming c (take (i + 1) l) ≡ naming c (take i l) + is c (get_or l i 0 / 2)
unfolding count naming
naming-next c l i h =
    rw (add-one i, take-suc l i 0 h) (naming-append c (take i l) (get_or l i 0 ∷ []) ∙ (omega arith))

zeros : (n j : ℕ) → get_or {A = ℕ} (replicate n 0) j 0 ≡ 0
zeros zero j = refl
zeros (suc n) zero = refl
zeros (suc n) (suc j) = zeros n j

pub none-raised : (n : ℕ) → AtMost 0 (replicate n 0)
none-raised n j = omega (arith, zeros n j)

bit-even : (a w : ℕ) → a ≡ w / 2 → is (a * 2) w ≡ 1 - w % 2
bit-even a w e = go (ℕ_discrete (w % 2) 0)
  where
    go : Dec (w % 2 ≡ 0) → is (a * 2) w ≡ 1 - w % 2
    go (yes z) = is-yes (a * 2) w (omega arith) ∙ (omega arith)
    go (no z) = is-no (a * 2) w (λ x. absurd (z (omega arith))) ∙ (omega arith)

-- ---- the words of a block

module _ (base a : ℕ) (hb : base % block_size ≡ 0) where
  same_block : (j : ℕ) → j < block_size → base + j ≡ a → a / block_size ≡ base / block_size
  same_block j h e = omega arith

  in_block : a / block_size ≡ base / block_size → base + a % block_size ≡ a
  in_block e = omega arith

-- among the words from `from` on, no word before q and not the word at q
pub others-on : (base : ℕ) (ws : List ℕ) (from q b block : ℕ) (any : Bool) → b ≡ get_or ws q 0 / 2 / block_size → block ≡ base / block_size
    → (any ≡ false → Others base ws from q) → (any || eqb b block) ≡ false → Others base ws from (q + 1)
others-on base ws from q b block true eb ek o f = absurd (no_true (sym f))
others-on base ws from q b block false eb ek o f = λ j l h e. go j l h e (ℕ_discrete j q)
  where
    go : (j : ℕ) → from ≤ j → j < q + 1 → get_or ws j 0 / 2 / block_size ≡ base / block_size → Dec (j ≡ q) → ⊥
    go j l h e (yes z) = eqb-false b block f (eb ∙ ap (λ (x : ℕ). get_or ws x 0 / 2 / block_size) (sym z) ∙ e ∙ sym ek)
    go j l h e (no z) = o refl j l (omega arith) e

naming-le : (c : ℕ) (l : List ℕ) → naming c l ≤ length l
unfolding naming
naming-le c l = omega (arith, count-le c (map (λ (w : ℕ). w / 2) l), length-map l (λ (w : ℕ). w / 2))

-- ---- counters that rise

module _ (f g : ℕ → ℕ) (base : ℕ) (before now : List ℕ) (r : Raised f base block_size before now) where
  raised-same : ((j : ℕ) → j < block_size → g (base + j) ≡ f (base + j)) → Raised g base block_size before now
  raised-same e =
      record { size = r.size; raised = λ j h. r.raised j h ∙ ap (λ (x : ℕ). get_or before j 0 + x) (sym (e j h)); others = r.others }

  raised-at : (i m : ℕ) → i < length before → i < block_size → ((j : ℕ) → (j ≡ i → ⊥) → g (base + j) ≡ f (base + j)) → g (base + i) ≡ f (base + i) + m
      → Raised g base block_size before (set now i (get_or now i 0 + m))
  raised-at i m hl hi same more =
      record {
        size = simp length-set r.size;
        raised = λ j h. go j h (ℕ_discrete j i);
        others = λ j h. get_or-set_other now i j (get_or now i 0 + m) 0 (λ z. absurd (omega arith)) ∙ r.others j h;
      }
    where
      go : (j : ℕ) → j < block_size → Dec (j ≡ i) → get_or (set now i (get_or now i 0 + m)) j 0 ≡ get_or before j 0 + g (base + j)
      go j h (yes z) =
          let e : get_or (set now i (get_or now i 0 + m)) j 0 ≡ get_or now i 0 + m =
          ap (λ (k : ℕ). get_or (set now i (get_or now i 0 + m)) k 0) z ∙ get_or-set_same now i (get_or now i 0 + m) 0 (omega (arith, r.size)) in
          e ∙ (omega (arith, r.raised i hi, more)) ∙ ap (λ (k : ℕ). get_or before k 0 + g (base + k)) (sym z)
      go j h (no z) =
          get_or-set_other now i j (get_or now i 0 + m) 0 z ∙ r.raised j h ∙ ap (λ (x : ℕ). get_or before j 0 + x) (sym (same j z))

-- ---- the words before q, and one more

abbrev no_naming : Naming
no_naming = record { words = 0; evens = 0 }

named-none : (base : ℕ) (counters : List Naming) → Named base [] counters counters
unfolding count naming
named-none base counters = record {
  words = record { size = refl; raised = λ j h. omega arith; others = λ j h. refl };
  evens = record { size = refl; raised = λ j h. omega arith; others = λ j h. refl };
}

pub named-start : (base : ℕ) (ws : List ℕ) (counters : List Naming) → Named base (take 0 ws) counters counters
named-start base ws counters = named-none base counters

module _ (base : ℕ) (ws : List ℕ) (q : ℕ) (hb : base % block_size ≡ 0) (hq : q < length ws) where
  other_name : (j : ℕ) → (base + j ≡ get_or ws q 0 / 2 → ⊥) → naming (base + j) (take (q + 1) ws) ≡ naming (base + j) (take q ws)
  other_name j z =
      let o : is (base + j) (get_or ws q 0 / 2) ≡ 0 = is-no (base + j) (get_or ws q 0 / 2) z in
      omega (arith, naming-next (base + j) ws q hq)

  other-even : (j : ℕ) → (base + j ≡ get_or ws q 0 / 2 → ⊥) → count ((base + j) * 2) (take (q + 1) ws) ≡ count ((base + j) * 2) (take q ws)
  other-even j z =
      let o : is ((base + j) * 2) (get_or ws q 0) ≡ 0 = is-no ((base + j) * 2) (get_or ws q 0) (λ x. z (omega arith)) in
      let n = count_next ((base + j) * 2) ws q hq in
      omega (arith, n)

  module _ (before now : List Naming) (r : Named base (take q ws) before now) where
    -- a word of another block adds to no counter
    pub named-past : (get_or ws q 0 / 2 / block_size ≡ base / block_size → ⊥) → Named base (take (q + 1) ws) before now
    named-past z = record {
      words =
          raised-same (λ c. naming c (take q ws)) (λ c. naming c (take (q + 1) ws)) base (words_of before) (words_of now) r.words
          (λ j h. other_name j (λ x. z (same_block base (get_or ws q 0 / 2) hb j h x)));
      evens =
          raised-same (λ c. count (c * 2) (take q ws)) (λ c. count (c * 2) (take (q + 1) ws)) base (evens_of before) (evens_of now) r.evens
          (λ j h. other-even j (λ x. z (same_block base (get_or ws q 0 / 2) hb j h x)));
    }

    module _ (i : ℕ) (hl : length before ≡ block_size) (hi : i < block_size) where
      -- no counter passes the number of words
      pub words-le : (m : ℕ) → AtMost m (words_of before) → (get_or now i no_naming).words ≤ m + q
      words-le m b =
          omega (
            arith,
            r.words.raised i hi,
            b i,
            naming-le (base + i) (take q ws),
            length-take-le q ws (omega arith),
            get_or-map (λ (c : Naming). c.words) now i no_naming,
          )

      pub evens-le : (m : ℕ) → AtMost m (evens_of before) → (get_or now i no_naming).evens ≤ m + q
      evens-le m b =
          omega (
            arith,
            r.evens.raised i hi,
            b i,
            count-le ((base + i) * 2) (take q ws),
            length-take-le q ws (omega arith),
            get_or-map (λ (c : Naming). c.evens) now i no_naming,
          )

      -- a word of the block adds to the counters of its address, and to no other
      module _ (e : ℕ) (ei : i ≡ get_or ws q 0 / 2 % block_size) (ee : e ≡ 1 - get_or ws q 0 % 2) (s : get_or ws q 0 / 2 / block_size ≡ base / block_size) where
        home : base + i ≡ get_or ws q 0 / 2
        home = ap (λ (x : ℕ). base + x) ei ∙ in_block base (get_or ws q 0 / 2) hb s

        pub named-on : Named base (take (q + 1) ws) before
            (set now i (record { words = (get_or now i no_naming).words + 1; evens = (get_or now i no_naming).evens + e }))
        named-on =
            let o : is (base + i) (get_or ws q 0 / 2) ≡ 1 = is-yes (base + i) (get_or ws q 0 / 2) home in
            let u : is ((base + i) * 2) (get_or ws q 0) ≡ 1 - get_or ws q 0 % 2 = bit-even (base + i) (get_or ws q 0) home in
            let n = count_next ((base + i) * 2) ws q hq in
            let v : Naming = record { words = (get_or now i no_naming).words + 1; evens = (get_or now i no_naming).evens + e } in
            record {
              words =
                  rw (map-set (λ (c : Naming). c.words) now i v, ← get_or-map (λ (c : Naming). c.words) now i no_naming)
                  (raised-at (λ c. naming c (take q ws)) (λ c. naming c (take (q + 1) ws)) base (words_of before) (words_of now) r.words i 1
                  (omega (arith, length-map before (λ c. c.words))) hi (λ j z. other_name j (λ x. z (omega (arith, home))))
                  (omega (arith, naming-next (base + i) ws q hq)));
              evens =
                  rw (map-set (λ (c : Naming). c.evens) now i v, ← get_or-map (λ (c : Naming). c.evens) now i no_naming)
                  (raised-at (λ c. count (c * 2) (take q ws)) (λ c. count (c * 2) (take (q + 1) ws)) base (evens_of before) (evens_of now) r.evens i e
                  (omega (arith, length-map before (λ c. c.evens))) hi (λ j z. other-even j (λ x. z (omega (arith, home)))) (omega (arith, n)));
            }

pub named-all : (base : ℕ) (ws : List ℕ) (q : ℕ) (before now : List Naming) → length ws ≤ q → Named base (take q ws) before now → Named base ws before now
named-all base ws q before now h r = rw (take_all q ws h) at r

-- ---- words behind those that are counted

-- ---- the counters

module _ (f : Naming → ℕ) (z : Naming) (e : f z ≡ 0) where
  all-zero : (n j : ℕ) → get_or (map f (replicate n z)) j 0 ≡ 0
  all-zero zero j = refl
  all-zero (suc n) zero = e
  all-zero (suc n) (suc j) = all-zero n j

  all-size : (n : ℕ) → length (map f (replicate n z)) ≡ n
  all-size n = length-map (replicate n z) f ∙ length-replicate n z

pub tallied-none : (n base : ℕ) (z : Naming) → z.words ≡ 0 → z.evens ≡ 0 → n ≡ block_size
    → Tallied base [] (words_of (replicate n z)) (evens_of (replicate n z))
unfolding count naming
tallied-none n base z ew ee e = record {
  names_size = all-size (λ c. c.words) z ew n ∙ e;
  evens_size = all-size (λ c. c.evens) z ee n ∙ e;
  named = λ i h. all-zero (λ c. c.words) z ew n i;
  even = λ i h. all-zero (λ c. c.evens) z ee n i;
}

module _ (base : ℕ) (seen ws : List ℕ) where
  -- none of them is of the block
  no_names : base % block_size ≡ 0 → Others base ws 0 (length ws) → (j : ℕ) → j < block_size → (naming (base + j) ws ≡ 0) × (count ((base + j) * 2) ws ≡ 0)
  unfolding count naming
  no_names = go ws
    where
      go : (l : List ℕ) → base % block_size ≡ 0 → Others base l 0 (length l) → (j : ℕ) → j < block_size
          → (naming (base + j) l ≡ 0) × (count ((base + j) * 2) l ≡ 0)
      go [] hb o j h = (refl, refl)
      go (w ∷ l) hb o j h =
          let r = go l hb (λ q a b. o (suc q) (omega arith) (omega arith)) j h in
          let z : base + j ≡ w / 2 → ⊥ = λ e. o 0 (omega arith) (omega arith) (same_block base (w / 2) hb j h e) in
          let x : is (base + j) (w / 2) ≡ 0 = is-no (base + j) (w / 2) z in
          let y : is ((base + j) * 2) w ≡ 0 = is-no ((base + j) * 2) w (λ e. z (omega arith)) in
          (omega (arith, r.0), omega (arith, r.1))

  module _ (counters : List Naming) (t : Tallied base seen (words_of counters) (evens_of counters)) where
    pub tallied-past : base % block_size ≡ 0 → Others base ws 0 (length ws) → Tallied base (seen ++ ws) (words_of counters) (evens_of counters)
    tallied-past hb o = record {
      names_size = t.names_size;
      evens_size = t.evens_size;
      named = λ j h. omega (arith, t.named j h, naming-append (base + j) seen ws, (no_names hb o j h).0);
      even = λ j h. omega (arith, t.even j h, count-append ((base + j) * 2) seen ws, (no_names hb o j h).1);
    }

    pub tallied-on : (after : List Naming) → Named base ws counters after → Tallied base (seen ++ ws) (words_of after) (evens_of after)
    tallied-on after r = record {
      names_size = r.words.size ∙ t.names_size;
      evens_size = r.evens.size ∙ t.evens_size;
      named = λ j h. omega (arith, t.named j h, naming-append (base + j) seen ws, r.words.raised j h);
      even = λ j h. omega (arith, t.even j h, count-append ((base + j) * 2) seen ws, r.evens.raised j h);
    }

    pub counters-size : length counters ≡ block_size
    counters-size = omega (arith, t.names_size, length-map counters (λ c. c.words))

    module _ (few : length seen ≤ 1048576) where
      pub words-few : AtMost 1048576 (words_of counters)
      words-few j = go (dec_lt j block_size)
        where
          go : Dec (j < block_size) → get_or (words_of counters) j 0 ≤ 1048576
          go (yes h) = omega (arith, t.named j h, naming-le (base + j) seen)
          go (no h) = omega (arith, get_or_past (words_of counters) j 0 (omega (arith, t.names_size)))

      pub evens-few : AtMost 1048576 (evens_of counters)
      evens-few j = go (dec_lt j block_size)
        where
          go : Dec (j < block_size) → get_or (evens_of counters) j 0 ≤ 1048576
          go (yes h) = omega (arith, t.even j h, count-le ((base + j) * 2) seen)
          go (no h) = omega (arith, get_or_past (evens_of counters) j 0 (omega (arith, t.evens_size)))

-- ---- part after part of the queue: the words seen and the rest are all

module _ (seen rest ws : List ℕ) (all : seen ++ rest ≡ ws) where
  pub seen-few : length ws ≤ 1048576 → length seen ≤ 1048576
  seen-few h = omega (arith, ap length all, length-append seen rest)

  -- whole groups are seen, and the rest makes none
  pub rest-is : length seen % 16 ≡ 0 → length rest < 16 → drop (length ws - length ws % 16) ws ≡ rest
  rest-is g h =
      let n : length ws - length ws % 16 ≡ length seen = omega (arith, ap length all, length-append seen rest) in
      ap₂ (λ (k : ℕ) (l : List ℕ). drop k l) n (sym all) ∙ drop-append_seam seen rest

  module _ (part rest' : List ℕ) (next : rest ≡ part ++ rest') where
    pub seen-on : (seen ++ part) ++ rest' ≡ ws
    seen-on = append_assoc seen part rest' ∙ ap (λ (l : List ℕ). seen ++ l) (sym next) ∙ all

    pub part_few : length ws ≤ 1048576 → length part ≤ 1048576
    part_few h = omega (arith, ap length all, ap length next, length-append seen rest, length-append part rest')

pub groups-on : (seen part : List ℕ) → length seen % 16 ≡ 0 → length part ≡ 16 → length (seen ++ part) % 16 ≡ 0
groups-on seen part g h = omega (arith, length-append seen part)
