-- One mother hash less: the words of its table are replaced, and those before and after it stay; its count is one less, since the hash was there.
use mathlib.Core.Path.{◌≡◌, sym, ap, ap₂, ◌∙◌, subst}
use mathlib.Core.Bool.{Bool}
use mathlib.Core.List.{List, [], ◌∷◌, ◌++◌, map, append_assoc}
use Prim.Native.Nat.{ℕ, zero, suc, ◌+◌, ◌-◌, ◌%◌, ◌^◌, ◌≤◌, ◌<◌}
use native.Mathlib.Omega.{arith}
use lib.Dec.{T}
use lib.ListN.{length, get_or, take, drop, set, length-append, get_or-map}
use lib.Seq.{split_at, set_split, take_at, drop_at}
use borrow.Rule.Slice.PartMut.{put_mid}
use Rattle.lists.specs.Runs.{Runs, rising, erase, has, total}
use Rattle.lists.proofs.Alls.{all-get}
use Rattle.lists.proofs.Sums.{same_length}
use Rattle.lists.proofs.RunLaws.{Rises, rises-rising, erase_same, total-set}
use Rattle.slots.proofs.NumberLaws.{limit-lt}
use Rattle.layout.specs.Machine.{layout}
use Rattle.directory.specs.declared.Place.{Place}
use Rattle.directory.specs.Places.{no_place, taken, places_in_use, words_taken}
use Rattle.directory.proofs.Front.{front-get}
use Rattle.directory.proofs.Laws.{right-used, words-cons, words-none}
use Rattle.rules.specs.Tables.{Table, hash_entry, matching, table_words, place_of}
use Rattle.keeps.proofs.Holds.{length-words}
use Rattle.keeps.proofs.Annex.{TableFine, Tables, table-holds, Read, read, words_append}
use Rattle.keeps.proofs.Take.{table-inside, slot_lt}
use Rattle.annex.specs.Stored.{no_table, stored, without, FoundAt, TakenAt}
use Rattle.annex.proofs.Search.{tables-length}

-- the words of the tables before place i
before-long : (k last : ℕ) (ts : List Table) (i : ℕ) → Tables k last ts → length (table_words (take i ts)) ≡ words_taken (take i (map place_of ts))
unfolding table_words place_of
before-long k last [] zero v = sym words-none
before-long k last [] (suc i) v = sym words-none
before-long k last (t ∷ ts) zero v = sym words-none
before-long k last (t ∷ ts) (suc i) v =
    length-append (layout t.runs) (table_words (take i ts))
    ∙ ap₂ ◌+◌ (length-words (table-holds v.0)) (before-long k t.b ts i v.1)
    ∙ sym (words-cons (place_of t) (take i (map place_of ts)))

-- one table among others, at its words
module _ (before : List Table) (t : Table) (after : List Table) (rest : List ℕ) where
  abbrev pub all : List ℕ
  all = table_words (before ++ t ∷ after) ++ rest

  words-mid : all ≡ table_words before ++ (layout t.runs ++ (table_words after ++ rest))
  unfolding table_words
  words-mid =
      ap (λ (l : List ℕ). l ++ rest) (words_append before (t ∷ after))
      ∙ append_assoc (table_words before) (layout t.runs ++ table_words after) rest
      ∙ ap (λ (l : List ℕ). table_words before ++ l) (append_assoc (layout t.runs) (table_words after) rest)

module _ (before : List Table) (t : Table) (after : List Table) (rest : List ℕ) (a n : ℕ) (ea : length (table_words before) ≡ a) (en : length (layout t.runs) ≡ n) where
  from : drop a (all before t after rest) ≡ layout t.runs ++ (table_words after ++ rest)
  from = ap (drop a) (words-mid before t after rest) ∙ drop_at (table_words before) (layout t.runs ++ (table_words after ++ rest)) a ea

  words-get : take n (drop a (all before t after rest)) ≡ layout t.runs
  words-get = ap (take n) from ∙ take_at (layout t.runs) (table_words after ++ rest) n en

  words-put : (u : Table) → put_mid a n (all before t after rest) (layout u.runs) ≡ all before u after rest
  words-put u =
      ap₂ (λ (x y : List ℕ). x ++ (layout u.runs ++ y))
      (ap (take a) (words-mid before t after rest) ∙ take_at (table_words before) (layout t.runs ++ (table_words after ++ rest)) a ea)
      (ap (drop n) from ∙ drop_at (layout t.runs) (table_words after ++ rest) n en)
      ∙ sym (words-mid before u after rest)

module _ (places : List Place) (annex : List ℕ) (i c : ℕ) (h : FoundAt places annex i c) where
  abbrev ps : List Place
  ps = places_in_use places

  abbrev ts : List Table
  ts = stored places annex

  abbrev t : Table
  t = get_or ts i no_table

  abbrev rest : List ℕ
  rest = drop (words_taken ps) annex

  is_read : Read 20 5 ps annex
  is_read = read 20 5 ps annex (right-used 20 places h.placed.directory) h.right h.placed.long

  inside : i < length ts
  inside = omega (arith, h.inside, tables-length ps annex)

  split : ts ≡ take i ts ++ t ∷ drop (suc i) ts
  split = split_at ts i no_table inside

  pub is-fine : TableFine 20 5 t
  is-fine = table-inside 20 5 (take i ts) t (drop (suc i) ts) (subst (Tables 20 5) split is_read.are)

  words : annex ≡ all (take i ts) t (drop (suc i) ts) rest
  words = is_read.words ∙ ap (λ (l : List Table). table_words l ++ rest) split

  place_is : place_of t ≡ get_or places i no_place
  unfolding place_of total
  place_is =
      sym (get_or-map place_of ts i no_table)
      ∙ ap (λ (l : List Place). get_or l i no_place) is_read.of
      ∙ front-get taken places i no_place h.inside

  pub few : total t.runs < length t.runs
  few = omega (arith, is-fine.fits, is-fine.size, limit-lt t.s)

  pub slot-rises : T (rising (get_or t.runs (c % 2 ^ t.s) []))
  slot-rises = rises-rising (get_or t.runs (c % 2 ^ t.s) []) (all-get Rises t.runs [] is-fine.rises (c % 2 ^ t.s) (slot_lt 20 5 c t is-fine))

  one_less : total (without t c).runs + 1 ≡ total t.runs
  unfolding matching
  one_less =
      let x : ℕ = hash_entry t.b t.s (c % 2 ^ t.b) in
      let run : List ℕ = get_or t.runs (c % 2 ^ t.s) [] in
      omega (arith, total-set t.runs (c % 2 ^ t.s) (erase x run) (slot_lt 20 5 c t is-fine), same_length run (x ∷ erase x run) (erase_same x run h.match))

  pub some : 1 ≤ (get_or places i no_place).count
  unfolding place_of
  some = omega (arith, one_less, ap (λ (p : Place). p.count) place_is)

  -- one less in the directory
  count_left : place_of (without t c) ≡ record { b = (get_or places i no_place).b; s = (get_or places i no_place).s; count = (get_or places i no_place).count - 1 }
  unfolding place_of
  count_left =
      let e : total (without t c).runs ≡ total t.runs - 1 = omega (arith, one_less) in
      ap (λ (n : ℕ). record { b = t.b; s = t.s; count = n }) e ∙ ap (λ (p : Place). record { b = p.b; s = p.s; count = p.count - 1 }) place_is

  -- the code's numbers: where the table begins, its words, and where it ends
  module _ (a n e : ℕ) (ea : a ≡ words_taken (take i ps)) (en : n ≡ 2 ^ (get_or places i no_place).s) (ee : e ≡ a + n) where
    starts : length (table_words (take i ts)) ≡ a
    starts = before-long 20 5 ts i is_read.are ∙ ap (λ (l : List Place). words_taken (take i l)) is_read.of ∙ sym ea

    size : 2 ^ t.s ≡ n
    unfolding place_of
    size = ap (λ (p : Place). 2 ^ p.s) place_is ∙ sym en

    long : length (layout t.runs) ≡ e - a
    long = length-words (table-holds is-fine) ∙ size ∙ omega arith

    pub table-laid : take (e - a) (drop a annex) ≡ layout t.runs
    table-laid = ap (λ (l : List ℕ). take (e - a) (drop a l)) words ∙ words-get (take i ts) t (drop (suc i) ts) rest a (e - a) starts long

    pub words_left : (part : List ℕ) → part ≡ layout (without t c).runs → put_mid a (e - a) annex part ≡ table_words (set ts i (without t c)) ++ rest
    words_left part q =
        ap₂ (λ (l m : List ℕ). put_mid a (e - a) l m) words q
        ∙ words-put (take i ts) t (drop (suc i) ts) rest a (e - a) starts long (without t c)
        ∙ ap (λ (l : List Table). table_words l ++ rest) (sym (set_split ts i (without t c) inside))

    -- what the removal of x from the run of `slot` leaves
    module _ (slot x : ℕ) (es : slot ≡ c % 2 ^ (get_or places i no_place).s) (ex : x ≡ hash_entry (get_or places i no_place).b (get_or places i no_place).s (c % 2 ^ (get_or places i no_place).b)) where
      slot_is : slot ≡ c % 2 ^ t.s
      unfolding place_of
      slot_is = es ∙ ap (λ (p : Place). c % 2 ^ p.s) (sym place_is)

      entry-is : x ≡ hash_entry t.b t.s (c % 2 ^ t.b)
      unfolding place_of
      entry-is = ex ∙ ap (λ (p : Place). hash_entry p.b p.s (c % 2 ^ p.b)) (sym place_is)

      pub gone : (r : Bool) (part : List ℕ)
          → ((runs : Runs) → take (e - a) (drop a annex) ≡ layout runs → total runs < length runs → T (rising (get_or runs slot []))
          → (r ≡ has x (get_or runs slot [])) × (part ≡ layout (set runs slot (erase x (get_or runs slot [])))))
          → (dir : List Place) → dir ≡ set places i (record { b = (get_or places i no_place).b; s = (get_or places i no_place).s; count = (get_or places i no_place).count - 1 })
          → TakenAt places annex i c (put_mid a (e - a) annex part) dir
      gone r part f dir d =
          let rises : T (rising (get_or t.runs slot [])) = subst (λ (n : ℕ). T (rising (get_or t.runs n []))) (sym slot_is) slot-rises in
          let left : part ≡ layout (without t c).runs
          = (f t.runs table-laid few rises).1 ∙ ap₂ (λ (m n : ℕ). layout (set t.runs m (erase n (get_or t.runs m [])))) slot_is entry-is in
          record { words = words_left part left; counts = d ∙ ap (set places i) (sym count_left) }
