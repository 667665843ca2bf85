-- The annex as a list of tables: from the directory and the words to what the tables hold, and back, table by table.
use mathlib.Core.Path.{◌≡◌, refl, sym, ap, ap₂, ◌∙◌, subst}
use mathlib.Core.Bool.{Bool, true, not, ◌&&◌}
use mathlib.Core.List.{List, [], ◌∷◌, ◌++◌, map, append_assoc}
use Prim.Native.Nat.{ℕ, zero, suc, ◌+◌, ◌-◌, ◌^◌, ◌≤◌, ◌<◌}
use native.Mathlib.Omega.{arith}
use lib.Dec.{leb, T, le→leb}
use lib.ListN.{length, take, drop, replicate, length-append, length-map, length-drop, length-replicate, take-append-drop}
use lib.Seq.{take_at, drop_at, length-take-le, drop-drop}
use borrow.Author.Tests.{ne_eqb}
use Rattle.lists.specs.Lists.{within, every, sum, front, behind}
use Rattle.lists.specs.Runs.{Runs, total}
use Rattle.lists.proofs.Tests.{and_left, and_right, and_both}
use Rattle.lists.proofs.Alls.{All}
use Rattle.lists.proofs.RunLaws.{Rises}
use Rattle.slots.specs.Numbers.{limit}
use Rattle.slots.proofs.NumberLaws.{limit-lt}
use Rattle.layout.specs.Machine.{layout}
use Rattle.layout.specs.Decode.{decode}
use Rattle.directory.specs.declared.Place.{Place}
use Rattle.directory.specs.Places.{no_place, taken, places_in_use, places_not_in_use, places_right, zero_place, words_taken, fifteen}
use Rattle.rules.specs.Tables.{Table, tables, table_words, place_of}
use Rattle.rules.specs.Sound.{table_right, annex_entry, annex_right}
use Rattle.keeps.proofs.Holds.{Holds, length-words, laid_out, holds-right, right-holds}
use Rattle.keeps.proofs.Bounds.{place-fine}

-- a table of mother hashes of more than `last` bits and at most k
pub record TableFine (k last : ℕ) (t : Table) : Type 0 where
  pub above : last < t.b
  pub short : t.b ≤ k
  pub s_3 : 3 ≤ t.s
  pub s_b : t.s < t.b
  pub fits : total t.runs ≤ limit t.s
  pub size : length t.runs ≡ 2 ^ t.s
  pub rises : All Rises t.runs
  pub passes : All (All (λ p. T (annex_entry (t.b - t.s) p))) t.runs

-- their lengths rise
abbrev pub Tables : ℕ → ℕ → List Table → Type 0
Tables k last [] = Unit {0}
Tables k last (t ∷ ts) = TableFine k last t × Tables k t.b ts

-- ---- from the words

pub record Read (k last : ℕ) (ps : List Place) (annex : List ℕ) : Type 0 where
  pub are : Tables k last (tables ps annex)
  pub of : map place_of (tables ps annex) ≡ ps
  pub words : annex ≡ table_words (tables ps annex) ++ drop (words_taken ps) annex

pub read : (k last : ℕ) (ps : List Place) (annex : List ℕ) → T (places_right k last ps) → T (annex_right ps annex) → words_taken ps ≤ length annex → Read k last ps annex
unfolding annex_right tables table_words place_of words_taken sum
read k last [] annex t u l = record { are = tt; of = refl; words = refl }
read k last (p ∷ ps) annex t u l =
    let n : ℕ = 2 ^ p.s in
    let one : List ℕ = take n annex in
    let rest : List ℕ = drop n annex in
    let f = place-fine k last p ps t in
    let A = table_right (annex_entry (p.b - p.s)) p.count one in
    let B = annex_right ps rest in
    let h : Holds (annex_entry (p.b - p.s)) p.s p.count one (decode one) =
    right-holds (annex_entry (p.b - p.s)) p.s p.count one (length-take-le n annex (omega arith)) (omega (arith, f.0.fits, limit-lt p.s)) (and_left A B u) in
    let ih = read k p.b ps rest f.1 (and_right A B u) (omega (arith, length-drop n annex)) in
    record {
      are = (
        record {
          above = f.0.above;
          short = f.0.short;
          s_3 = f.0.s_3;
          s_b = f.0.s_b;
          fits = omega (arith, h.counted, f.0.fits);
          size = h.size;
          rises = h.rises;
          passes = h.passes;
        },
        ih.are,
      );
      of = ap₂ (λ (n : ℕ) (l : List Place). record { b = p.b; s = p.s; count = n } ∷ l) h.counted ih.of;
      words = sym (take-append-drop n annex)
          ∙ ap₂ (λ (x y : List ℕ). x ++ y) h.laid ih.words
          ∙ sym (append_assoc (layout (decode one)) (table_words (tables ps rest)) (drop (words_taken ps) rest))
          ∙ ap (λ (x : List ℕ). (layout (decode one) ++ table_words (tables ps rest)) ++ x) (drop-drop (words_taken ps) n annex);
    }

-- ---- and back

pub record Written (k last : ℕ) (ts : List Table) (rest : List ℕ) : Type 0 where
  pub places : T (places_right k last (map place_of ts))
  pub right : T (annex_right (map place_of ts) (table_words ts ++ rest))
  pub back : tables (map place_of ts) (table_words ts ++ rest) ≡ ts
  pub long : length (table_words ts) ≡ words_taken (map place_of ts)

place-right : (k last : ℕ) (t : Table) → TableFine k last t → (ps : List Place) → T (places_right k t.b ps) → T (places_right k last (place_of t ∷ ps))
unfolding places_right place_of
place-right k last t f ps u =
    let A = within (last + 1) k t.b in
    let B = within 3 (t.b - 1) t.s in
    let C = leb (total t.runs) (limit t.s) in
    let D = places_right k t.b ps in
    and_both A (B && (C && D)) (and_both (leb (last + 1) t.b) (leb t.b k) (le→leb (last + 1) t.b (omega (arith, f.above))) (le→leb _ _ f.short))
    (and_both B (C && D) (and_both (leb 3 t.s) (leb t.s (t.b - 1)) (le→leb _ _ f.s_3) (le→leb t.s (t.b - 1) (omega (arith, f.s_b))))
    (and_both C D (le→leb _ _ f.fits) u))

-- the words of one such table
pub table-holds : {k last : ℕ} {t : Table} → TableFine k last t → Holds (annex_entry (t.b - t.s)) t.s (total t.runs) (layout t.runs) t.runs
table-holds {t = t} f = laid_out (annex_entry (t.b - t.s)) t.s t.runs f.size (omega (arith, f.fits, limit-lt t.s)) f.rises f.passes

pub written : (k last : ℕ) (ts : List Table) (rest : List ℕ) → Tables k last ts → Written k last ts rest
unfolding places_right annex_right tables table_words place_of words_taken sum
written k last [] rest v = record { places = tt; right = tt; back = refl; long = refl }
written k last (t ∷ ts) rest v =
    let ih = written k t.b ts rest v.1 in
    let one : List ℕ = layout t.runs in
    let all : List ℕ = (one ++ table_words ts) ++ rest in
    let h = table-holds v.0 in
    let n : length one ≡ 2 ^ t.s = length-words h in
    let ass : all ≡ one ++ (table_words ts ++ rest) = append_assoc one (table_words ts) rest in
    let tk : take (2 ^ t.s) all ≡ one = ap (take (2 ^ t.s)) ass ∙ take_at one (table_words ts ++ rest) (2 ^ t.s) n in
    let dr : drop (2 ^ t.s) all ≡ table_words ts ++ rest = ap (drop (2 ^ t.s)) ass ∙ drop_at one (table_words ts ++ rest) (2 ^ t.s) n in
    record {
      places = place-right k last t v.0 (map place_of ts) ih.places;
      right =
          and_both (table_right (annex_entry (t.b - t.s)) (total t.runs) (take (2 ^ t.s) all)) (annex_right (map place_of ts) (drop (2 ^ t.s) all))
          (subst (λ (x : List ℕ). T (table_right (annex_entry (t.b - t.s)) (total t.runs) x)) (sym tk) (holds-right h))
          (subst (λ (x : List ℕ). T (annex_right (map place_of ts) x)) (sym dr) ih.right);
      back = ap₂ (λ (x : List ℕ) (y : List Table). record { b = t.b; s = t.s; runs = decode x } ∷ y) tk (ap (tables (map place_of ts)) dr ∙ ih.back)
          ∙ ap (λ (x : Runs). record { b = t.b; s = t.s; runs = x } ∷ ts) h.held;
      long = length-append one (table_words ts) ∙ ap₂ ◌+◌ n ih.long;
    }

-- ---- tables one after the other

pub words_append : (ts us : List Table) → table_words (ts ++ us) ≡ table_words ts ++ table_words us
unfolding table_words
words_append [] us = refl
words_append (t ∷ ts) us = ap (λ (l : List ℕ). layout t.runs ++ l) (words_append ts us) ∙ sym (append_assoc (layout t.runs) (table_words ts) (table_words us))

pub table_more : (k k' last last' : ℕ) (t : Table) → k ≤ k' → last' ≤ last → TableFine k last t → TableFine k' last' t
table_more k k' last last' t h l f =
    record {
      above = omega (arith, f.above);
      short = omega (arith, f.short);
      s_3 = f.s_3;
      s_b = f.s_b;
      fits = f.fits;
      size = f.size;
      rises = f.rises;
      passes = f.passes;
    }

pub tables_more : (k k' last : ℕ) (ts : List Table) → k ≤ k' → Tables k last ts → Tables k' last ts
tables_more k k' last [] h v = tt
tables_more k k' last (t ∷ ts) h v = (table_more k k' last last t h (omega arith) v.0, tables_more k k' t.b ts h v.1)

-- one table more, of more bits than all
pub tables-snoc : (k k' last : ℕ) (ts : List Table) (t : Table) → k ≤ k' → last ≤ k → Tables k last ts → TableFine k' k t → Tables k' last (ts ++ t ∷ [])
tables-snoc k k' last [] t h l v f = (table_more k' k' k last t (omega arith) l f, tt)
tables-snoc k k' last (u ∷ ts) t h l v f = (table_more k k' last last u h (omega arith) v.0, tables-snoc k k' u.b ts t h v.0.short v.1 f)

pub tables-many : (k last : ℕ) (ts : List Table) → Tables k last ts → last ≤ k → length ts + last ≤ k
tables-many k last [] v h = omega arith
tables-many k last (t ∷ ts) v h = omega (arith, v.0.above, tables-many k t.b ts v.1 v.0.short)

-- ---- fifteen places

front-yes : {A : Type 0} (f : A → Bool) (x : A) (xs : List A) → f x ≡ true → front f (x ∷ xs) ≡ x ∷ front f xs
unfolding front
front-yes f x xs e = rw (e, front)

behind-yes : {A : Type 0} (f : A → Bool) (x : A) (xs : List A) → f x ≡ true → behind f (x ∷ xs) ≡ behind f xs
unfolding behind
behind-yes f x xs e = rw (e, behind)

no_front : (n : ℕ) → places_in_use (replicate n no_place) ≡ []
unfolding front
no_front zero = refl
no_front (suc n) = refl

no-behind : (n : ℕ) → places_not_in_use (replicate n no_place) ≡ replicate n no_place
unfolding behind
no-behind zero = refl
no-behind (suc n) = refl

pub places_in_use-tables : (k last n : ℕ) (ts : List Table) → Tables k last ts → places_in_use (map place_of ts ++ replicate n no_place) ≡ map place_of ts
unfolding place_of
places_in_use-tables k last n [] v = no_front n
places_in_use-tables k last n (t ∷ ts) v =
    front-yes taken (place_of t) (map place_of ts ++ replicate n no_place) (ap not (ne_eqb t.b 0 (λ e. omega (arith, v.0.above))))
    ∙ ap (λ (l : List Place). place_of t ∷ l) (places_in_use-tables k t.b n ts v.1)

pub not-in-use : (k last n : ℕ) (ts : List Table) → Tables k last ts → places_not_in_use (map place_of ts ++ replicate n no_place) ≡ replicate n no_place
unfolding place_of
not-in-use k last n [] v = no-behind n
not-in-use k last n (t ∷ ts) v =
    behind-yes taken (place_of t) (map place_of ts ++ replicate n no_place) (ap not (ne_eqb t.b 0 (λ e. omega (arith, v.0.above))))
    ∙ not-in-use k t.b n ts v.1

zeros-right : (n : ℕ) → T (every zero_place (replicate n no_place))
unfolding every
zeros-right zero = tt
zeros-right (suc n) = zeros-right n

pub zeros : (k last n : ℕ) (ts : List Table) → Tables k last ts → T (every zero_place (places_not_in_use (map place_of ts ++ replicate n no_place)))
zeros k last n ts v = subst (λ (x : List Place). T (every zero_place x)) (sym (not-in-use k last n ts v)) (zeros-right n)

-- never more than fifteen tables
pub tables-15 : (k : ℕ) (ts : List Table) → Tables k 5 ts → k ≤ 20 → length (map place_of ts) ≤ 15
tables-15 k [] v h = omega arith
tables-15 k (t ∷ ts) v h = omega (arith, tables-many k 5 (t ∷ ts) v (omega (arith, v.0.above, v.0.short)), length-map (t ∷ ts) place_of)

pub fifteen-length : (ps : List Place) → length ps ≤ 15 → length (fifteen ps) ≡ 15
fifteen-length ps h =
    length-append ps (replicate (15 - length ps) no_place) ∙ ap (λ n. length ps + n) (length-replicate (15 - length ps) no_place) ∙ omega arith

pub fifteen-places : (k : ℕ) (ps : List Place) (ts : List Table) → ps ≡ map place_of ts → Tables k 5 ts → k ≤ 20 → length (fifteen ps) ≡ 15
fifteen-places k ps ts e v h = fifteen-length ps (omega (arith, ap length e, tables-15 k ts v h))
