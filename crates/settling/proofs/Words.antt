-- What one queue word leaves, from what the code leaves of main, annex and directory; and one word after the other.
use mathlib.Core.Path.{◌≡◌, refl, sym, ap, ap₂, ◌∙◌, subst}
use mathlib.Core.Bool.{not}
use mathlib.Core.List.{List, [], ◌∷◌, ◌++◌, map}
use Prim.Native.Nat.{ℕ, zero, suc, ◌+◌, ◌-◌, ◌/◌, ◌≤◌, ◌<◌}
use native.Mathlib.Omega.{arith}
use native.Mathlib.Numerals.{add-one}
use lib.Dec.{T}
use lib.ListN.{length, get_or, take, drop, set, length-append}
use lib.Seq.{split_at, set_split, take-suc, take_all, drop_at}
use Rattle.std.proofs.Common.{Some, None}
use borrow.Author.Tests.{ne_eqb}
use Rattle.lists.specs.Lists.{every}
use Rattle.lists.specs.Runs.{Runs, rising, total}
use Rattle.lists.proofs.Tests.{and_both, true-test}
use Rattle.lists.proofs.Alls.{All}
use Rattle.lists.proofs.RunLaws.{Rises, all-erase, rises-erase}
use Rattle.slots.specs.Payload.{void}
use Rattle.slots.proofs.NumberLaws.{limit-lt}
use Rattle.layout.specs.Machine.{layout}
use Rattle.layout.specs.Decode.{decode}
use Rattle.directory.specs.declared.Place.{Place}
use Rattle.directory.specs.Places.{no_place, taken, places_in_use, places_not_in_use, places_right, zero_place, directory_right, words_taken}
use Rattle.directory.proofs.Front.{front-get}
use Rattle.directory.proofs.Laws.{right-used, right-rest, in-use-set, rest-set}
use Rattle.rules.specs.Tables.{Table, tables, table_words, place_of}
use Rattle.rules.specs.Sound.{table_right, main_entry}
use Rattle.rules.specs.Settling.{Held, take_voids, settle_word, settle_all}
use Rattle.keeps.proofs.Holds.{Holds, length-words, laid_out, holds-right, right-holds}
use Rattle.keeps.proofs.Annex.{TableFine, Tables, Read, read, Written, written, tables_more}
use Rattle.keeps.proofs.Take.{tables-changed, without-fine}
use Rattle.keeps.proofs.Cuts.{cut-length, cut_all}
use Rattle.annex.specs.Stored.{no_table, stored, Placed, LongestAt, without, FoundAt, TakenAt}
use Rattle.annex.proofs.Search.{tables-length, tables-at}
use Rattle.settling.specs.State.{held_in, Right, Holding, Lost}
use Rattle.settling.proofs.Losses.{rises-all}
use Rattle.settling.proofs.Longest.{table_at, longest-none, longest-at, take_at, word_none, word-found}

map-set : (ts : List Table) (i : ℕ) (u : Table) → map place_of (set ts i u) ≡ set (map place_of ts) i (place_of u)
map-set [] i u = refl
map-set (t ∷ ts) zero u = refl
map-set (t ∷ ts) (suc i) u = ap (λ (l : List Place). place_of t ∷ l) (map-set ts i u)

module _ (k w used : ℕ) (main annex : List ℕ) (places : List Place) (g : Right k w used main annex places) where
  abbrev ps : List Place
  ps = places_in_use places

  abbrev ts : List Table
  ts = stored places annex

  abbrev rest : List ℕ
  rest = drop (words_taken ps) annex

  pub table : Holds (main_entry w k) k used main (decode main)
  table = right-holds (main_entry w k) k used main g.main_long (omega (arith, g.used_fits, limit-lt k)) g.main-right

  pub is_read : Read k 5 ps annex
  is_read = read k 5 ps annex (right-used k places g.directory) g.annex-right g.annex_long

  pub placed : Placed places annex
  unfolding directory_right
  placed =
      record {
        directory =
            and_both (places_right 20 5 ps) (every zero_place (places_not_in_use places))
            (subst (λ (l : List Place). T (places_right 20 5 l)) is_read.of (written 20 5 ts rest (tables_more k 20 5 ts g.k_20 is_read.are)).places)
            (right-rest k places g.directory);
        long = g.annex_long;
      }

  -- nothing matches
  pub holds-none : (c : ℕ) → LongestAt c ts None → Holding (settle_word w c (held_in main annex places)) rest k w used main annex places
  holds-none c l =
      record {
        right = g;
        holds = sym (word_none c w (held_in main annex places) (longest-none c ts (λ j q. l j (omega arith) q)));
        past = refl;
      }

  module _ (c i : ℕ) (l : LongestAt c ts (Some i)) where
    abbrev t : Table
    t = get_or ts i no_table

    inside : i < length ts
    inside = l.0

    fine : TableFine k 5 t
    fine = table_at k 5 ts i is_read.are inside

    pub in_use : i < length ps
    in_use = omega (arith, inside, tables-length ps annex)

    same_length : t.b ≡ (get_or places i no_place).b
    same_length = ap (λ (t : Table). t.b) (tables-at ps annex i in_use) ∙ ap (λ (p : Place). p.b) (front-get taken places i no_place in_use)

    pub short : (get_or places i no_place).b ≤ k
    short = omega (arith, fine.short, same_length)

    pub found_at : FoundAt places annex i c
    found_at = record { placed = placed; right = g.annex-right; inside = in_use; match = l.1 }

    is_word : settle_word w c (held_in main annex places) ≡ record { main = take_voids w c t.b (decode main); annex = set ts i (without t c) }
    is_word =
        word-found c w (held_in main annex places) t.b (omega (arith, fine.above))
        (longest-at c k 5 ts i is_read.are inside l.1 (λ j q m. l.2 j (omega arith) m))
        ∙ ap (λ (x : List Table). record { main = take_voids w c t.b (decode main); annex = x }) (take_at c k 5 ts i is_read.are inside)

    -- what is left
    abbrev runs : Runs
    runs = take_voids w c t.b (decode main)

    abbrev us : List Table
    us = set ts i (without t c)

    us-are : Tables k 5 us
    us-are =
        subst (Tables k 5) (sym (set_split ts i (without t c) inside))
        (tables-changed k 5 (take i ts) t (without t c) (drop (suc i) ts) refl (λ m f. without-fine k m c t f l.1)
        (subst (Tables k 5) (split_at ts i no_table inside) is_read.are))

    module _ (main' : List ℕ) (gone : ℕ) (v : Lost (take_voids w c (get_or places i no_place).b) main main' gone) where
      lost : Lost (take_voids w c t.b) main main' gone
      lost = subst (λ (b : ℕ). Lost (take_voids w c b) main main' gone) (sym same_length) v

      few : total (decode main) < length (decode main)
      few = omega (arith, table.room, table.size)

      rises : T (every rising (decode main))
      rises = rises-all (decode main) table.rises

      words : main' ≡ layout runs
      words = lost.words (decode main) table.laid few rises

      counted : gone + total runs ≡ used
      counted = lost.counted (decode main) table.laid few rises ∙ table.counted

      pub fewer : gone ≤ used
      fewer = omega (arith, counted)

      new : Holds (main_entry w k) k (total runs) (layout runs) runs
      new =
          laid_out (main_entry w k) k runs (cut-length w c t.b (decode main) ∙ table.size) (omega (arith, counted, g.used_fits, limit-lt k))
          (cut_all w c t.b (decode main) Rises (λ run r. rises-erase (void w) run r) table.rises)
          (cut_all w c t.b (decode main) (All (λ p. T (main_entry w k p))) (λ run r. all-erase (λ p. T (main_entry w k p)) (void w) run r) table.passes)

      main-right : T (table_right (main_entry w k) (used - gone) main')
      main-right =
          let n : total runs ≡ used - gone = omega (arith, counted) in
          subst (λ (m : ℕ). T (table_right (main_entry w k) m main')) n
          (subst (λ (x : List ℕ). T (table_right (main_entry w k) (total runs) x)) (sym words) (holds-right new))

      module _ (annex' : List ℕ) (dir : List Place) (z : TakenAt places annex i c annex' dir) where
        is_taken : T (taken (place_of (without t c)))
        unfolding place_of
        is_taken = true-test (taken (place_of (without t c))) (ap not (ne_eqb t.b 0 (λ e. omega (arith, fine.above))))

        used-places : places_in_use dir ≡ map place_of us
        used-places =
            ap places_in_use z.counts ∙ in-use-set places i (place_of (without t c)) in_use is_taken
            ∙ ap (λ (x : List Place). set x i (place_of (without t c))) (sym is_read.of) ∙ sym (map-set ts i (without t c))

        no-places : places_not_in_use dir ≡ places_not_in_use places
        no-places = ap places_not_in_use z.counts ∙ rest-set places i (place_of (without t c)) in_use is_taken

        wr : Written k 5 us rest
        wr = written k 5 us rest us-are

        taken-long : length (table_words us) ≡ words_taken (places_in_use dir)
        taken-long = wr.long ∙ ap words_taken (sym used-places)

        directory : T (directory_right k dir)
        unfolding directory_right
        directory =
            and_both (places_right k 5 (places_in_use dir)) (every zero_place (places_not_in_use dir))
            (subst (λ (x : List Place). T (places_right k 5 x)) (sym used-places) wr.places)
            (subst (λ (x : List Place). T (every zero_place x)) (sym no-places) (right-rest k places g.directory))

        pub holds-found : Holding (settle_word w c (held_in main annex places)) rest k w (used - gone) main' annex' dir
        holds-found =
            record {
              right = record {
                k_3 = g.k_3;
                k_20 = g.k_20;
                w_1 = g.w_1;
                w_26 = g.w_26;
                used_fits = omega (arith, g.used_fits);
                main_long = ap length words ∙ length-words new;
                main-right = main-right;
                directory = directory;
                annex_long = omega (arith, taken-long, ap length z.words, length-append (table_words us) rest);
                annex-right = rw (used-places, z.words) wr.right;
              };
              holds = ap₂ (λ (x : Runs) (y : List Table). record { main = x; annex = y }) (ap decode words ∙ new.held)
                  (ap₂ tables used-places z.words ∙ wr.back) ∙ sym is_word;
              past = ap (drop (words_taken (places_in_use dir))) z.words ∙ drop_at (table_words us) rest (words_taken (places_in_use dir)) taken-long;
            }

-- ---- one word after the other

all_snoc : (w : ℕ) (ws : List ℕ) (q : ℕ) (x : Held) → settle_all w (ws ++ q ∷ []) x ≡ settle_word w (q / 2) (settle_all w ws x)
unfolding settle_all
all_snoc w [] q x = refl
all_snoc w (p ∷ ws) q x = all_snoc w ws q (settle_word w (p / 2) x)

pub words-start : (k w used : ℕ) (queue main annex : List ℕ) (places : List Place) → Right k w used main annex places
    → Holding (settle_all w (take 0 queue) (held_in main annex places)) (drop (words_taken (places_in_use places)) annex) k w used main annex places
unfolding settle_all
words-start k w used queue main annex places g = record { right = g; holds = refl; past = refl }

pub words-next : (k w : ℕ) (queue : List ℕ) (j c : ℕ) (x : Held) (rest : List ℕ) (used used' : ℕ) (main main' annex annex' : List ℕ) (dir dir' : List Place)
    → j < length queue → c ≡ get_or queue j 0 / 2 → Holding (settle_all w (take j queue) x) rest k w used main annex dir
    → Holding (settle_word w c (held_in main annex dir)) (drop (words_taken (places_in_use dir)) annex) k w used' main' annex' dir'
    → Holding (settle_all w (take (j + 1) queue) x) rest k w used' main' annex' dir'
words-next k w queue j c x rest used used' main main' annex annex' dir dir' h e v u =
    let t : take (j + 1) queue ≡ take j queue ++ get_or queue j 0 ∷ [] = rw (add-one, take-suc queue j 0) in
    let s : settle_word w c (settle_all w (take j queue) x) ≡ settle_all w (take (j + 1) queue) x
    = ap (λ (n : ℕ). settle_word w n (settle_all w (take j queue) x)) e ∙ sym (all_snoc w (take j queue) (get_or queue j 0) x)
    ∙ ap (λ (l : List ℕ). settle_all w l x) (sym t) in
    record { right = u.right; holds = u.holds ∙ ap (settle_word w c) v.holds ∙ s; past = u.past ∙ v.past }

pub words-end : (k w : ℕ) (queue : List ℕ) (j : ℕ) (x : Held) (rest : List ℕ) (used : ℕ) (main annex : List ℕ) (dir : List Place) → length queue ≤ j
    → Holding (settle_all w (take j queue) x) rest k w used main annex dir → Holding (settle_all w queue x) rest k w used main annex dir
words-end k w queue j x rest used main annex dir h v =
    subst (λ (l : List ℕ). Holding (settle_all w l x) rest k w used main annex dir) (take_all j queue h) v
