-- What an accepted Double leaves: the tables of the annex, with one more if there are new mother hashes, and a good state.
use mathlib.Core.Path.{◌≡◌, refl, sym, ap, ap₂, ◌∙◌, subst}
use mathlib.Core.Bool.{not, ◌&&◌}
use mathlib.Core.List.{List, [], ◌∷◌, ◌++◌, map, append-nil}
use Prim.Native.Nat.{ℕ, zero, suc, ◌+◌, ◌-◌, ◌^◌, ◌≤◌, ◌<◌}
use native.Mathlib.Omega.{arith}
use native.Mathlib.Decide.{ℕ_discrete}
use lib.Dec.{eqb, T, eqb→eq, T_not}
use lib.ListN.{length, take, drop, replicate}
use lib.Seq.{take_at}
use Rattle.lists.specs.Lists.{sum}
use Rattle.lists.specs.Runs.{count, total}
use Rattle.lists.proofs.Tests.{and_left, and_right, eq_test}
use Rattle.lists.proofs.Alls.{All, all_map}
use Rattle.layout.specs.Machine.{layout}
use Rattle.layout.specs.Decode.{decode}
use Rattle.directory.specs.declared.Place.{Place}
use Rattle.directory.specs.Places.{no_place, places_in_use, words_taken}
use Rattle.rules.specs.Record.{Filter, change, width, in_use, annex_used}
use Rattle.rules.specs.Refusals.{record_right, slices_right}
use Rattle.rules.specs.Tables.{Table, matching, mothers_of, tables, table_words, place_of}
use Rattle.rules.specs.Sound.{sound}
use Rattle.rules.specs.Doubling.{new_hashes, size_for, table_of}
use Rattle.rules.specs.Calls.{Outcome, refused}
use Rattle.rules.specs.Slow.{hashes, room_for, double_number, doubled_runs, second_main, more_annex, more_dir, doubled_outcome, double}
use Rattle.keeps.proofs.Refusals.{refusal-zero, given-done}
use Rattle.keeps.proofs.Holds.{length-words}
use Rattle.keeps.proofs.State.{Good, Fine, fine, good}
use Rattle.keeps.proofs.Bounds.{sizes}
use Rattle.keeps.proofs.Annex.{TableFine, Tables, written, words_append, tables_more, tables-snoc, places_in_use-tables, zeros, fifteen-places}
use Rattle.keeps.proofs.Mothers.{mothers-append}
use Rattle.keeps.proofs.Parts.{Parts, parts-fine, tables-of}
use Rattle.keeps.proofs.Hashes.{hashes-right, hashes-few}
use Rattle.keeps.proofs.NewTable.{Sized, size-for, Made, made}
use Rattle.keeps.proofs.Double.{from-tables}

-- ---- the annex afterwards

module _ (r : Filter) (annex : List ℕ) where
  -- the table of new mother hashes
  abbrev pub new_table : List ℕ → Table
  new_table ms = record { b = r.k + 1; s = size_for (length ms); runs = table_of (r.k + 1) (size_for (length ms)) ms }

  abbrev pub tables_after : List ℕ → List Table
  tables_after [] = tables (in_use r) annex
  tables_after (m ∷ ms) = tables (in_use r) annex ++ new_table (m ∷ ms) ∷ []

  abbrev pub rest_after : List ℕ → List ℕ
  rest_after [] = drop (annex_used r) annex
  rest_after (m ∷ ms) = drop (annex_used r + 2 ^ size_for (length (m ∷ ms))) annex

map_snoc : {A B : Type 0} (f : A → B) (l : List A) (x : A) → map f (l ++ x ∷ []) ≡ map f l ++ f x ∷ []
map_snoc f [] x = refl
map_snoc f (y ∷ l) x = ap (λ (m : List _). f y ∷ m) (map_snoc f l x)

module _ (r : Filter) (main queue annex : List ℕ) (v : Fine r main queue annex (decode main)) (k19 : r.k < 20) (empty : r.queued ≡ 0) where
  abbrev ts : List Table
  ts = tables (in_use r) annex

  -- one table more
  module _ (m : ℕ) (l : List ℕ) (e : new_hashes (width r) r.k 0 (decode main) ≡ m ∷ l) where
    abbrev ms : List ℕ
    ms = m ∷ l

    abbrev s : ℕ
    s = size_for (length ms)

    abbrev t : Table
    t = new_table r annex ms

    right : All (λ m. (m < 2 ^ (r.k + 1)) × (6 ≤ r.k + 1)) ms
    right = subst (All (λ m. (m < 2 ^ (r.k + 1)) × (6 ≤ r.k + 1))) e (hashes-right (width r) r.k 0 (decode main) (omega (arith, v.table.size)) v.table.passes)

    pub sized : Sized r.k (length ms) s
    sized =
        size-for (length ms) r.k (omega (arith, (sizes r.start r.f r.regime v.settings).start_3, v.low_k)) v.high_k
        (omega (arith, ap length e, hashes-few (width r) r.k 0 (decode main), v.table.counted, v.used_fits))

    pub holds : Made (r.k + 1) s ms (table_of (r.k + 1) s ms)
    holds =
        made (r.k + 1) s ms (omega (arith, sized.high)) (omega (arith, sized.low))
        (all_map (λ m. (m < 2 ^ (r.k + 1)) × (6 ≤ r.k + 1)) (λ m. m < 2 ^ (r.k + 1)) (λ m x. x.0) ms right)

    pub new-fine : TableFine (r.k + 1) r.k t
    new-fine =
        record {
          above = omega arith;
          short = omega arith;
          s_3 = sized.low;
          s_b = omega (arith, sized.high);
          fits = omega (arith, sized.fits, holds.counted);
          size = holds.size;
          rises = holds.rises;
          passes = holds.passes;
        }

    pub after-fine : Tables (r.k + 1) 5 (ts ++ t ∷ [])
    after-fine = tables-snoc r.k (r.k + 1) 5 ts t (omega arith) (omega (arith, right.0.1)) (tables-of v).are new-fine

    gains : (a : ℕ) → a < 2 ^ (r.k + 1) → mothers_of a (ts ++ t ∷ []) ≡ mothers_of a ts + count a (new_hashes (width r) r.k 0 (decode main))
    gains a h = mothers-append a ts (t ∷ []) ∙ ap (λ n. mothers_of a ts + n) (one a t ∙ holds.matched a h ∙ ap (count a) (sym e))
      where
        one : (a : ℕ) (t : Table) → mothers_of a (t ∷ []) ≡ matching a t
        one a t = unfold mothers_of sum in omega arith

    pub places : in_use r ++ (record { b = r.k + 1; s = s; count = length ms } ∷ []) ≡ map place_of (ts ++ t ∷ [])
    unfolding place_of
    places = ap₂ (λ (x : List Place) (n : ℕ). x ++ (record { b = r.k + 1; s = s; count = n } ∷ [])) (sym (tables-of v).of) (sym holds.counted) ∙ sym (map_snoc place_of ts t)

    pub words : take (annex_used r) annex ++ layout (table_of (r.k + 1) s ms) ++ drop (annex_used r + 2 ^ s) annex ≡ table_words (ts ++ t ∷ []) ++ drop (annex_used r + 2 ^ s) annex
    words = ap (λ (x : List ℕ). x ++ drop (annex_used r + 2 ^ s) annex) (ap₂ (λ (x y : List ℕ). x ++ y) front (sym (single t)) ∙ sym (words_append ts (t ∷ [])))
      where
        single : (t : Table) → table_words (t ∷ []) ≡ layout t.runs
        single t = unfold table_words in append-nil (layout t.runs)

        long : length (table_words ts) ≡ annex_used r
        long = (written r.k 5 ts [] (tables-of v).are).long ∙ ap words_taken (tables-of v).of

        front : take (annex_used r) annex ≡ table_words ts
        front = ap (take (annex_used r)) (tables-of v).words ∙ take_at (table_words ts) (drop (annex_used r) annex) (annex_used r) long

    pub more_parts : Parts (change r (r.k + 1) (total (doubled_runs r main queue annex)) 0 (more_dir r main queue annex ms)) (layout (doubled_runs r main queue annex)) queue
        (more_annex r main queue annex ms) (rest_after r annex ms) (doubled_runs r main queue annex) (tables_after r annex ms)
    unfolding more_dir more_annex
    more_parts =
        let p : Place = record { b = r.k + 1; s = s; count = length ms } in
        let n : ℕ = 15 - length (in_use r ++ p ∷ []) in
        from-tables r main queue annex v k19 empty (ts ++ t ∷ []) (drop (annex_used r + 2 ^ s) annex) (more_annex r main queue annex ms) (more_dir r main queue annex ms) after-fine gains
        (ap (λ (x : List Place). places_in_use (x ++ replicate n no_place)) places ∙ places_in_use-tables (r.k + 1) 5 n (ts ++ t ∷ []) after-fine)
        (rw places (zeros (r.k + 1) 5 (15 - length (map place_of (ts ++ t ∷ []))) (ts ++ t ∷ []) after-fine))
        words

    pub more-places : length (more_dir r main queue annex ms) ≡ 15
    unfolding more_dir
    more-places = fifteen-places (r.k + 1) (in_use r ++ (record { b = r.k + 1; s = s; count = length ms } ∷ [])) (ts ++ t ∷ []) places after-fine (omega arith)

  pub doubled-parts : (ms : List ℕ) → new_hashes (width r) r.k 0 (decode main) ≡ ms
      → Parts (change r (r.k + 1) (total (doubled_runs r main queue annex)) 0 (more_dir r main queue annex ms)) (layout (doubled_runs r main queue annex)) queue (more_annex r main queue annex ms)
      (rest_after r annex ms) (doubled_runs r main queue annex) (tables_after r annex ms)
  unfolding more_dir more_annex
  doubled-parts [] e =
      let rd = tables-of v in
      from-tables r main queue annex v k19 empty ts (drop (annex_used r) annex) annex r.dir (tables_more r.k (r.k + 1) 5 ts (omega arith) rd.are)
      (λ a h. omega (arith, ap (count a) e, none a)) (sym rd.of) v.zeros rd.words
    where
      none : (a : ℕ) → count a [] ≡ 0
      none a = unfold count in refl
  doubled-parts (m ∷ l) e = more_parts m l e

-- ---- the call

module _ (r : Filter) (main queue annex second : List ℕ) where
  -- an accepted Double had a good state, below the last generation, with an empty queue and room
  pub record DoubleHad : Type 0 where
    pub state : Good r main queue annex
    pub less : r.k < 20
    pub empty : r.queued ≡ 0
    pub long : length second ≡ 2 ^ (r.k + 1)
    pub room : T (room_for r main queue annex (hashes r main queue annex))

  -- by its number
  pub number-had : double_number r main queue annex (length second) ≡ 0 → DoubleHad
  unfolding double_number
  number-had z =
      let A = slices_right r (length main) (length queue) (length annex) in
      let B = eqb (length second) (2 ^ (r.k + 1)) in
      let a = refusal-zero (record_right r) 1 _ z in
      let b = refusal-zero (not (eqb r.k 20)) 8 _ a.1 in
      let c = refusal-zero (A && B) 2 _ b.1 in
      let e = refusal-zero (sound r main queue annex) 3 _ c.1 in
      let f = refusal-zero (eqb r.queued 0) 7 _ e.1 in
      let h = refusal-zero (room_for r main queue annex (hashes r main queue annex)) 9 [] f.1 in
      let g : Good r main queue annex = record { record-right = a.0; slices-right = and_left A B c.0; is_sound = e.0 } in
      record {
        state = g;
        less = below r.k (fine r main queue annex g).high_k b.0;
        empty = eqb→eq r.queued 0 f.0;
        long = eqb→eq (length second) (2 ^ (r.k + 1)) (and_right A B c.0);
        room = h.0;
      }
    where
      below : (k : ℕ) → k ≤ 20 → T (not (eqb k 20)) → k < 20
      below k h t = lower (ℕ_discrete k 20)
        where
          lower : Dec (k ≡ 20) → k < 20
          lower (yes e) = absurd (T_not (eqb k 20) t (eq_test k 20 e))
          lower (no e) = omega arith

  pub double-done : (double r main queue annex (length second)).number ≡ 0
      → (double_number r main queue annex (length second) ≡ 0) × (double r main queue annex (length second) ≡ doubled_outcome r main queue annex)
  unfolding double refused
  double-done z =
      let n = double_number r main queue annex (length second) in
      given-done n (doubled_outcome r main queue annex) (refused r main queue annex n) refl z

  pub second_is : double_number r main queue annex (length second) ≡ 0 → second_main r main queue annex second ≡ layout (doubled_runs r main queue annex)
  unfolding second_main
  second_is e = go (double_number r main queue annex (length second)) e
    where
      go : (n : ℕ) → n ≡ 0 → ◌≡◌ {A = List ℕ} (elim n [ zero ↦ layout (doubled_runs r main queue annex) | suc n ↦ second ]) (layout (doubled_runs r main queue annex))
      go zero e = refl
      go (suc n) e = absurd (omega arith)

  pub doubled-fine : DoubleHad
      → Fine (doubled_outcome r main queue annex).rec (layout (doubled_runs r main queue annex)) queue (doubled_outcome r main queue annex).annex (doubled_runs r main queue annex)
  unfolding doubled_outcome hashes
  doubled-fine d = parts-fine (doubled-parts r main queue annex (fine r main queue annex d.state) d.less d.empty (new_hashes (width r) r.k 0 (decode main)) refl)

  pub length-second : DoubleHad → length (layout (doubled_runs r main queue annex)) ≡ 2 ^ (r.k + 1)
  unfolding doubled_outcome change
  length-second d = length-words (doubled-fine d).table

  pub doubled-places : DoubleHad → length r.dir ≡ 15 → length (doubled_outcome r main queue annex).rec.dir ≡ 15
  unfolding doubled_outcome change hashes
  doubled-places d h = go (new_hashes (width r) r.k 0 (decode main)) refl
    where
      go : (ms : List ℕ) → new_hashes (width r) r.k 0 (decode main) ≡ ms → length (more_dir r main queue annex ms) ≡ 15
      go [] e = unfold more_dir in h
      go (m ∷ l) e = more-places r main queue annex (fine r main queue annex d.state) d.less d.empty m l e

  -- the second main is the main table afterwards
  pub double-good : (double r main queue annex (length second)).number ≡ 0
      → Good (double r main queue annex (length second)).rec (second_main r main queue annex second) (double r main queue annex (length second)).queue (double r main queue annex (length second)).annex
  double-good zz =
      let d = double-done zz in
      subst (λ (o : Outcome). Good o.rec (second_main r main queue annex second) o.queue o.annex) (sym d.1)
      (subst (λ (m : List ℕ). Good (doubled_outcome r main queue annex).rec m (doubled_outcome r main queue annex).queue (doubled_outcome r main queue annex).annex) (sym (second_is d.0))
      (at_last (number-had d.0)))
    where
      at_last : DoubleHad → Good (doubled_outcome r main queue annex).rec (layout (doubled_runs r main queue annex)) (doubled_outcome r main queue annex).queue (doubled_outcome r main queue annex).annex
      at_last d = unfold doubled_outcome in good _ _ _ _ _ (doubled-fine d)
