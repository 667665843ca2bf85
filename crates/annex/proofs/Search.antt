-- The search from the last table down: where it stands no later table has a match, and the words before it are those of the tables before it.
use mathlib.Core.Path.{◌≡◌, refl, sym, ap, ap₂, ◌∙◌, subst}
use mathlib.Core.List.{List, [], ◌∷◌}
use Prim.Native.Nat.{ℕ, zero, suc, ◌+◌, ◌-◌, ◌^◌, ◌≤◌, ◌<◌}
use native.Mathlib.Omega.{arith}
use native.Mathlib.Decide.{dec_le}
use lib.ListN.{length, get_or, take, drop}
use Rattle.std.proofs.Common.{Some}
use lib.Seq.{take-suc, drop-drop}
use borrow.Rule.Slice.PartMut.{mid_len}
use Rattle.lists.proofs.Alls.{all-get}
use Rattle.directory.specs.declared.Place.{Place}
use Rattle.directory.specs.Places.{no_place, taken, places_in_use, words_taken}
use Rattle.directory.proofs.Front.{front-get}
use Rattle.directory.proofs.Laws.{RightPlace, right-places, in-use-length, words_append, words-cons, words-none, words_inside}
use Rattle.rules.specs.Tables.{matching, tables}
use Rattle.annex.specs.Stored.{no_table, table_of, stored, Placed, NoneFrom, LongestAt}

pub tables-length : (ps : List Place) (annex : List ℕ) → length (tables ps annex) ≡ length ps
unfolding tables
tables-length [] annex = refl
tables-length (p ∷ ps) annex = ap suc (tables-length ps (drop (2 ^ p.s) annex))

-- the table at place i, by its words
pub tables-at : (ps : List Place) (annex : List ℕ) (i : ℕ) → i < length ps
    → get_or (tables ps annex) i no_table
    ≡ table_of (get_or ps i no_place).b (get_or ps i no_place).s (take (2 ^ (get_or ps i no_place).s) (drop (words_taken (take i ps)) annex))
unfolding tables
tables-at [] annex i h = absurd (omega arith)
tables-at (p ∷ ps) annex zero h = ap (λ (n : ℕ). table_of p.b p.s (take (2 ^ p.s) (drop n annex))) (sym words-none)
tables-at (p ∷ ps) annex (suc i) h =
    tables-at ps (drop (2 ^ p.s) annex) i (omega arith)
    ∙ ap (λ (l : List ℕ). table_of (get_or ps i no_place).b (get_or ps i no_place).s (take (2 ^ (get_or ps i no_place).s) l))
    (drop-drop (words_taken (take i ps)) (2 ^ p.s) annex ∙ ap (λ (n : ℕ). drop n annex) (sym (words-cons p (take i ps))))

pub inside-15 : (places : List Place) (i : ℕ) → length places ≡ 15 → i < length (places_in_use places) → i < 15
inside-15 places i e h = omega (arith, in-use-length places e)

-- the tables from place i on have no match, and the words before them end at `at`
pub record Searched (places : List Place) (annex : List ℕ) (c i at : ℕ) : Type 0 where
  pub high : i ≤ length (places_in_use places)
  pub before : at ≡ words_taken (take i (places_in_use places))
  pub nothing : NoneFrom c (stored places annex) i

module _ (places : List Place) (annex : List ℕ) (g : Placed places annex) where
  pub place-right : (i : ℕ) → i < length (places_in_use places) → RightPlace 20 5 (get_or places i no_place)
  place-right i h =
      subst (RightPlace 20 5) (front-get taken places i no_place h)
      (all-get (RightPlace 20 5) (places_in_use places) no_place (right-places 20 places g.directory) i h)

  -- the words of the table at place i begin at `at`, and are n
  module _ (i at n : ℕ) (h : i < length (places_in_use places)) (ea : at ≡ words_taken (take i (places_in_use places)))
      (en : n ≡ 2 ^ (get_or places i no_place).s) where
    same_size : 2 ^ (get_or places i no_place).s ≡ 2 ^ (get_or (places_in_use places) i no_place).s
    same_size = ap (λ (p : Place). 2 ^ p.s) (sym (front-get taken places i no_place h))

    pub table-ends : at + n ≤ length annex
    table-ends = omega (arith, words_inside (places_in_use places) i h, same_size, g.long)

    pub table-long : (e : ℕ) → e ≡ at + n → length (take (e - at) (drop at annex)) ≡ 2 ^ (get_or places i no_place).s
    table-long e f = mid_len at e annex (omega (arith, table-ends)) ∙ omega arith

    pub table_is : (e : ℕ) → e ≡ at + n
        → table_of (get_or places i no_place).b (get_or places i no_place).s (take (e - at) (drop at annex)) ≡ get_or (stored places annex) i no_table
    table_is e f =
        let m : e - at ≡ 2 ^ (get_or places i no_place).s = omega arith in
        ap₂ (λ (x y : ℕ). table_of (get_or places i no_place).b (get_or places i no_place).s (take x (drop y annex))) m ea
        ∙ ap (λ (p : Place). table_of p.b p.s (take (2 ^ p.s) (drop (words_taken (take i (places_in_use places))) annex)))
        (sym (front-get taken places i no_place h))
        ∙ sym (tables-at (places_in_use places) annex i h)

  pub search-start : (c i at : ℕ) → i ≡ length (places_in_use places) → at ≡ words_taken (take i (places_in_use places)) → Searched places annex c i at
  search-start c i at e f = record { high = omega arith; before = f; nothing = λ j l m. absurd (omega (arith, tables-length (places_in_use places) annex)) }

  module _ (c i at n : ℕ) (s : Searched places annex c i at) (h : 0 < i) (en : n ≡ 2 ^ (get_or places (i - 1) no_place).s) where
    pub in_use : i - 1 < length (places_in_use places)
    in_use = omega (arith, s.high)

    pub last-right : RightPlace 20 5 (get_or places (i - 1) no_place)
    last-right = place-right (i - 1) in_use

    step : at ≡ words_taken (take (i - 1) (places_in_use places)) + n
    step =
        let ps = places_in_use places in
        let k : ℕ = i - 1 in
        let p = get_or ps k no_place in
        let e : i ≡ suc k = omega arith in
        let t : at ≡ words_taken (take k ps) + (2 ^ p.s + 0) =
        s.before ∙ ap (λ (m : ℕ). words_taken (take m ps)) e ∙ ap words_taken (take-suc ps k no_place in_use) ∙ words_append (take k ps) (p ∷ [])
        ∙ ap (λ (m : ℕ). words_taken (take k ps) + m) (words-cons p [] ∙ ap (λ (m : ℕ). 2 ^ p.s + m) words-none) in
        omega (arith, ap (λ (p : Place). 2 ^ p.s) (front-get taken places k no_place in_use))

    pub fewer : n ≤ at
    fewer = omega (arith, step)

    first : at - n ≡ words_taken (take (i - 1) (places_in_use places))
    first = omega (arith, step)

    pub last-ends : at ≤ length annex
    last-ends = omega (arith, table-ends (i - 1) (at - n) n in_use first en, fewer)

    pub last-long : length (take (at - (at - n)) (drop (at - n) annex)) ≡ 2 ^ (get_or places (i - 1) no_place).s
    last-long = table-long (i - 1) (at - n) n in_use first en at (omega (arith, fewer))

    last-is : table_of (get_or places (i - 1) no_place).b (get_or places (i - 1) no_place).s (take (at - (at - n)) (drop (at - n) annex))
        ≡ get_or (stored places annex) (i - 1) no_table
    last-is = table_is (i - 1) (at - n) n in_use first en at (omega (arith, fewer))

    module _ (r : ℕ)
        (e : r ≡ matching c (table_of (get_or places (i - 1) no_place).b (get_or places (i - 1) no_place).s (take (at - (at - n)) (drop (at - n) annex)))) where
      is-match : r ≡ matching c (get_or (stored places annex) (i - 1) no_table)
      is-match = e ∙ ap (matching c) last-is

      pub search-found : 0 < r → LongestAt c (stored places annex) (Some (i - 1))
      search-found m =
          (omega (arith, in_use, tables-length (places_in_use places) annex), omega (arith, is-match), λ j l q. s.nothing j (omega arith) q)

      pub search-again : r ≤ 0 → Searched places annex c (i - 1) (at - n)
      search-again z = record { high = omega (arith, in_use); before = first; nothing = λ j l q. go j l q (dec_le i j) }
        where
          go : (j : ℕ) → i - 1 ≤ j → j < length (stored places annex) → Dec (i ≤ j) → matching c (get_or (stored places annex) j no_table) ≡ 0
          go j l q (yes h) = s.nothing j h q
          go j l q (no k) =
              let e : j ≡ i - 1 = omega arith in
              ap (λ (x : ℕ). matching c (get_or (stored places annex) x no_table)) e ∙ sym is-match ∙ omega arith
