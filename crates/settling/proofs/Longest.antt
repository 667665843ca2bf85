-- The last table with a match is the one of the longest match, and there the mother hash is taken: by induction on the tables, whose lengths rise.
use mathlib.Core.Path.{◌≡◌, refl, ap, ◌∙◌}
use mathlib.Core.Bool.{Bool, true, false}
use mathlib.Core.List.{List, [], ◌∷◌}
use Prim.Native.Nat.{ℕ, zero, suc, ◌<◌}
use native.Mathlib.Omega.{arith}
use lib.Dec.{ltb}
use lib.ListN.{length, get_or, set}
use borrow.Author.Tests.{eq-eqb, ne_eqb, lt-ltb, le-ltb}
use Rattle.rules.specs.Tables.{Table, matching}
use Rattle.rules.specs.Settling.{Held, longest, take_hash, take_voids, settle_found, settle_word}
use Rattle.keeps.proofs.Annex.{TableFine, Tables, table_more}
use Rattle.annex.specs.Stored.{no_table, without}

pub table_at : (k last : ℕ) (ts : List Table) (i : ℕ) → Tables k last ts → i < length ts → TableFine k last (get_or ts i no_table)
table_at k last [] i v h = absurd (omega arith)
table_at k last (t ∷ ts) zero v h = v.0
table_at k last (t ∷ ts) (suc i) v h = table_more k k t.b last (get_or ts i no_table) (omega arith) (omega (arith, v.0.above)) (table_at k t.b ts i v.1 (omega arith))

module _ (c : ℕ) where
  -- of a table and those after it, whose longest match is n
  abbrev among : Table → ℕ → ℕ
  among t n = elim n [ zero ↦ elim (ltb 0 (matching c t)) [ true ↦ t.b | false ↦ 0 ] | suc n ↦ suc n ]

  later : (t : Table) (n : ℕ) → 0 < n → among t n ≡ n
  later t zero h = absurd (omega arith)
  later t (suc n) h = refl

  pub longest-none : (ts : List Table) → ((j : ℕ) → j < length ts → matching c (get_or ts j no_table) ≡ 0) → longest c ts ≡ 0
  unfolding longest
  longest-none [] f = refl
  longest-none (t ∷ ts) f =
      ap (among t) (longest-none ts (λ j h. f (suc j) (omega arith)))
      ∙ ap (λ (y : Bool). elim y [ true ↦ t.b | false ↦ 0 ]) (le-ltb 0 (matching c t) (omega (arith, f 0 (omega arith))))

  pub longest-at : (k last : ℕ) (ts : List Table) (i : ℕ) → Tables k last ts → i < length ts → 0 < matching c (get_or ts i no_table)
      → ((j : ℕ) → i < j → j < length ts → matching c (get_or ts j no_table) ≡ 0) → longest c ts ≡ (get_or ts i no_table).b
  unfolding longest
  longest-at k last [] i v h m f = absurd (omega arith)
  longest-at k last (t ∷ ts) zero v h m f =
      ap (among t) (longest-none ts (λ j l. f (suc j) (omega arith) (omega arith)))
      ∙ ap (λ (y : Bool). elim y [ true ↦ t.b | false ↦ 0 ]) (lt-ltb 0 (matching c t) m)
  longest-at k last (t ∷ ts) (suc i) v h m f =
      ap (among t) (longest-at k t.b ts i v.1 (omega arith) m (λ j l q. f (suc j) (omega arith) (omega arith)))
      ∙ later t (get_or ts i no_table).b (omega (arith, (table_at k t.b ts i v.1 (omega arith)).above))

  pub take_at : (k last : ℕ) (ts : List Table) (i : ℕ) → Tables k last ts → i < length ts → take_hash (get_or ts i no_table).b c ts ≡ set ts i (without (get_or ts i no_table) c)
  unfolding take_hash
  take_at k last [] i v h = absurd (omega arith)
  take_at k last (t ∷ ts) zero v h = ap (λ (y : Bool). elim y [ true ↦ without t c ∷ ts | false ↦ t ∷ take_hash t.b c ts ]) (eq-eqb t.b t.b refl)
  take_at k last (t ∷ ts) (suc i) v h =
      let u = get_or ts i no_table in
      let l : t.b < u.b = (table_at k t.b ts i v.1 (omega arith)).above in
      rw (ne_eqb u.b t.b (λ e. omega arith), take_hash) (ap (λ (l : List Table). t ∷ l) (take_at k t.b ts i v.1 (omega arith)))

  -- a queue word that names c
  module _ (w : ℕ) (x : Held) where
    pub word_none : longest c x.annex ≡ 0 → settle_word w c x ≡ x
    unfolding settle_word settle_found
    word_none e = ap (λ (n : ℕ). settle_found w c n x) e

    pub word-found : (b : ℕ) → 0 < b → longest c x.annex ≡ b → settle_word w c x ≡ record { main = take_voids w c b x.main; annex = take_hash b c x.annex }
    unfolding settle_word settle_found
    word-found zero h e = absurd (omega arith)
    word-found (suc b) h e = ap (λ (n : ℕ). settle_found w c n x) e
