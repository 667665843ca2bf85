-- Settle in the annex: the longest mother hash that matches an address is in the last table that has one, and there it is removed; then empty tables at the
-- end are dropped.
use mathlib.Core.Path.{◌≡◌, refl, sym, ap, ap₂, ◌∙◌, subst}
use mathlib.Core.Bool.{Bool, true, false}
use mathlib.Core.List.{List, [], ◌∷◌, ◌++◌, map}
use Prim.Native.Nat.{ℕ, zero, suc, ◌+◌, ◌-◌, ◌%◌, ◌^◌, ◌≤◌, ◌<◌}
use native.Mathlib.Omega.{arith}
use native.Mathlib.Nat.{mod-lt}
use native.Mathlib.Decide.{dec_lt, ℕ_discrete}
use lib.Dec.{ltb, T}
use lib.Pow.{pow_pos}
use lib.ListN.{length, get_or, replicate, length-set}
use borrow.Author.Tests.{eq-eqb, ne_eqb, lt-ltb, le-ltb}
use Rattle.lists.specs.Lists.{sum}
use Rattle.lists.specs.Runs.{Runs, erase, count, total}
use Rattle.lists.proofs.Tests.{is}
use Rattle.lists.proofs.Alls.{All, all-get, all_set}
use Rattle.lists.proofs.Sums.{same_length}
use Rattle.lists.proofs.RunLaws.{Rises, all-erase, rises-erase, erase_same, total-set}
use Rattle.layout.specs.Machine.{layout}
use Rattle.layout.proofs.Keeps.{layout-none}
use Rattle.directory.specs.Places.{keep, trim}
use Rattle.rules.specs.Tables.{Table, hash_entry, matching, mothers_of, place_of}
use Rattle.rules.specs.Sound.{annex_entry}
use Rattle.rules.specs.Settling.{longest, take_hash}
use Rattle.keeps.proofs.Annex.{TableFine, Tables, table_more}
use Rattle.keeps.proofs.Mothers.{mod_low, changed, matching-taken, mothers-append}

-- ---- one table among others

pub table-inside : (k last : ℕ) (before : List Table) (t : Table) (after : List Table) → Tables k last (before ++ t ∷ after) → TableFine k last t
table-inside k last [] t after v = v.0
table-inside k last (u ∷ us) t after v = table_more k k u.b last t (omega arith) (omega (arith, v.0.above)) (table-inside k u.b us t after v.1)

-- it is changed, and its length not
pub tables-changed : (k last : ℕ) (before : List Table) (t u : Table) (after : List Table) → u.b ≡ t.b → ((l : ℕ) → TableFine k l t → TableFine k l u)
    → Tables k last (before ++ t ∷ after) → Tables k last (before ++ u ∷ after)
tables-changed k last [] t u after e f v = (f last v.0, subst (λ n. Tables k n after) (sym e) v.1)
tables-changed k last (x ∷ xs) t u after e f v = (v.0, tables-changed k x.b xs t u after e f v.1)

-- the table without the mother hash that matches c
abbrev pub without : Table → ℕ → Table
without t c = changed t (c % 2 ^ t.s) (erase (hash_entry t.b t.s (c % 2 ^ t.b)))

module _ (k l c : ℕ) (t : Table) (f : TableFine k l t) where
  pub slot_lt : c % 2 ^ t.s < length t.runs
  slot_lt = omega (arith, f.size, mod-lt c (pow_pos t.s))

  pub without-fine : 0 < matching c t → TableFine k l (without t c)
  unfolding matching
  without-fine m =
      let x : ℕ = c % 2 ^ t.s in
      let p : ℕ = hash_entry t.b t.s (c % 2 ^ t.b) in
      let rs : Runs = t.runs in
      let run : List ℕ = get_or rs x [] in
      record {
        above = f.above;
        short = f.short;
        s_3 = f.s_3;
        s_b = f.s_b;
        fits = omega (arith, f.fits, total-set rs x (erase p run) slot_lt, same_length run (p ∷ erase p run) (erase_same p run m));
        size = length-set rs x (erase p run) ∙ f.size;
        rises = all_set Rises rs x (erase p run) f.rises (rises-erase p run (all-get Rises rs [] f.rises x slot_lt));
        passes = all_set (All (λ p. T (annex_entry (t.b - t.s) p))) rs x (erase p run) f.passes
            (all-erase (λ p. T (annex_entry (t.b - t.s) p)) p run (all-get (All (λ p. T (annex_entry (t.b - t.s) p))) rs [] f.passes x slot_lt));
      }

  -- it matches once less at each address with those low bits
  pub without-matching : k ≤ 20 → 0 < matching c t → (a : ℕ) → matching a (without t c) + is (a % 2 ^ t.b) (c % 2 ^ t.b) ≡ matching a t
  unfolding matching
  without-matching k20 m a =
      matching-taken t (c % 2 ^ t.s) (c % 2 ^ t.b) a (omega (arith, f.s_b)) (omega (arith, f.short, f.s_3)) slot_lt (mod-lt c (pow_pos t.b))
      (mod_low c t.b t.s (omega (arith, f.s_b))) m

-- ---- the longest match

pub data Finding (c : ℕ) (ts : List Table) (n : ℕ) : Type 0 where
  missing : n ≡ 0 → mothers_of c ts ≡ 0 → Finding c ts n
  found : (before : List Table) (t : Table) (after : List Table) → n ≡ t.b → ts ≡ before ++ t ∷ after → take_hash t.b c ts ≡ before ++ without t c ∷ after
      → 0 < matching c t → mothers_of c after ≡ 0 → Finding c ts n

take-here : (c : ℕ) (t : Table) (ts : List Table) → take_hash t.b c (t ∷ ts) ≡ without t c ∷ ts
unfolding take_hash
take-here c t ts = rw (eq-eqb t.b t.b refl, take_hash)

take-later : (b c : ℕ) (t : Table) (ts : List Table) → t.b < b → take_hash b c (t ∷ ts) ≡ t ∷ take_hash b c ts
unfolding take_hash
take-later b c t ts h = rw (ne_eqb b t.b (λ e. omega arith), take_hash)

pub finding : (k last c : ℕ) (ts : List Table) → Tables k last ts → Finding c ts (longest c ts)
unfolding longest mothers_of sum
finding k last c [] v = missing refl refl
finding k last c (t ∷ ts) v = go (longest c ts) (finding k t.b c ts v.1)
  where
    result : ℕ → ℕ
    result n = elim n [ zero ↦ elim (ltb 0 (matching c t)) [ true ↦ t.b | false ↦ 0 ] | suc n ↦ suc n ]

    this : Dec (0 < matching c t) → mothers_of c ts ≡ 0 → Finding c (t ∷ ts) (result 0)
    this (yes h) z = subst (λ (b : Bool). Finding c (t ∷ ts) (elim b [ true ↦ t.b | false ↦ 0 ])) (sym (lt-ltb 0 (matching c t) h)) (found [] t ts refl refl (take-here c t ts) h z)
    this (no h) z = subst (λ (b : Bool). Finding c (t ∷ ts) (elim b [ true ↦ t.b | false ↦ 0 ])) (sym (le-ltb 0 (matching c t) (omega arith))) (missing refl (omega arith))

    later : (n : ℕ) (before : List Table) (u : Table) (after : List Table) → t.b < u.b → n ≡ u.b → ts ≡ before ++ u ∷ after → take_hash u.b c ts ≡ before ++ without u c ∷ after
        → 0 < matching c u → mothers_of c after ≡ 0 → Finding c (t ∷ ts) (result n)
    later zero before u after l e p q m z = absurd (omega arith)
    later (suc n) before u after l e p q m z =
        found (t ∷ before) u after e (ap (λ (x : List Table). t ∷ x) p) (take-later u.b c t ts l ∙ ap (λ (x : List Table). t ∷ x) q) m z

    go : (n : ℕ) → Finding c ts n → Finding c (t ∷ ts) (result n)
    go n (missing e z) = subst (λ (n : ℕ). Finding c (t ∷ ts) (result n)) (sym e) (this (dec_lt 0 (matching c t)) z)
    go n (found before u after e p q m z) = later n before u after (table-inside k t.b before u after (subst (Tables k t.b) p v.1)).above e p q m z

-- each address with the low bits of c loses one
pub lost-one : (k last c a : ℕ) (before : List Table) (t : Table) (after : List Table) → k ≤ 20 → Tables k last (before ++ t ∷ after) → 0 < matching c t
    → mothers_of a (before ++ without t c ∷ after) + is (a % 2 ^ t.b) (c % 2 ^ t.b) ≡ mothers_of a (before ++ t ∷ after)
lost-one k last c a before t after h v m =
    omega (
      arith,
      mothers-append a before (without t c ∷ after),
      mothers-append a before (t ∷ after),
      mothers-cons a (without t c) after,
      mothers-cons a t after,
      without-matching k last c t (table-inside k last before t after v) h m a,
    )
  where
    mothers-cons : (a : ℕ) (t : Table) (ts : List Table) → mothers_of a (t ∷ ts) ≡ matching a t + mothers_of a ts
    mothers-cons a t ts = unfold mothers_of sum in refl

-- ---- empty tables at the end are dropped

pub record Trimmed (k last : ℕ) (ts : List Table) : Type 0 where
  pub left : List Table
  pub dropped : List Table
  pub cut : ts ≡ left ++ dropped
  pub are : Tables k last left
  pub empty : All (λ (t : Table). total t.runs ≡ 0) dropped
  pub places : trim (map place_of ts) ≡ map place_of left

pub trimmed : (k last : ℕ) (ts : List Table) → Tables k last ts → Trimmed k last ts
unfolding trim place_of
trimmed k last [] v = record { left = []; dropped = []; cut = refl; are = tt; empty = tt; places = refl }
trimmed k last (t ∷ ts) v = go (trimmed k t.b ts v.1)
  where
    go : Trimmed k t.b ts → Trimmed k last (t ∷ ts)
    go r = cases r.left r.cut r.are r.places
      where
        stays : (us : List Table) → ts ≡ us ++ r.dropped → Tables k t.b us → trim (map place_of ts) ≡ map place_of us → keep (place_of t) (map place_of us) ≡ map place_of (t ∷ us) → Trimmed k last (t ∷ ts)
        stays us c a p q =
            record { left = t ∷ us; dropped = r.dropped; cut = ap (λ (x : List Table). t ∷ x) c; are = (v.0, a); empty = r.empty; places = ap (keep (place_of t)) p ∙ q }

        cases : (us : List Table) → ts ≡ us ++ r.dropped → Tables k t.b us → trim (map place_of ts) ≡ map place_of us → Trimmed k last (t ∷ ts)
        cases (u ∷ us) c a p = stays (u ∷ us) c a p (unfold keep in refl)
        cases [] c a p = alone (ℕ_discrete (total t.runs) 0)
          where
            alone : Dec (total t.runs ≡ 0) → Trimmed k last (t ∷ ts)
            alone (yes e) =
                record {
                  left = [];
                  dropped = t ∷ r.dropped;
                  cut = ap (λ (x : List Table). t ∷ x) c;
                  are = tt;
                  empty = (e, r.empty);
                  places = ap (keep (place_of t)) p ∙ (unfold keep in rw (eq-eqb (total t.runs) 0 e, keep));
                }
            alone (no e) = stays [] c a p (unfold keep in rw (ne_eqb (total t.runs) 0 e, keep))

-- an empty table holds nothing, and its words are zero
pub no-runs : (rs : Runs) → total rs ≡ 0 → rs ≡ replicate (length rs) []
unfolding total
no-runs [] e = refl
no-runs ([] ∷ rs) e = ap (λ (x : Runs). [] ∷ x) (no-runs rs (omega arith))
no-runs ((x ∷ r) ∷ rs) e = absurd (omega arith)

pub empty-words : (rs : Runs) → total rs ≡ 0 → layout rs ≡ replicate (length rs) 0
empty-words rs e = ap layout (no-runs rs e) ∙ layout-none (length rs)

empty-run : (rs : Runs) (x : ℕ) → total rs ≡ 0 → get_or rs x [] ≡ []
unfolding total
empty-run [] x e = refl
empty-run ([] ∷ rs) zero e = refl
empty-run ([] ∷ rs) (suc x) e = empty-run rs x (omega arith)
empty-run ((y ∷ r) ∷ rs) x e = absurd (omega arith)

-- so none of its hashes matches
pub empty-mothers : (a : ℕ) (ts : List Table) → All (λ (t : Table). total t.runs ≡ 0) ts → mothers_of a ts ≡ 0
unfolding mothers_of sum matching
empty-mothers a [] e = refl
empty-mothers a (t ∷ ts) e =
    ap₂ ◌+◌ (ap (count (hash_entry t.b t.s (a % 2 ^ t.b))) (empty-run t.runs (a % 2 ^ t.s) e.0) ∙ none (hash_entry t.b t.s (a % 2 ^ t.b))) (empty-mothers a ts e.1)
  where
    none : (p : ℕ) → count p [] ≡ 0
    none p = unfold count in refl

pub trimmed-mothers : (k last : ℕ) (ts : List Table) (r : Trimmed k last ts) (a : ℕ) → mothers_of a r.left ≡ mothers_of a ts
trimmed-mothers k last ts r a = omega (arith, ap (mothers_of a) r.cut, mothers-append a r.left r.dropped, empty-mothers a r.dropped r.empty)
