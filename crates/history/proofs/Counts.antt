-- From the strings back to the words: where the strings say yes the run has a match, so Query answers 1; and the strings of the main table and of the annex are as
-- many as its entries with fingerprints and its stored mother hashes.
use mathlib.Core.Path.{◌≡◌, refl, sym, ap, ap₂, ◌∙◌, subst}
use mathlib.Core.Bool.{Bool, cond}
use mathlib.Core.Logic.{inl, inr}
use mathlib.Core.List.{List, [], ◌∷◌, map}
use Prim.Native.Nat.{ℕ, zero, suc, ◌+◌, ◌-◌, ◌/◌, ◌≤◌, ◌<◌}
use native.Mathlib.Omega.{arith}
use native.Mathlib.Decide.{dec_lt, ℕ_discrete}
use lib.Dec.{ltb, eqb, T}
use lib.ListN.{length, get_or, take, length-map}
use lib.Seq.{length-take-le}
use borrow.Author.Tests.{ne_eqb, lt-ltb, le-ltb}
use Rattle.lists.specs.Lists.{bit, sum}
use Rattle.lists.specs.Runs.{Runs, count, hits, total}
use Rattle.lists.proofs.Tests.{is, is-yes}
use Rattle.lists.proofs.Alls.{All}
use Rattle.lists.proofs.Sums.{sum-eq, sum_one}
use Rattle.slots.specs.Payload.{void, rest_of, length_of, fingerprint_of, hash_bits, canonical_slot, matches}
use Rattle.slots.proofs.PayloadLaws.{Match, true-match, void-match}
use Rattle.layout.specs.Decode.{decode}
use Rattle.directory.specs.declared.Place.{Place}
use Rattle.rules.specs.Record.{Filter, width, in_use}
use Rattle.rules.specs.Refusals.{refusal}
use Rattle.rules.specs.Tables.{Table, tables, place_of}
use Rattle.rules.specs.Sound.{annex_entry, naming}
use Rattle.rules.specs.Quick.{home, matches_in, matched, query_number, query}
use Rattle.keeps.proofs.Refusals.{zero-asked}
use Rattle.keeps.proofs.Holds.{run-read}
use Rattle.keeps.proofs.State.{Fine, fine}
use Rattle.keeps.proofs.Bounds.{width-pos}
use Rattle.keeps.proofs.Entries.{match-hits}
use Rattle.keeps.proofs.Quick.{home-lt}
use Rattle.keeps.proofs.Annex.{Tables}
use Rattle.keeps.proofs.Parts.{tables-of}
use Rattle.history.specs.History.{Words, with_bits, stored_hashes}
use Rattle.history.proofs.Strings.{Item}
use Rattle.history.proofs.Abstract.{Yes, voids}
use Rattle.history.proofs.Bridge.{length_rest, has_bits, table_items, table-sum, run-hits, hits as hit-weight}
use Rattle.history.proofs.Hashes.{mothers, mothers-count, mothers-cons, plain}
use Rattle.history.proofs.Seen.{seen, GoodWords, short-64}

-- ---- the answer

-- a payload that weighs is a match
some-match : (w k h : ℕ) (run : List ℕ) → 0 < sum (hit-weight w k h) run → (p : ℕ) × (0 < count p run) × Match w k h p
unfolding sum count
some-match w k h [] l = absurd (omega arith)
some-match w k h (p ∷ run) l = go (dec_lt 1 (rest_of w p)) (ℕ_discrete (fingerprint_of w p) (hash_bits h k (length_of w p))) (some-match w k h run)
  where
    later : (q : ℕ) × (0 < count q run) × Match w k h q → (q : ℕ) × (0 < is q p + count q run) × Match w k h q
    later x = (x.0, omega (arith, x.1), x.2)

    go : Dec (1 < rest_of w p) → Dec (fingerprint_of w p ≡ hash_bits h k (length_of w p)) → (0 < sum (hit-weight w k h) run → (q : ℕ) × (0 < count q run) × Match w k h q)
        → (q : ℕ) × (0 < is q p + count q run) × Match w k h q
    go (yes a) (yes b) rec = (p, omega (arith, is-yes p p refl), record { some = omega arith; same = b })
    go (yes a) (no b) rec =
        let z : hit-weight w k h p ≡ 0 = ap₂ (λ (x y : Bool). cond x (bit y) 0) (lt-ltb 1 (rest_of w p) a) (ne_eqb (fingerprint_of w p) (hash_bits h k (length_of w p)) b) in
        later (rec (omega arith))
    go (no a) b rec =
        let z : hit-weight w k h p ≡ 0 = ap (λ (x : Bool). cond x (bit (eqb (fingerprint_of w p) (hash_bits h k (length_of w p)))) 0) (le-ltb 1 (rest_of w p) (omega arith)) in
        later (rec (omega arith))

module _ (s : Words) (g : GoodWords s) (h : ℕ) where
  abbrev r : Filter
  r = s.rec

  abbrev w : ℕ
  w = width s.rec

  abbrev run : List ℕ
  run = get_or (decode s.main) (home s.rec h) []

  v : Fine s.rec s.main s.queue s.annex (decode s.main)
  v = fine s.rec s.main s.queue s.annex g

  has-match : Yes (seen s) h → 0 < length (hits (matches w r.k h) run)
  unfolding Yes voids canonical_slot naming
  has-match (inl l) =
      let x = some-match w r.k h run (subst (λ (n : ℕ). 0 < n) (run-hits w r.k h (decode s.main) v.table.size (each run)) l) in
      match-hits (matches w r.k h) run x.0 x.1 (true-match w r.k h x.0 x.2)
    where
      each : (l : List ℕ) → All (λ p. r.k + length_of w p ≤ 64) l
      each [] = tt
      each (p ∷ l) = (short-64 v p, each l)
  has-match (inr l) =
      match-hits (matches w r.k h) run (void w)
      (omega (arith, (v.address (home r h) (home-lt r h)).voids, mothers-count r.k 5 (home r h) (tables (in_use r) s.annex) (tables-of v).are v.high_k))
      (true-match w r.k h (void w) (void-match w r.k h (width-pos r r.k)))

  pub yes-matches : Yes (seen s) h → 0 < length (matches_in s.rec s.main h)
  unfolding matches_in
  yes-matches y = subst (λ (x : List ℕ). 0 < length (hits (matches w r.k h) x)) (sym (run-read v.table (home r h) (home-lt r h))) (has-match y)

  pub yes-query : Yes (seen s) h → query s.rec s.main s.queue s.annex h ≡ 1
  unfolding query
  yes-query y = go (query_number r s.main s.queue s.annex) number
    where
      number : query_number s.rec s.main s.queue s.annex ≡ 0
      number = unfold query_number refusal in zero-asked r s.main s.queue s.annex [] g.record-right g.slices-right

      go : (n : ℕ) → n ≡ 0 → ◌≡◌ {A = ℕ} (elim n [ zero ↦ bit (matched s.rec s.main h) | suc n ↦ suc n ]) 1
      go zero e = ap bit (lt-ltb 0 (length (matches_in r s.main h)) (yes-matches y))
      go (suc n) e = absurd (omega arith)

-- ---- the numbers

bits-weight : (w p : ℕ) → bit (ltb 0 (length_of w p)) ≡ cond (has_bits w p) 1 0
bits-weight w p = go (dec_lt 1 (rest_of w p))
  where
    go : Dec (1 < rest_of w p) → bit (ltb 0 (length_of w p)) ≡ cond (has_bits w p) 1 0
    go (yes l) = ap bit (lt-ltb 0 (length_of w p) (omega (arith, length_rest w p))) ∙ sym (ap (λ (b : Bool). cond b 1 0) (lt-ltb 1 (rest_of w p) l))
    go (no l) = ap bit (le-ltb 0 (length_of w p) (omega (arith, length_rest w p))) ∙ sym (ap (λ (b : Bool). cond b 1 0) (le-ltb 1 (rest_of w p) (omega arith)))

table-bits : (w k c : ℕ) (rs : Runs) → sum (λ run. sum (λ p. bit (ltb 0 (length_of w p))) run) rs ≡ sum (λ (_ : Item). 1) (table_items w k c rs)
unfolding sum
table-bits w k c [] = unfold table_items in refl
table-bits w k c (x ∷ rs) =
    ap₂ ◌+◌ (sum-eq (λ p. bit (ltb 0 (length_of w p))) (λ p. cond (has_bits w p) 1 0) (bits-weight w) x) (table-bits w k (suc c) rs)
    ∙ sym (table-sum (λ (_ : Item). 1) w k c x rs)

-- every entry of an annex table has bits
run-all : (n : ℕ) (run : List ℕ) → 0 < n → All (λ p. T (annex_entry n p)) run → sum (λ p. cond (has_bits 18 p) 1 0) run ≡ length run
unfolding sum
run-all n [] pos a = refl
run-all n (p ∷ l) pos a =
    ap₂ ◌+◌ (ap (λ (b : Bool). cond b 1 0) (lt-ltb 1 (rest_of 18 p) (omega (arith, (plain n p a.0).rest)))) (run-all n l pos a.1) ∙ omega arith

table-all : (n k c : ℕ) (rs : Runs) → 0 < n → All (All (λ p. T (annex_entry n p))) rs → sum (λ (_ : Item). 1) (table_items 18 k c rs) ≡ total rs
unfolding sum total
table-all n k c [] pos a = unfold table_items in refl
table-all n k c (x ∷ rs) pos a = table-sum (λ (_ : Item). 1) 18 k c x rs ∙ ap₂ ◌+◌ (run-all n x pos a.0) (table-all n k (suc c) rs pos a.1)

tables-all : (k last : ℕ) (ts : List Table) → Tables k last ts → sum (λ (_ : Item). 1) (mothers ts) ≡ sum (λ (t : Table). total t.runs) ts
unfolding sum
tables-all k last [] v = unfold mothers in refl
tables-all k last (t ∷ ts) v =
    mothers-cons (λ (_ : Item). 1) t ts
    ∙ ap₂ ◌+◌ (table-all (t.b - t.s) t.s 0 t.runs (omega (arith, v.0.s_b)) v.0.passes) (tables-all k t.b ts v.1)

length-one : {A : Type 0} (l : List A) → sum (λ (_ : A). 1) l ≡ length l
length-one l = sum_one (λ _. 1) (λ _. refl) l

pub record Numbers (s : Words) : Type 0 where
  pub bits : length (seen s).bits ≡ with_bits s
  pub mothers : length (seen s).mothers ≡ stored_hashes s
  pub queue : length (seen s).queue ≡ s.rec.queued

pub numbers : (s : Words) → GoodWords s → Numbers s
unfolding with_bits stored_hashes
numbers s g =
    let r = s.rec in
    let v = fine r s.main s.queue s.annex g in
    let ts : List Table = tables (in_use r) s.annex in
    let is : List Item = table_items (width r) r.k 0 (decode s.main) in
    record {
      bits = sym (length-one is) ∙ sym (table-bits (width r) r.k 0 (decode s.main));
      mothers = sym (length-one (mothers ts)) ∙ tables-all r.k 5 ts (tables-of v).are;
      queue = length-map (take r.queued s.queue) (λ w. w / 2) ∙ length-take-le r.queued s.queue v.queue_long;
    }

-- the directory counts the stored mother hashes
pub stored-counted : (s : Words) → GoodWords s → stored_hashes s ≡ sum (λ (p : Place). p.count) (in_use s.rec)
unfolding stored_hashes sum place_of
stored-counted s g =
    let v = fine s.rec s.main s.queue s.annex g in
    go (tables (in_use s.rec) s.annex) ∙ ap (sum (λ (p : Place). p.count)) (tables-of v).of
  where
    go : (ts : List Table) → sum (λ (t : Table). total t.runs) ts ≡ sum (λ (p : Place). p.count) (map place_of ts)
    go [] = refl
    go (t ∷ ts) = ap (λ n. total t.runs + n) (go ts)
