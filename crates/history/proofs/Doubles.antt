-- What Double does to the strings: none changes, since what the halves lack of them is in the table of the new mother hashes.
use mathlib.Core.Path.{◌≡◌, refl, sym, ap, ap₂, ◌∙◌, subst}
use mathlib.Core.List.{List, [], ◌∷◌, map}
use Prim.Native.Nat.{ℕ, ◌+◌, ◌/◌, ◌^◌, ◌≤◌, ◌<◌}
use native.Mathlib.Omega.{arith}
use lib.ListN.{length, take}
use Rattle.lists.specs.Lists.{sum}
use Rattle.lists.specs.Runs.{Runs}
use Rattle.lists.proofs.Alls.{All, all_map}
use Rattle.lists.proofs.Sums.{Same, sum-append}
use Rattle.layout.specs.Machine.{layout}
use Rattle.layout.specs.Decode.{decode}
use Rattle.rules.specs.Record.{Filter, change, fresh_at, width_at, width, in_use}
use Rattle.rules.specs.Tables.{Table, tables}
use Rattle.rules.specs.Doubling.{new_hashes}
use Rattle.rules.specs.Calls.{Outcome}
use Rattle.rules.specs.Slow.{hashes, doubled_runs, second_main, doubled_outcome, double}
use Rattle.keeps.proofs.State.{Fine, fine}
use Rattle.keeps.proofs.Bounds.{sizes, width-pos, width-rises}
use Rattle.keeps.proofs.Parts.{parts-back}
use Rattle.keeps.proofs.Hashes.{hashes-right}
use Rattle.keeps.proofs.Doubled.{new_table, tables_after, new-fine, doubled-parts, DoubleHad, number-had, double-done, second_is}
use Rattle.history.proofs.Strings.{Item}
use Rattle.history.proofs.Abstract.{State, Doubled}
use Rattle.history.proofs.Bridge.{table_items}
use Rattle.history.proofs.Hashes.{item, mothers, mothers-sum, mothers-cons, table-new}
use Rattle.history.proofs.Splits.{doubled-strings}
use Rattle.history.proofs.Seen.{seen_of}

module _ (r : Filter) (main queue annex : List ℕ) (v : Fine r main queue annex (decode main)) (k19 : r.k < 20) (empty : r.queued ≡ 0) where
  abbrev w : ℕ
  w = width r

  abbrev w₂ : ℕ
  w₂ = width_at r (r.k + 1)

  abbrev runs₂ : Runs
  runs₂ = doubled_runs r main queue annex

  abbrev ts : List Table
  ts = tables (in_use r) annex

  abbrev new : List ℕ
  new = new_hashes (width r) r.k 0 (decode main)

  -- the annex gains the new mother hashes
  gained : (f : Item → ℕ) (ms : List ℕ) → new ≡ ms → sum f (mothers (tables_after r annex ms)) ≡ sum f (mothers ts) + sum (λ m. f (item (r.k + 1) m)) ms
  unfolding sum
  gained f [] e = omega arith
  gained f (m ∷ l) e =
      let ms : List ℕ = m ∷ l in
      let t : Table = new_table r annex ms in
      let tf = new-fine r main queue annex v k19 empty m l e in
      let P : ℕ → Type 0 = λ m. (m < 2 ^ (r.k + 1)) × (6 ≤ r.k + 1) in
      let right : All P ms = subst (All P) e (hashes-right w r.k 0 (decode main) (omega (arith, v.table.size)) v.table.passes) in
      omega (
        arith,
        mothers-sum f ts (t ∷ []),
        mothers-cons f t [],
        no_more f,
        table-new (r.k + 1) t.s ms tf.s_b (omega (arith, tf.short, tf.s_3)) (all_map P (λ m. m < 2 ^ (r.k + 1)) (λ m x. x.0) ms right) f,
      )
    where
      no_more : (f : Item → ℕ) → sum f (mothers []) ≡ 0
      no_more f = unfold mothers sum in refl

  -- and with them the halves have the strings of the table
  kept : (f : Item → ℕ) → sum f (table_items w₂ (r.k + 1) 0 runs₂) + sum (λ m. f (item (r.k + 1) m)) new ≡ sum f (table_items w r.k 0 (decode main))
  unfolding doubled_runs
  kept f =
      doubled-strings f w w₂ r.k (width-pos r r.k) (width-rises r r.k (sizes r.start r.f r.regime v.settings) v.low_k k19) (decode main)
      v.table.size

  doubled-step : Doubled (seen_of r main queue annex)
      (seen_of (doubled_outcome r main queue annex).rec (layout (doubled_runs r main queue annex)) queue (doubled_outcome r main queue annex).annex)
  unfolding doubled_outcome hashes change fresh_at width_at Same
  doubled-step =
      let parts = doubled-parts r main queue annex v k19 empty new refl in
      let seen₂ : State = seen_of (doubled_outcome r main queue annex).rec (layout runs₂) queue (doubled_outcome r main queue annex).annex in
      record {
        empty = ap (λ (n : ℕ). map (λ w. w / 2) (take n queue)) empty;
        queue = refl;
        strings = λ f.
            sum-append f seen₂.bits seen₂.mothers
            ∙ ap₂ (λ (rs : Runs) (us : List Table). sum f (table_items w₂ (r.k + 1) 0 rs) + sum f (mothers us)) parts.table.held (parts-back parts)
            ∙ omega (arith, gained f new refl, kept f, sum-append f (table_items w r.k 0 (decode main)) (mothers ts));
      }

module _ (r : Filter) (main queue annex second : List ℕ) where
  abbrev After : Outcome → List ℕ → Type 0
  After o main₂ = Doubled (seen_of r main queue annex) (seen_of o.rec main₂ o.queue o.annex)

  pub double-step : (double r main queue annex (length second)).number ≡ 0 → After (double r main queue annex (length second)) (second_main r main queue annex second)
  double-step z =
      let d = double-done r main queue annex second z in
      subst (λ (o : Outcome). After o (second_main r main queue annex second)) (sym d.1)
      (subst (After (doubled_outcome r main queue annex)) (sym (second_is r main queue annex second d.0)) (at_last (number-had r main queue annex second d.0)))
    where
      at_last : DoubleHad r main queue annex second → After (doubled_outcome r main queue annex) (layout (doubled_runs r main queue annex))
      at_last d = unfold doubled_outcome in doubled-step r main queue annex (fine r main queue annex d.state) d.less d.empty
