-- "that two permitted outcomes agree is itself proved": whatever two results a call's contract permits on the same input are equal, since both are the definition's.
-- For the three quick calls that change words this is so where the audit accepts the memory, and where record and lengths decide the number; docs/EXCEPTIONS.md.
use mathlib.Core.Path.{◌≡◌, sym, ◌∙◌}
use mathlib.Core.Bool.{Bool}
use mathlib.Core.List.{List}
use Prim.Native.Nat.{ℕ, suc}
use Rattle.rules.specs.Record.{Filter}
use Rattle.rules.specs.Calls.{Outcome}
use Rattle.rules.specs.Quick.{query, query_number, insert_number}
use Rattle.rules.specs.Slow.{audit}
use Rattle.rules.specs.Lookups.{part, query_bytes}
use Rattle.filter.specs.Promises.{Quick}
use Rattle.demands.specs.Results.{Starts, Restarts, Inserts, Deletes, Rejuvenates, Audits, Settles, Doubles}
use Rattle.demands.proofs.Demand2.{insert-by-rule, delete-by-rule, rejuvenate-by-rule, settle-by-rule, double-by-rule, start-by-rule, same}

pub start-agrees : (power f regime : ℕ) (main queue annex : List ℕ) (o p : Outcome) → Starts power f regime main queue annex o → Starts power f regime main queue annex p → o ≡ p
start-agrees power f regime main queue annex o p x y = start-by-rule power f regime main queue annex o x ∙ sym (start-by-rule power f regime main queue annex p y)

-- the exported Query, on any bytes
pub bytes-agrees : (k w : ℕ) (bytes : List ℕ) (h a b : ℕ) → a ≡ query_bytes k w bytes h → b ≡ query_bytes k w bytes h → a ≡ b
bytes-agrees k w bytes h a b x y = x ∙ sym y

-- the words of the annex table of length b, which the part lookup returns
pub part-agrees : (r : Filter) (annex : List ℕ) (b : ℕ) (ws us : List ℕ) → ws ≡ part r annex b → us ≡ part r annex b → ws ≡ us
part-agrees r annex b ws us x y = x ∙ sym y

module _ (r : Filter) (main queue annex : List ℕ) where
  pub restart-agrees : (power f regime : ℕ) (o p : Outcome) → Restarts r main queue annex power f regime o → Restarts r main queue annex power f regime p → o ≡ p
  restart-agrees power f regime o p x y = same o _ x ∙ sym (same p _ y)

  pub query-agrees : (h a b : ℕ) → a ≡ query r main queue annex h → b ≡ query r main queue annex h → a ≡ b
  query-agrees h a b x y = x ∙ sym y

  pub insert-agrees : audit r main queue annex ≡ 0 → (h : ℕ) (o p : Outcome) → Inserts r main queue annex h o → Inserts r main queue annex h p → o ≡ p
  insert-agrees a h o p x y = insert-by-rule r main queue annex a h o x ∙ sym (insert-by-rule r main queue annex a h p y)

  pub delete-agrees : audit r main queue annex ≡ 0 → (h : ℕ) (o p : Outcome) → Deletes r main queue annex h o → Deletes r main queue annex h p → o ≡ p
  delete-agrees a h o p x y = delete-by-rule r main queue annex a h o x ∙ sym (delete-by-rule r main queue annex a h p y)

  pub rejuvenate-agrees : audit r main queue annex ≡ 0 → (h : ℕ) (o p : Outcome) → Rejuvenates r main queue annex h o → Rejuvenates r main queue annex h p → o ≡ p
  rejuvenate-agrees a h o p x y = rejuvenate-by-rule r main queue annex a h o x ∙ sym (rejuvenate-by-rule r main queue annex a h p y)

  -- on any memory, where record and lengths decide the number
  decided : (q : Outcome) (first : ℕ) (s : Bool) (n : ℕ) → first ≡ suc n → (o p : Outcome)
      → Quick q first s r main queue annex o.number o.rec o.main o.queue o.annex → Quick q first s r main queue annex p.number p.rec p.main p.queue p.annex → o ≡ p
  decided q first s n e o p x y = same o q (x.decided n e) ∙ sym (same p q (y.decided n e))

  pub insert-refusals-agree : (n : ℕ) → insert_number r main queue annex ≡ suc n → (h : ℕ) (o p : Outcome) → Inserts r main queue annex h o → Inserts r main queue annex h p → o ≡ p
  insert-refusals-agree n e h o p = decided _ _ _ n e o p

  pub delete-refusals-agree : (n : ℕ) → query_number r main queue annex ≡ suc n → (h : ℕ) (o p : Outcome) → Deletes r main queue annex h o → Deletes r main queue annex h p → o ≡ p
  delete-refusals-agree n e h o p = decided _ _ _ n e o p

  pub rejuvenate-refusals-agree : (n : ℕ) → query_number r main queue annex ≡ suc n → (h : ℕ) (o p : Outcome) → Rejuvenates r main queue annex h o → Rejuvenates r main queue annex h p → o ≡ p
  rejuvenate-refusals-agree n e h o p = decided _ _ _ n e o p

  -- the slow calls, on any memory
  -- Audit by its number alone, and with the record and the words that it leaves
  pub audited-agrees : (o p : Outcome) → Audits r main queue annex o → Audits r main queue annex p → o ≡ p
  audited-agrees o p x y = same o _ x ∙ sym (same p _ y)

  pub audit-agrees : (a b : ℕ) → a ≡ audit r main queue annex → b ≡ audit r main queue annex → a ≡ b
  audit-agrees a b x y = x ∙ sym y

  pub settle-agrees : (o p : Outcome) → Settles r main queue annex o → Settles r main queue annex p → o ≡ p
  settle-agrees o p x y = settle-by-rule r main queue annex o x ∙ sym (settle-by-rule r main queue annex p y)

  pub double-agrees : (second : List ℕ) (o p : Outcome) (second₁ second₂ : List ℕ) → Doubles r main queue annex second o second₁ → Doubles r main queue annex second p second₂
      → (o ≡ p) × (second₁ ≡ second₂)
  double-agrees second o p second₁ second₂ x y =
      let a = double-by-rule r main queue annex second o second₁ x in
      let b = double-by-rule r main queue annex second p second₂ y in
      (a.0 ∙ sym b.0, a.1 ∙ sym b.1)
