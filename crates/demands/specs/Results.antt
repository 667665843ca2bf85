-- What a call returned and left, as one outcome that its contract permits. These are the contracts of crate filter, said of an outcome.
use Rattle.std.specs.Prelude.{◌≡◌, List, ℕ}
use Rattle.rules.specs.Record.{Filter}
use Rattle.rules.specs.Calls.{Outcome}
use Rattle.filter.specs.Promises as contract
use Rattle.filter.specs.Restart.{restart}

abbrev pub Of : (ℕ → Filter → List ℕ → List ℕ → List ℕ → Type 0) → Outcome → Type 0
Of promise o = promise o.number o.rec o.main o.queue o.annex

abbrev pub Starts : ℕ → ℕ → ℕ → List ℕ → List ℕ → List ℕ → Outcome → Type 0
Starts power f regime main queue annex = Of (contract.Starts power f regime main queue annex)

module _ (r : Filter) (main queue annex : List ℕ) where
  -- Start over a lent record
  abbrev pub Restarts : ℕ → ℕ → ℕ → Outcome → Type 0
  Restarts power f regime = Of (contract.Leaves (restart r power f regime main queue annex))

  abbrev pub Inserts : ℕ → Outcome → Type 0
  Inserts h = Of (contract.Inserts r main queue annex h)

  abbrev pub Deletes : ℕ → Outcome → Type 0
  Deletes h = Of (contract.Deletes r main queue annex h)

  abbrev pub Rejuvenates : ℕ → Outcome → Type 0
  Rejuvenates h = Of (contract.Rejuvenates r main queue annex h)

  abbrev pub Audits : Outcome → Type 0
  Audits = Of (contract.Audits r main queue annex)

  abbrev pub Settles : Outcome → Type 0
  Settles = Of (contract.Settles r main queue annex)

  -- with what Double was lent as second main, and left there
  abbrev pub Doubles : List ℕ → Outcome → List ℕ → Type 0
  Doubles second o second' = contract.Doubles r main queue annex second o.number o.rec o.main o.queue o.annex second'

  -- a call has changed nothing: the record and all lent words are those handed in
  pub record Nothing (o : Outcome) : Type 0 where
    pub same_record : o.rec ≡ r
    pub same_main : o.main ≡ main
    pub same_queue : o.queue ≡ queue
    pub same_annex : o.annex ≡ annex
