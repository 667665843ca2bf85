-- `lookup::entries_of` meets its contract: the run of an address without the occupied bit is empty, and that of another is where `query_place` says.
use Rattle.std.proofs.Common.{ℕ, true, ◌%◌, ◌∙◌, length, sym, ap, arith}
use Rattle.layout.proofs.RunLaws.{run_none}
use Rattle.lookup.proofs.Finds.{run-found}
use Rattle.lookup.proofs.Rests.{all-passed}
use Rattle.lookup.proofs.runs.entries_of.Goals as goal

pub returns-then-word-eq0 : goal.returns-then-word-eq0
returns-then-word-eq0 g c =
    let a = c.args in
    let ws = g.W.Words.words a.table in
    let passed = all-passed true ws a.c _ c.size.ensures in
    let none = run_none ws a.c (omega arith) (ap (λ (w : ℕ). w % 2) (sym c.word.ensures) ∙ c.if-word-eq0.true) in
    (passed ∙ sym none, omega (arith, ap length passed))

pub returns-else-word-eq0 : goal.returns-else-word-eq0
returns-else-word-eq0 g c =
    let a = c.args in
    let ws = g.W.Words.words a.table in (
      c.entries_from.ensures.0
          ∙ run-found ws a.c _ _ (omega arith) (λ z. c.if-word-eq0.false (ap (λ (w : ℕ). w % 2) c.word.ensures ∙ z)) c.query_place.ensures.2,
      omega arith,
    )
