-- `lookup::first_match` meets its contract: the run of an address without the occupied bit is empty, and that of another is where `query_place` says.
use Rattle.std.proofs.Common.{ℕ, List, ◌%◌, length, ◌∙◌, sym, ap, subst, arith}
use Rattle.slots.specs.Payload.{matches}
use Rattle.layout.proofs.RunLaws.{run_none}
use Rattle.lookup.specs.Spots.{First}
use Rattle.lookup.proofs.Finds.{first-empty, run-found}
use Rattle.lookup.proofs.first_match.Goals as goal

pub returns-then-word-eq0 : goal.returns-then-word-eq0
returns-then-word-eq0 g c =
    let a = c.args in
    let ws = g.W.Words.words a.table in
    first-empty _ _ (ap length (run_none ws a.c (omega arith) (ap (λ (w : ℕ). w % 2) (sym c.word.ensures) ∙ c.if-word-eq0.true)))

pub returns-else-word-eq0 : goal.returns-else-word-eq0
returns-else-word-eq0 g c =
    let a = c.args in
    let ws = g.W.Words.words a.table in
    let same = run-found ws a.c _ _ (omega arith) (λ z. c.if-word-eq0.false (ap (λ (w : ℕ). w % 2) c.word.ensures ∙ z)) c.query_place.ensures.2 in
    subst (λ (l : List ℕ). First (matches a.w a.k a.hash) l c.first_from.result) same c.first_from.ensures
