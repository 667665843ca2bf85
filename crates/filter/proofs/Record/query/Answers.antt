-- Whether there is a longest match.
use mathlib.Core.Path.{◌∙◌}
use Rattle.std.proofs.lemmas.Result.{err_from_is_err_and}
use Rattle.filter.specs.Plain.{plain}
use Rattle.filter.proofs.Refused.{not-0}
use Rattle.filter.proofs.Quicks.{sought-lent, sought-matched, query-refused, query-answered}
use Rattle.filter.proofs.Record.query.Goals as goal

pub returns-in_err-found : goal.returns-in_err-found
returns-in_err-found c =
    let p = err_from_is_err_and c.from_residual.result c.from_residual.ensures.1 in
    rw (p.1, p.2) (query-refused (plain c.args.self) _ _ _ _ _ c.in_err-found.ensures (not-0 _))

pub returns : goal.returns
returns c =
    let a = c.args in
    let s = c.in_ok-found.ensures in
    query-answered (plain a.self) a.main.now a.queue.now a.annex.now a.hash (sought-lent (plain a.self) a.main.now a.queue.now a.annex.now a.hash _ s) _
    (c.is_some.ensures ∙ sought-matched (plain a.self) a.main.now a.queue.now a.annex.now a.hash _ s)
