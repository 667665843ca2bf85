-- `lookup::rank` meets its contract: the run of an address without the occupied bit is empty, and that of another is the run that was found.
use Rattle.std.proofs.Common.{◌∙◌, leb, sym, ap, arith}
use Rattle.layout.specs.Reading.{index}
use Rattle.layout.proofs.RunLaws.{run_none, run_length}
use Rattle.lookup.proofs.Finds.{run-found}
use Rattle.lookup.proofs.rank.Goals as goal

pub returns-then-ws-c-eq0 : goal.returns-then-ws-c-eq0
unfolding index
returns-then-ws-c-eq0 c =
    let a = c.args in
    (sym (ap (index (leb a.x)) (run_none a.ws.now a.c (omega arith) c.if-ws-c-eq0.true)), omega arith)

pub returns-else-ws-c-eq0 : goal.returns-else-ws-c-eq0
returns-else-ws-c-eq0 c =
    let a = c.args in
    let same = run-found a.ws.now a.c a.run.home a.run.from (omega arith) c.if-ws-c-eq0.false c.requires.4 in
    (c.rank_from.ensures.0 ∙ ap (index (leb a.x)) same, omega (arith, run_length a.ws.now a.run.home a.run.from))
