-- `lookup::last_below` meets its contract: the last that is x or smaller is x, or x is missing.
use Rattle.std.proofs.Common.{arith}
use Rattle.layout.proofs.RunLaws.{run_none, run_length}
use Rattle.lookup.proofs.Finds.{run-found, no_last, none-below, last-other, last-spotted, same-some, other-some}
use Rattle.lookup.proofs.last_below.Goals as goal

pub returns-then-ws-c-eq0-clause-none : goal.returns-then-ws-c-eq0-clause-none
returns-then-ws-c-eq0-clause-none c =
    let a = c.args in
    no_last a.ws.now a.c a.x (run_none a.ws.now a.c (omega arith) c.if-ws-c-eq0.true)

pub returns-in_err-last-clause-none : goal.returns-in_err-last-clause-none
returns-in_err-last-clause-none c =
    let a = c.args in
    let same = run-found a.ws.now a.c _ _ (omega arith) c.if-ws-c-eq0.false c.locate-run.ensures.3 in
    rw c.from_residual.ensures (none-below a.ws.now a.c a.x _ same _ c.rank_from.ensures.0 c.in_err-last.ensures)

pub overflow_add-result : goal.overflow_add-result
overflow_add-result c =
    let long = run_length c.args.ws.now c.locate-run.result.home c.locate-run.result.from in
    omega (arith, c.in_ok-last.ensures)

pub returns-then-eq-clause-some : goal.returns-then-eq-clause-some
returns-then-eq-clause-some c =
    let a = c.args in
    let same = run-found a.ws.now a.c _ _ (omega arith) c.if-ws-c-eq0.false c.locate-run.ensures.3 in
    let long = run_length a.ws.now c.locate-run.result.home c.locate-run.result.from in
    let last = c.in_ok-last.ensures in (
      last-spotted a.ws.now a.c a.x _ same _ c.rank_from.ensures.0 _ last.1 last.0 _ c.entry_at.ensures
          (same-some _ a.x _ c.eq.ensures c.if-eq.true) _ c.locate-run.ensures.4,
      omega arith,
    )

pub returns-else-eq-clause-none : goal.returns-else-eq-clause-none
returns-else-eq-clause-none c =
    let a = c.args in
    let same = run-found a.ws.now a.c _ _ (omega arith) c.if-ws-c-eq0.false c.locate-run.ensures.3 in
    let last = c.in_ok-last.ensures in
    last-other a.ws.now a.c a.x _ same _ c.rank_from.ensures.0 _ last.1 last.0 _ c.entry_at.ensures
    (other-some _ a.x _ c.eq.ensures c.if-eq.false) (omega arith)
