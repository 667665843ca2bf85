-- `lookup::find` meets its contract: the first that is x or larger is x, or x is missing.
use Rattle.std.proofs.Common.{◌∙◌, length, sym, ap, arith}
use mir.Val.{bool_byte}
use Rattle.layout.specs.Reading.{run_from}
use Rattle.layout.proofs.RunLaws.{run_none, run_length}
use Rattle.lookup.proofs.Finds.{run-found, read-some, none-there, other-found, none-found, spotted}
use Rattle.lookup.proofs.find.Goals as goal

pub returns-then-ws-c-eq0-clause-none : goal.returns-then-ws-c-eq0-clause-none
returns-then-ws-c-eq0-clause-none c =
    let a = c.args in
    none-there a.ws.now a.c a.x (ap length (run_none a.ws.now a.c (omega arith) c.if-ws-c-eq0.true))

pub returns-in_err-entry_at-clause-none : goal.returns-in_err-entry_at-clause-none
returns-in_err-entry_at-clause-none c =
    let a = c.args in
    let same = run-found a.ws.now a.c _ _ (omega arith) c.if-ws-c-eq0.false c.locate-run.ensures.3 in
    rw c.from_residual.ensures (none-found a.ws.now a.c a.x _ same _ c.rank_from-rank.ensures.0 (sym c.in_err-entry_at.was ∙ c.entry_at.ensures))

pub returns-then-branch-x-clause-none : goal.returns-then-branch-x-clause-none
returns-then-branch-x-clause-none c =
    let a = c.args in
    let same = run-found a.ws.now a.c _ _ (omega arith) c.if-ws-c-eq0.false c.locate-run.ensures.3 in
    other-found a.ws.now a.c a.x _ same _ c.rank_from-rank.ensures.0 _ (sym c.in_ok-entry_at.was ∙ c.entry_at.ensures) c.if-branch-x.true

pub overflow_add-rank : goal.overflow_add-rank
overflow_add-rank c =
    let long = run_length c.args.ws.now c.locate-run.result.home c.locate-run.result.from in
    omega arith

pub entry_at-requires-2 : goal.entry_at-requires-2
entry_at-requires-2 c =
    let here = read-some (run_from c.args.ws.now c.locate-run.result.home c.locate-run.result.from) _ _ (sym c.in_ok-entry_at.was ∙ c.entry_at.ensures) in
    (omega arith, omega arith, omega arith, omega arith)

pub overflow_add-result : goal.overflow_add-result
overflow_add-result c =
    let long = run_length c.args.ws.now c.locate-run.result.home c.locate-run.result.from in
    omega arith

pub returns-clause-some : goal.returns-clause-some
returns-clause-some c =
    let a = c.args in
    let same = run-found a.ws.now a.c _ _ (omega arith) c.if-ws-c-eq0.false c.locate-run.ensures.3 in
    let long = run_length a.ws.now c.locate-run.result.home c.locate-run.result.from in (
      spotted a.ws.now a.c a.x _ same _ c.rank_from-rank.ensures.0 _ (sym c.in_ok-entry_at.was ∙ c.entry_at.ensures) c.if-branch-x.false
          _ c.locate-run.ensures.4 _ c.entry_at-2.ensures _ (c.from.ensures ∙ ap bool_byte c.is_some-more.ensures),
      omega arith,
    )
