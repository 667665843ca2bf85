-- `lookup::rank_from` meets its contract: the entries that were read are smaller than x, by the laws of `Seeking`.
use Rattle.std.proofs.Common.{◌∙◌, leb, sym, ap}
use borrow.Author.Tests.{lt-leb, le-leb}
use Rattle.layout.specs.Reading.{run_from}
use Rattle.layout.proofs.Searches.{seeking-on, seeking-found, seeking-end}
use Rattle.lookup.proofs.Finds.{next-some, next-none}
use Rattle.lookup.proofs.rank_from.Goals as goal

pub loop-payload-preserved : goal.loop-payload-preserved
loop-payload-preserved c =
    let a = c.args in
    let l = c.loop-payload in
    let p = c.in-Some.payload in
    let run = run_from a.ws.now a.run.home a.run.from in
    let here = next-some run l.rank p _ (sym l.invariant.rest ∙ c.in-Some.ensures.steps) in
    record {
      passed = seeking-on (leb a.x) run l.rank l.invariant.passed here.0 (ap (leb a.x) here.1 ∙ lt-leb a.x p c.if-x-payload.false);
      rest = here.2;
    }

pub returns-in-None : goal.returns-in-None
returns-in-None c =
    let a = c.args in
    let l = c.loop-payload in
    let run = run_from a.ws.now a.run.home a.run.from in
    let past = next-none run l.rank (sym l.invariant.rest ∙ c.in-None.ensures.steps.0) in
    (sym (seeking-end (leb a.x) run l.rank l.invariant.passed past), l.invariant.passed.within)

pub returns-then-x-payload : goal.returns-then-x-payload
returns-then-x-payload c =
    let a = c.args in
    let l = c.loop-payload in
    let p = c.in-Some.payload in
    let run = run_from a.ws.now a.run.home a.run.from in
    let here = next-some run l.rank p _ (sym l.invariant.rest ∙ c.in-Some.ensures.steps) in
    (sym (seeking-found (leb a.x) run l.rank l.invariant.passed here.0 (ap (leb a.x) here.1 ∙ le-leb a.x p c.if-x-payload.true)), l.invariant.passed.within)
