-- `lookup::count_in_run` meets its contract: what was counted, and the count of the entries that are still to come.
use Rattle.std.proofs.Common.{length, ap, arith}
use Rattle.lists.specs.Runs.{count}
use Rattle.lookup.proofs.Finds.{one-more}
use Rattle.lookup.proofs.count_in_run.Goals as goal

pub loop-payload-preserved : goal.loop-payload-preserved
loop-payload-preserved c =
    let l = c.loop-payload in
    let more = one-more c.args.x c.in-Some.payload c.next.new.self c.from-count.result c.from-count.ensures in
    let counted = ap (count c.args.x) c.in-Some.ensures.steps in
    let few = ap length c.in-Some.ensures.steps in
    record { counted = omega (arith, l.invariant.counted); few = omega (arith, l.invariant.few) }

pub returns : goal.returns
unfolding count
returns c = let l = c.loop-payload in omega (arith, l.invariant.counted, ap (count c.args.x) c.in-None.ensures.steps.0)
