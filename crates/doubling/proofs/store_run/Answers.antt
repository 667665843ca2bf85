-- The mother hashes of the entries passed have arrived. At the end of the run these are all.
use Rattle.arriving.proofs.Loops.{arrive-start, arrive-again}
use Rattle.doubling.proofs.store_run.Goals as goal

pub loop-p-init : goal.loop-p-init
loop-p-init c = arrive-start _ c.args.part.now

pub loop-p-preserved : goal.loop-p-preserved
loop-p-preserved c = arrive-again _ c.loop-p.yielded c.in-Some.p _ _ _ c.loop-p.invariant c.store.ensures
