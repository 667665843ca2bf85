-- The mother hashes of the entries passed have arrived.
use Rattle.arriving.specs.Arrivals.{Arrived, of_run}
use Rattle.doubling.specs.NewHashes.{stored}
use Rattle.doubling.proofs.store_run.Given as goal

abbrev pub invariant-loop-p : goal.invariant-loop-p
invariant-loop-p l = Arrived l.initial.part l.part (of_run (stored l.w l.k l.s l.c) l.yielded)
