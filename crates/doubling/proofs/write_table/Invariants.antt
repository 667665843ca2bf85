-- The mother hashes of the addresses passed have arrived in an empty table.
use Prim.Native.Nat.{◌^◌}
use lib.ListN.{take, replicate}
use Rattle.layout.specs.Decode.{decode}
use Rattle.arriving.specs.Arrivals.{Arrived, of_runs}
use Rattle.doubling.specs.NewHashes.{stored}
use Rattle.doubling.proofs.write_table.Given as goal

abbrev pub invariant-loop-c : goal.invariant-loop-c
invariant-loop-c l = Arrived (replicate (2 ^ l.s) 0) l.part (of_runs (stored l.w l.k l.s) 0 (take l.c (decode l.main)))
