-- The halves of the addresses passed have arrived in an empty table. At the end they make the doubled runs.
use mathlib.Core.Path.{◌≡◌}
use Prim.Native.Nat.{◌+◌}
use lib.ListN.{length, take, replicate}
use Rattle.layout.specs.Decode.{decode}
use Rattle.arriving.specs.Arrivals.{Arrived, of_runs, halves}
use Rattle.arriving.proofs.write_second.Given as goal

abbrev pub invariant-loop-c : goal.invariant-loop-c
invariant-loop-c l =
    (l.used ≡ length (of_runs (halves l.w l.v (length l.main)) 0 (take l.c (decode l.main))))
    × Arrived (replicate (length l.main + length l.main) 0) l.second (of_runs (halves l.w l.v (length l.main)) 0 (take l.c (decode l.main)))
