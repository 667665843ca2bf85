-- The halves of the entries passed have arrived, and `used` counts them.
use mathlib.Core.Path.{◌≡◌}
use Prim.Native.Nat.{◌+◌, ◌≤◌}
use lib.ListN.{length}
use Rattle.arriving.specs.Arrivals.{Arrived, of_run, halves}
use Rattle.arriving.proofs.send_run.Given as goal

abbrev pub invariant-loop-p : goal.invariant-loop-p
invariant-loop-p l =
    (l.used ≤ length l.yielded + length l.yielded) × (l.used ≡ length (of_run (halves l.w l.v (length l.main) l.c) l.yielded))
    × Arrived l.initial.second l.second (of_run (halves l.w l.v (length l.main) l.c) l.yielded)
