-- The number of new mother hashes of the addresses passed.
use mathlib.Core.Path.{◌≡◌}
use Prim.Native.Nat.{ℕ}
use lib.ListN.{length, take}
use Rattle.layout.specs.Decode.{decode}
use Rattle.arriving.specs.Arrivals.{of_runs}
use Rattle.doubling.specs.NewHashes.{new_hash}
use Rattle.doubling.proofs.count_new.Given as goal

abbrev pub invariant-loop-c : goal.invariant-loop-c
invariant-loop-c l = (k : ℕ) → l.count ≡ length (of_runs (new_hash l.w k) 0 (take l.c (decode l.main)))
