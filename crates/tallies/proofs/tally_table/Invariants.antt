-- After i addresses their counters have risen, and the walk has reached the next.
use Prim.Native.Nat.{◌+◌}
use Rattle.rules.specs.Tables.{matching}
use Rattle.annex.specs.Stored.{table_of}
use Rattle.tallies.specs.Tally.{Raised}
use Rattle.tallies.proofs.Walks.{Reached}
use Rattle.tallies.proofs.tally_table.Given as goal

abbrev pub invariant-loop-i : goal.invariant-loop-i
invariant-loop-i l =
    Reached l.part l.b l.s (l.base + l.i) l.a l.k l.p × Raised (λ c. matching c (table_of l.b l.s l.part)) l.base l.i l.initial.mothers l.mothers
