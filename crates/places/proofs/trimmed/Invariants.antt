-- `trimmed` drops one empty table after the other: what is left of the tables in use are the first i of them, and trimming these is trimming all.
use Rattle.std.proofs.Common.{◌≤◌}
use Rattle.directory.specs.Places.{places_in_use}
use Rattle.places.proofs.Loops.{Left}
use Rattle.places.proofs.trimmed.Given as goal

abbrev pub invariant-loop-i : goal.invariant-loop-i
invariant-loop-i l = (l.i ≤ 15) × Left (places_in_use l.initial.places) l.places l.i
