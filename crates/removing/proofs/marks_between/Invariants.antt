-- `removing::marks_between` counts the occupied bits along the circle begun at c; i is the slot j on from c.
use Prim.Native.Nat.{◌<◌, ◌-◌}
use mathlib.Core.Path.{◌≡◌}
use lib.ListN.{take, drop}
use Rattle.layout.specs.Decode.{turn}
use Rattle.layout.specs.Moves.{occs, wrap}
use Rattle.removing.proofs.marks_between.Given as goal

abbrev pub invariant-loop-j : goal.invariant-loop-j
invariant-loop-j l = (l.marks < l._j) × (l.i < l.n) × (l.i ≡ wrap l.n l.c l._j) × (l.marks ≡ occs (take (l._j - 1) (drop 1 (turn l.c l.ws))))
