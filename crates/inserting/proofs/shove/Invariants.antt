-- `inserting::shove` pushes the entry in hand along the circle begun at c: what is still to come of it is the same at each step, and i is the slot k on from c.
use Prim.Native.Nat.{◌≤◌, ◌<◌, ◌%◌}
use mathlib.Core.Path.{◌≡◌}
use Rattle.layout.specs.Decode.{turn}
use Rattle.layout.specs.Moves.{going, wrap}
use Rattle.inserting.proofs.shove.Given as goal

abbrev pub invariant-loop-k : goal.invariant-loop-k
invariant-loop-k l =
    (l.hand % 8 ≤ 2) × (l.hand % 2 ≡ 0) × (l.i < l.n) × (l.i ≡ wrap l.n l.c l._k)
    × (going (turn l.c l.ws) l.hand l._k ≡ going (turn l.c l.initial.ws) l.e l.from)
