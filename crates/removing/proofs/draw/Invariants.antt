-- `removing::draw` closes the gap along the circle begun at c: what is still to come of it is the same at each step; i is the slot k on from c, and w its word.
use Prim.Native.Nat.{◌≤◌, ◌<◌, ◌+◌}
use mathlib.Core.Path.{◌≡◌}
use lib.ListN.{get_or}
use Rattle.layout.specs.Decode.{turn}
use Rattle.layout.specs.Moves.{drawing, wrap}
use Rattle.removing.proofs.draw.Given as goal

abbrev pub invariant-loop-k : goal.invariant-loop-k
invariant-loop-k l =
    (l.waiting ≤ 1048576 + l._k) × (l.i < l.n) × (l.i ≡ wrap l.n l.c l._k) × (l.w ≡ get_or l.ws l.i 0)
    × (drawing (turn l.c l.ws) l.waiting l._k ≡ drawing (turn l.c l.initial.ws) l.m l.from)
