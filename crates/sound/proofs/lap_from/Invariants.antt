-- The lap goes on from slot to slot: what is left of it after the words passed is good exactly if all of it is.
use Prim.Native.Nat.{◌≤◌}
use mathlib.Core.Path.{◌≡◌}
use lib.ListN.{length, drop}
use Rattle.layout.specs.Decode.{turn}
use Rattle.sound.specs.Spans.{allowed}
use Rattle.sound.specs.Lap.{fits, start}
use Rattle.sound.proofs.lap_from.Given as goal

abbrev pub invariant-loop-word : goal.invariant-loop-word
invariant-loop-word l =
    ((l.lap.opened ≤ length l.yielded) × (l.lap.begun ≤ length l.yielded) × (l.lap.count ≤ length l.yielded))
    × (fits (allowed l.spans) l.count l.lap (drop (length l.yielded) (turn l.z l.words)) ≡ fits (allowed l.spans) l.count start (turn l.z l.words))
