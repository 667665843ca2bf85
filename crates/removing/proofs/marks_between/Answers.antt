-- `removing::marks_between` counts the occupied bits along the circle begun at c; i is the slot j on from c.
use Prim.Native.Nat.{ℕ, ◌+◌}
use mathlib.Core.Path.{refl, ap, ◌∙◌}
use native.Mathlib.Omega.{arith}
use Rattle.layout.specs.Decode.{turn}
use Rattle.layout.proofs.Same.{turn-length}
use Rattle.layout.proofs.Plucks.{bits-start, bits-on, word-at}
use Rattle.layout.proofs.Wraps.{wrap-next}
use borrow.Author.Rules.{rules}
use Rattle.removing.proofs.marks_between.Goals as goal

pub loop-j-init : goal.loop-j-init
loop-j-init c = (omega arith, c.after-i.ensures.1, c.after-i.ensures.0, bits-start (turn c.args.c c.args.ws.now))

pub loop-j-preserved : goal.loop-j-preserved
loop-j-preserved c =
    let a = c.args in
    let l = c.loop-j in
    let v = l.invariant in
    let w = word-at a.ws.now a.c c.requires.0 l._j _ l.i refl (omega arith) v.2 in (
      omega arith,
      c.after-i-in-loop-j.ensures.1,
      wrap-next _ a.c l._j l.i _ c.requires.0 (omega arith) v.2 c.after-i-in-loop-j.ensures.0,
      ap (λ (b : ℕ). l.marks + b) c.mark-marks.ensures.0
          ∙ bits-on (turn a.c a.ws.now) l._j l.marks _ (search rules) (omega (arith, turn-length a.c a.ws.now)) w v.3,
    )
