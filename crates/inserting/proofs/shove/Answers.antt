-- `inserting::shove` pushes the entry in hand along the circle begun at c: what is still to come of it is the same at each step, and i is the slot k on from c.
use mathlib.Core.Path.{sym, ◌∙◌}
use native.Mathlib.Omega.{arith}
use Rattle.layout.specs.Decode.{turn}
use Rattle.layout.proofs.Loops.{going_end, shove-stop, shove-on}
use Rattle.layout.proofs.Same.{turn-length}
use Rattle.layout.proofs.Wraps.{wrap-next}
use Rattle.inserting.proofs.shove.Goals as goal

pub returns-then-n-from : goal.returns-then-n-from
returns-then-n-from c =
    let a = c.args in
    sym (going_end (turn a.c a.ws.now) a.e a.from (omega (arith, turn-length a.c a.ws.now)))

pub returns-then-w-eq0 : goal.returns-then-w-eq0
returns-then-w-eq0 c =
    let l = c.loop-k in
    let v = l.invariant in
    shove-stop l.ws c.args.c l._k _ l.hand l.i _ c.requires.0 c.loop-k-test.true l.auto.ws v.0 v.1 v.3 c.moved.ensures c.if-w-eq0.true ∙ v.4

pub loop-k-preserved : goal.loop-k-preserved
loop-k-preserved c =
    let l = c.loop-k in
    let v = l.invariant in
    let more = c.loop-k-test.true in (
      omega arith,
      omega arith,
      c.after-i.ensures.1,
      wrap-next _ c.args.c l._k l.i _ c.requires.0 more v.3 c.after-i.ensures.0,
      shove-on l.ws c.args.c l._k _ l.hand l.i _ c.requires.0 more l.auto.ws v.0 v.1 v.3 c.moved.ensures c.if-w-eq0.false _ c.stripped-hand.ensures ∙ v.4,
    )

pub returns : goal.returns
returns c =
    let l = c.loop-k in
    sym (going_end (turn c.args.c l.ws) l.hand l._k (omega (arith, turn-length c.args.c l.ws, l.auto.ws))) ∙ l.invariant.4
