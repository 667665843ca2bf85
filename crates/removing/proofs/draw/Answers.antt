-- `removing::draw` closes the gap along the circle begun at c: what is still to come of it is the same at each step; i is the slot k on from c, and w its word.
use Prim.Native.Nat.{ℕ, ◌-◌, ◌+◌, ◌%◌, ◌<◌}
use mathlib.Core.Path.{sym, ap, ◌∙◌}
use native.Mathlib.Omega.{arith}
use lib.ListN.{length, get_or}
use lib.Seq.{get_or-set_other}
use Rattle.layout.specs.Decode.{entry}
use Rattle.layout.specs.Moves.{closer, is_start}
use Rattle.layout.proofs.Draws.{draw-last, draw-stop, draw-on}
use Rattle.layout.proofs.Wraps.{wrap-next, wrap-other}
use Rattle.removing.proofs.draw.Goals as goal
use Rattle.removing.proofs.draw.Goals.{else-loop-k-test, then-loop-k-test+then-v-eq0}

pub loop-k-preserved : goal.loop-k-preserved
loop-k-preserved c =
    let l = c.loop-k in
    let v = l.invariant in
    let next = c.after-next in
    let j = next.result in
    let w = get_or l.ws j 0 in
    let ej = wrap-next _ c.args.c l._k l.i j c.requires.0 (omega arith) v.2 next.ensures.0 in (
      omega arith,
      next.ensures.1,
      ej,
      sym (get_or-set_other l.ws l.i j c.closer_word.result 0 (wrap-other _ l.i j v.1 (omega arith) next.ensures.0)),
      draw-on l.ws c.args.c l.waiting l._k _ l.i c.requires.0 (omega arith) l.auto.ws v.2 j (omega arith) ej c.if-v-eq0.false _ _
          (c.closer_word.ensures ∙ ap (closer (entry w) l.waiting) v.3)
          (c.still_waiting-waiting.ensures.0 ∙ ap (λ (w' : ℕ). l.waiting + w' % 2 - is_start (entry w)) v.3)
          ∙ v.4,
    )

pub returns : goal.returns
returns c =
    let l = c.loop-k in
    let v = l.invariant in
    elim c.loop-k-test.branch [
      | else-loop-k-test w ↦
          draw-last l.ws c.args.c l.waiting l._k _ l.i c.requires.0 (omega arith) l.auto.ws v.2 (omega arith) ∙ v.4
      | then-loop-k-test+then-v-eq0 w ↦
          let more : l._k + 1 < length c.args.ws.now = omega arith in
          let ej = wrap-next _ c.args.c l._k l.i w.after-next.result c.requires.0 (omega arith) v.2 w.after-next.ensures.0 in
          draw-stop l.ws c.args.c l.waiting l._k _ l.i c.requires.0 (omega arith) l.auto.ws v.2 _ more ej w.if-v-eq0.true ∙ v.4
    ]
