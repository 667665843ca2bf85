-- `take_voids` visits the addresses with the low b bits of c in steps of 2^b: at d the voids of those below d are gone.
use Rattle.std.proofs.Common.{◌+◌, arith}
use Rattle.annex.proofs.Entry.{size-20, size-8}
use Rattle.settling.proofs.Voids.{Walking, voids-end, walk_start, walk-past, walk-on}
use Rattle.settling.proofs.take_voids.Goals as goal
use Rattle.settling.proofs.take_voids.Goals.{then-d-c, else-d-c}

pub loop-d-init : goal.loop-d-init
loop-d-init c = walk_start _ _ _ _ _ _ c.pow2-step.ensures.0 c.requires.5

pub take_one-gone-requires : goal.take_one-gone-requires
take_one-gone-requires c =
    let a = size-20 c.args.k c.requires.1 in
    let b = size-8 c.args.k c.requires.0 in
    omega (arith, c.pow2-size.ensures.0, c.loop-d.invariant.size)

pub overflow_add-gone : goal.overflow_add-gone
overflow_add-gone c = omega (arith, c.take_one-gone.ensures.0, c.pow2-size.ensures.1, c.loop-d.invariant.few)

pub loop-d-preserved : goal.loop-d-preserved
loop-d-preserved c =
    let inv = c.loop-d.invariant in
    let step = c.pow2-step.ensures.0 in
    elim c.if-d-c.branch [
      | then-d-c w ↦ walk-on _ _ _ _ _ _ _ _ inv _ step w.if-d-c.true _ _ c.void_of-void.ensures w.take_one-gone.ensures.0 _ w.take_one-gone.auto.main
          w.take_one-gone.ensures.1 _ _ w.main-is w.gone-is
      | else-d-c w ↦ walk-past _ _ _ _ _ _ _ _ inv _ step w.if-d-c.false _ _ w.main-is w.gone-is
    ]

pub returns : goal.returns
returns c = voids-end _ _ _ _ _ _ _ c.loop-d.invariant.lost (omega (arith, c.pow2-size.ensures.0, c.requires.5, c.loop-d-test.false))

pub returns-after-d-c : goal.returns-after-d-c
returns-after-d-c c =
    let inv = c.loop-d.invariant in
    let step = c.pow2-step.ensures.0 in
    let walked : Walking c.args.k c.args.w c.args.c c.args.b c.args.main.now c.if-d-c.main c.if-d-c.gone (c.loop-d.d + c.pow2-step.result) =
    elim c.if-d-c.branch [
      | then-d-c w ↦ walk-on _ _ _ _ _ _ _ _ inv _ step w.if-d-c.true _ _ c.void_of-void.ensures w.take_one-gone.ensures.0 _ w.take_one-gone.auto.main
          w.take_one-gone.ensures.1 _ _ w.main-is w.gone-is
      | else-d-c w ↦ walk-past _ _ _ _ _ _ _ _ inv _ step w.if-d-c.false _ _ w.main-is w.gone-is
    ] in
    voids-end _ _ _ _ _ _ _ walked.lost (omega (arith, c.pow2-size.ensures.0, c.requires.5))
