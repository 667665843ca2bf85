-- `take_tombstones` goes over the queue words: at each a tombstone is gone for each even word before.
use native.Mathlib.Omega.{arith}
use Rattle.settling.proofs.Tombstones.{clear-start, clear-end, clear-past, clear-on, names-inside}
use Rattle.settling.proofs.take_tombstones.Goals as goal
use Rattle.settling.proofs.take_tombstones.Goals.{then-word-eq0, else-word-eq0}

pub loop-word-init : goal.loop-word-init
loop-word-init c = clear-start _ _ _

pub take_one-gone-requires : goal.take_one-gone-requires
take_one-gone-requires c =
    let h = names-inside _ _ _ c.requires.4 c.loop-word-test.true in
    omega (arith, h, c.loop-word.invariant.size, c.requires)

pub overflow_add-gone : goal.overflow_add-gone
overflow_add-gone c = omega (arith, c.take_one-gone.ensures.0, c.loop-word.invariant.few, c.loop-word-test.true, c.requires.3)

pub loop-word-preserved : goal.loop-word-preserved
loop-word-preserved c =
    let inv = c.loop-word.invariant in
    let low = c.loop-word-test.true in
    elim c.if-word-eq0.branch [
      | then-word-eq0 w ↦ clear-on _ _ _ _ _ _ inv low w.if-word-eq0.true _ _ c.tombstone_of-tombstone.ensures w.take_one-gone.ensures.0 _
          w.take_one-gone.auto.main w.take_one-gone.ensures.1 _ _ w.main-is w.gone-is
      | else-word-eq0 w ↦ clear-past _ _ _ _ _ _ inv low w.if-word-eq0.false _ _ w.main-is w.gone-is
    ]

pub returns : goal.returns
returns c = clear-end _ _ _ _ _ _ c.loop-word.invariant c.loop-word-test.false
