-- At place j of the circle, what is counted and what is to come of the run make the whole of it.
use native.Mathlib.Omega.{arith}
use borrow.Author.Rules.{rules}
use Rattle.sound.proofs.Readings.{read_none, going_start, going_on, going-stop, going_end}
use Rattle.sound.proofs.read_run.Goals as goal

pub returns-then-words-c-eq0 : goal.returns-then-words-c-eq0
returns-then-words-c-eq0 c = search (rules, read_none)

pub loop-j-init : goal.loop-j-init
loop-j-init c =
    going_start _ _ _ _ _ _ _ _ (search rules) (search rules) c.if-words-c-eq0.false c.around.ensures.0
    c.one_if-tombstones.ensures c.one_if-voids.ensures

pub returns : goal.returns
returns c = going_end _ _ _ _ _ _ _ _ (omega arith) (omega arith) c.loop-j.invariant

pub returns-then-word-eq0 : goal.returns-then-word-eq0
returns-then-word-eq0 c = search (rules, going-stop)

pub loop-j-preserved : goal.loop-j-preserved
loop-j-preserved c =
    going_on _ _ _ _ _ _ _ _ _ (search rules) (search rules) c.around-in-loop-j.ensures.0
    c.loop-j.invariant c.if-word-eq0.false _ _ c.one_if-tombstones-in-loop-j.ensures c.one_if-voids-in-loop-j.ensures
