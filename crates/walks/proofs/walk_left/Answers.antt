-- `walks::walk_left` meets its contract: each turn takes the last word off what is still to come, by the laws of `Homing`.
use Rattle.std.proofs.Common.{◌-◌, ◌∙◌, arith}
use Rattle.walks.specs.Stretch.{stretch}
use Rattle.walks.proofs.Parts.{stretch-length, stretch-word, homing-stop, homing-on, homing-end}
use Rattle.walks.proofs.walk_left.Goals as goal

pub returns-then-w-eq0 : goal.returns-then-w-eq0
returns-then-w-eq0 g c =
    let a = c.args in
    let l = c.loop-i in
    let ws = g.W.Words.words a.table in
    let few = l.invariant.homing.few in
    let len = stretch-length ws a.from a.end (omega arith) in
    let read = c.word-w.ensures ∙ stretch-word ws a.from a.end (omega arith) (l.i - 1) (omega arith) (omega arith) in
    let z =
    homing-stop (stretch a.from a.end ws) (l.i - a.from) (l.i - 1 - a.from) l.runs _ _ l.invariant.homing (omega arith) (omega arith) read
    c.mark-runs.ensures.0 c.if-w-eq0.true in
    (omega (arith, z.0), z.1, omega arith, omega arith)

pub loop-i-preserved : goal.loop-i-preserved
loop-i-preserved g c =
    let a = c.args in
    let l = c.loop-i in
    let ws = g.W.Words.words a.table in
    let few = l.invariant.homing.few in
    let len = stretch-length ws a.from a.end (omega arith) in
    let read = c.word-w.ensures ∙ stretch-word ws a.from a.end (omega arith) (l.i - 1) (omega arith) (omega arith) in record {
      begun = omega arith;
      homing =
          homing-on (stretch a.from a.end ws) (l.i - a.from) (l.i - 1 - a.from) l.runs _ _ l.invariant.homing (omega arith) (omega arith) read
          c.mark-runs.ensures.0 c.if-w-eq0.false;
    }

pub returns : goal.returns
returns g c =
    let a = c.args in
    let l = c.loop-i in
    let ws = g.W.Words.words a.table in
    let few = l.invariant.homing.few in
    let len = stretch-length ws a.from a.end (omega arith) in
    let z = homing-end (stretch a.from a.end ws) (l.i - a.from) l.runs l.invariant.homing (omega arith) in
    (z.0 ∙ len, z.1, omega arith, omega arith)
