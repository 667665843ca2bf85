-- `walks::skip_runs` meets its contract: each turn takes the first entry off what is still to come, by the laws of `Skipping`.
use Rattle.std.proofs.Common.{◌≡◌, ℕ, ◌+◌, ◌-◌, ◌∙◌, subst, arith}
use Rattle.walks.specs.Stretch.{stretch}
use Rattle.walks.proofs.Parts.{Skipping, stretch-length, stretch-word, skipping-found, skipping-on, skipping-end}
use Rattle.walks.proofs.skip_runs.Goals as goal

pub returns-then-togo-s : goal.returns-then-togo-s
returns-then-togo-s g c =
    let a = c.args in
    let l = c.loop-i in
    let ws = g.W.Words.words a.table in
    let len = stretch-length ws a.from a.end (omega arith) in
    let read = c.word.ensures ∙ stretch-word ws a.from a.end (omega arith) l.i (omega arith) (omega arith) in
    let z = skipping-found (stretch a.from a.end ws) a.m (l.i - a.from) l.togo _ _ l.invariant (omega arith) read c.begins-s.ensures.0 c.if-togo-s.true in
    (z.0, z.1, omega arith)

pub loop-i-preserved : goal.loop-i-preserved
loop-i-preserved g c =
    let a = c.args in
    let l = c.loop-i in
    let ws = g.W.Words.words a.table in
    let len = stretch-length ws a.from a.end (omega arith) in
    let read = c.word.ensures ∙ stretch-word ws a.from a.end (omega arith) l.i (omega arith) (omega arith) in
    let next : l.i - a.from + 1 ≡ l.i + 1 - a.from = omega arith in
    let part = stretch a.from a.end ws in
    subst (λ (k : ℕ). Skipping part a.m k (l.togo - c.begins-s.result)) next
    (skipping-on part a.m (l.i - a.from) l.togo _ _ l.invariant (omega arith) read c.begins-s.ensures.0 c.if-togo-s.false)

pub returns : goal.returns
returns g c =
    let a = c.args in
    let l = c.loop-i in
    let ws = g.W.Words.words a.table in
    let len = stretch-length ws a.from a.end (omega arith) in
    let z = skipping-end (stretch a.from a.end ws) a.m (l.i - a.from) l.togo l.invariant (omega arith) in
    (omega (arith, z.0), z.1, omega arith)
