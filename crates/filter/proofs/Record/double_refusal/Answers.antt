-- The tests in their order: each that fails gives the definition's number, and where none does only 10 is left.
use native.Mathlib.Omega.{arith}
use Rattle.std.proofs.lemmas.Result.{err_from_is_err_and}
use Rattle.lists.proofs.Tests.{true-test}
use Rattle.keeps.proofs.Bounds.{bounds}
use Rattle.filter.specs.Plain.{plain}
use Rattle.filter.proofs.Refused.{not-0, none-err, some-value, wrong}
use Rattle.filter.proofs.Doubles.{number-2, number-9, number-3, number-audit, number-8, before-refused, before-none, not-zero}
use Rattle.filter.proofs.Record.double_refusal.Goals as goal

pub returns-in_err-ok_or : goal.returns-in_err-ok_or
returns-in_err-ok_or c =
    let a = c.args in
    let p = err_from_is_err_and c.from_residual.result c.from_residual.ensures.1 in
    let n = none-err _ _ _ c.in_err-ok_or.ensures.value in
    rw (p.1, p.2, n.1)
    (before-refused (plain a.self) a.main.now a.queue.now a.annex.now a.second 2 (not-zero 1)
    (number-2 (plain a.self) a.main.now a.queue.now a.annex.now a.second (wrong _ _ _ n.0 c.in_range.ensures)))

pub returns-then-self-eq20 : goal.returns-then-self-eq20
returns-then-self-eq20 c =
    let a = c.args in
    let s = some-value _ _ _ _ c.in_ok-ok_or.ensures.ok_part c.in_range.ensures in
    before-refused (plain a.self) a.main.now a.queue.now a.annex.now a.second 9 (not-zero 8)
    (number-9 (plain a.self) a.main.now a.queue.now a.annex.now a.second s.0 c.if-self-eq20.true)

pub overflow_add-self : goal.overflow_add-self
overflow_add-self c =
    let s = some-value _ _ _ _ c.in_ok-ok_or.ensures.ok_part c.in_range.ensures in
    let b = bounds (plain c.args.self) (true-test _ s.0) in omega (arith, b.k_20)

pub pow2-requires : goal.pow2-requires
pow2-requires c =
    let s = some-value _ _ _ _ c.in_ok-ok_or.ensures.ok_part c.in_range.ensures in
    let b = bounds (plain c.args.self) (true-test _ s.0) in omega (arith, b.k_20)

pub returns-then-second-pow2 : goal.returns-then-second-pow2
returns-then-second-pow2 c =
    let a = c.args in
    let s = some-value _ _ _ _ c.in_ok-ok_or.ensures.ok_part c.in_range.ensures in
    before-refused (plain a.self) a.main.now a.queue.now a.annex.now a.second 3 (not-zero 2)
    (number-3 (plain a.self) a.main.now a.queue.now a.annex.now a.second s.0 c.if-self-eq20.false _ c.pow2.ensures.0 c.if-second-pow2.true)

pub returns-in_err-audit : goal.returns-in_err-audit
returns-in_err-audit c =
    let a = c.args in
    let s = some-value _ _ _ _ c.in_ok-ok_or.ensures.ok_part c.in_range.ensures in
    let p = err_from_is_err_and c.from_residual-in_err-audit.result c.from_residual-in_err-audit.ensures.1 in
    rw (p.1, p.2)
    (before-refused (plain a.self) a.main.now a.queue.now a.annex.now a.second _ (not-0 _)
    (number-audit (plain a.self) a.main.now a.queue.now a.annex.now a.second s.0 c.if-self-eq20.false _ c.pow2.ensures.0 c.if-second-pow2.false _
    c.in_err-audit.ensures (not-0 _)))

pub returns-then-self-eq0 : goal.returns-then-self-eq0
returns-then-self-eq0 c =
    let a = c.args in
    let s = some-value _ _ _ _ c.in_ok-ok_or.ensures.ok_part c.in_range.ensures in
    before-none (plain a.self) a.main.now a.queue.now a.annex.now a.second s.0 c.if-self-eq20.false _ c.pow2.ensures.0 c.if-second-pow2.false
    c.in_ok-audit.ensures c.if-self-eq0.true

pub returns-else-self-eq0 : goal.returns-else-self-eq0
returns-else-self-eq0 c =
    let a = c.args in
    let s = some-value _ _ _ _ c.in_ok-ok_or.ensures.ok_part c.in_range.ensures in
    before-refused (plain a.self) a.main.now a.queue.now a.annex.now a.second 8 (not-zero 7)
    (number-8 (plain a.self) a.main.now a.queue.now a.annex.now a.second s.0 c.if-self-eq20.false _ c.pow2.ensures.0 c.if-second-pow2.false
    c.in_ok-audit.ensures c.if-self-eq0.false)
