-- The number of new mother hashes of the addresses passed, of which there are no more than entries.
use native.Mathlib.Omega.{arith}
use Rattle.arriving.proofs.Whole.{main-start, main-count}
use Rattle.doubling.specs.NewHashes.{new_hash}
use Rattle.doubling.proofs.Tabled.{new-few, new-all}
use Rattle.doubling.proofs.count_new.Goals as goal

pub loop-c-init : goal.loop-c-init
loop-c-init c = λ k. main-start (new_hash c.args.w k) c.args.main.now

pub overflow_add-count : goal.overflow_add-count
overflow_add-count c =
    let a = c.args in
    let l = c.loop-c in
    omega (arith, new-few a.w a.main.now l.c l.count _ c.loop-c-test.true c.requires.3 (l.invariant 0) (c.count_in-count.ensures 0))

pub loop-c-preserved : goal.loop-c-preserved
loop-c-preserved c =
    let a = c.args in
    let l = c.loop-c in
    λ k. main-count (new_hash a.w k) a.main.now l.c l.count _ c.loop-c-test.true (l.invariant k) (c.count_in-count.ensures k)

pub returns : goal.returns
returns c =
    let a = c.args in
    let l = c.loop-c in
    λ k. new-all a.w k a.main.now l.c l.count c.loop-c-test.false (l.invariant k)
