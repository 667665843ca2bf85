-- The halves of the addresses passed have arrived in an empty table. At the end they make the doubled runs.
use mathlib.Core.Path.{refl, subst}
use Prim.Native.Nat.{◌+◌, ◌≤◌}
use native.Mathlib.Omega.{arith}
use lib.ListN.{length, replicate}
use Rattle.layout.specs.Decode.{decode}
use Rattle.arriving.specs.Arrivals.{Arrived, halves}
use Rattle.arriving.proofs.Filled.{filled-total}
use Rattle.arriving.proofs.Whole.{main-start, main-count, main-part, main-none, main-arrive, main-end, second-done, used-done}
use Rattle.arriving.proofs.write_second.Goals as goal

pub loop-c-init : goal.loop-c-init
loop-c-init c =
    let a = c.args in
    let n = length a.main.now in
    (main-start (halves a.w a.v n) a.main.now, main-none (halves a.w a.v n) a.main.now _ _ (n + n) c.clear.ensures c.requires.2)

pub overflow_add-used : goal.overflow_add-used
overflow_add-used c =
    let a = c.args in
    let l = c.loop-c in
    let f = halves a.w a.v (length a.main.now) in
    omega (
      arith,
      main-part f a.main.now l.c l.used c.send_run-used.result c.loop-c-test.true l.invariant.0 c.send_run-used.ensures.1,
      filled-total a.w a.v (length a.main.now) (decode a.main.now),
      c.requires.8,
    )

pub loop-c-preserved : goal.loop-c-preserved
loop-c-preserved c =
    let a = c.args in
    let l = c.loop-c in
    let f = halves a.w a.v (length a.main.now) in
    let h = c.loop-c-test.true in (
      main-count f a.main.now l.c l.used _ h l.invariant.0 c.send_run-used.ensures.1,
      main-arrive f a.main.now l.c _ _ _ h l.invariant.1 c.send_run-used.ensures.0,
    )

pub returns : goal.returns
returns c =
    let a = c.args in
    let g = c.requires in
    let l = c.loop-c in
    let n = length a.main.now in
    let h : n ≤ l.c = omega arith in
    let all = subst (Arrived (replicate (n + n) 0) l.second) (main-end (halves a.w a.v n) a.main.now l.c h) l.invariant.1 in
    (second-done a.main.now l.second a.w a.v n refl g.3 g.4 g.5 g.7 (omega arith) all, used-done a.main.now a.w a.v n l.c l.used h l.invariant.0)
