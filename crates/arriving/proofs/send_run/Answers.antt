-- The halves of the entries passed have arrived, and `used` counts them. At the end of the run these are all.
use native.Mathlib.Omega.{arith}
use lib.ListN.{length-append}
use mathlib.Core.List.{List, [], ◌∷◌}
use Prim.Native.Nat.{ℕ}
use Rattle.std.specs.Iterator.{YieldsFirst}
use Rattle.std.proofs.lemmas.Iterator.{YieldsList}
use Rattle.std.proofs.lemmas.Iterator.Consumers.{YieldsList-from_first, YieldsList-turn}
use Rattle.arriving.proofs.Loops.{run-start, run-count, arrive-start, arrive-again}
use Rattle.arriving.proofs.send_run.Goals as goal

pub loop-p-init : goal.loop-p-init
loop-p-init c = (omega arith, run-start _, arrive-start _ c.args.second.now)

pub overflow_add-used : goal.overflow_add-used
overflow_add-used c =
    let l = c.loop-p in
    let run : YieldsList (YieldsFirst (λ (rest : List ℕ). rest)) (λ p. p) c.into_iter-p-iterator.result c.entries_of-p-items.result =
    YieldsList-from_first (λ p. p) (λ rest. rest) _ cc in
    omega (arith, (YieldsList-turn run l.yielded _ l.yielded_by _ _ _ c.in-Some.is c.next.ensures.steps).0, c.send-used.ensures.few)

pub loop-p-preserved : goal.loop-p-preserved
loop-p-preserved c =
    let l = c.loop-p in
    let s = c.send-used.ensures in (
      omega (arith, length-append l.yielded (c.in-Some.p ∷ []), s.few),
      run-count _ l.yielded c.in-Some.p l.used _ l.invariant.1 s.counted,
      arrive-again _ l.yielded c.in-Some.p _ _ _ l.invariant.2 s.arrived,
    )
