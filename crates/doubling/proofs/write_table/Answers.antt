-- The mother hashes of the addresses passed have arrived in an empty table. At the end they make the table of the definition.
use mathlib.Core.Path.{subst}
use Prim.Native.Nat.{◌^◌}
use lib.ListN.{replicate}
use Rattle.arriving.specs.Arrivals.{Arrived}
use Rattle.arriving.proofs.Whole.{main-none, main-arrive, main-end}
use Rattle.doubling.specs.NewHashes.{stored}
use Rattle.doubling.proofs.Tabled.{table_done}
use Rattle.doubling.proofs.write_table.Goals as goal

pub loop-c-init : goal.loop-c-init
loop-c-init c =
    let a = c.args in
    main-none (stored a.w a.k a.s) a.main.now _ _ (2 ^ a.s) c.clear.ensures c.requires.4

pub loop-c-preserved : goal.loop-c-preserved
loop-c-preserved c =
    let a = c.args in
    main-arrive (stored a.w a.k a.s) a.main.now c.loop-c.c _ _ _ c.loop-c-test.true c.loop-c.invariant c.store_run.ensures

pub returns : goal.returns
returns c =
    let a = c.args in
    let l = c.loop-c in
    let all = subst (Arrived (replicate (2 ^ a.s) 0) l.part) (main-end (stored a.w a.k a.s) a.main.now l.c c.loop-c-test.false) l.invariant in
    table_done a.main.now l.part a.w a.k a.s c.requires.9 all
