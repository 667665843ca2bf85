-- `trimmed` drops one empty table after the other: what is left of the tables in use are the first i of them, and trimming these is trimming all.
use Rattle.std.proofs.Common.{arith, rules}
use Rattle.directory.proofs.Laws.{default-is}
use Rattle.places.proofs.Loops.{left-start, left-stop, left-again, left_end}
use Rattle.places.proofs.trimmed.Goals as goal

pub loop-i-init : goal.loop-i-init
loop-i-init c = search (rules, left-start)

pub returns-then-places-i-ne0 : goal.returns-then-places-i-ne0
returns-then-places-i-ne0 c = search (rules, left-stop)

pub loop-i-preserved : goal.loop-i-preserved
loop-i-preserved c =
    let inv = c.loop-i.invariant in
    (omega arith, left-again _ _ _ inv.1 inv.0 (search rules) c.if-places-i-ne0.false _ (default-is _ c.default.ensures))

pub returns-after-loop-i : goal.returns-after-loop-i
returns-after-loop-i c = search (rules, left_end)
