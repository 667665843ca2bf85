-- Block after block: those that are left are right exactly if all are, and k entries wait on arrival at the first of them.
use native.Mathlib.Omega.{arith}
use borrow.Author.Rules.{rules}
use Rattle.counts.proofs.Blocks.{blocks_start, blocks-on, blocks_end}
use Rattle.counts.proofs.counts_right.Goals as goal

pub loop-base-init : goal.loop-base-init
loop-base-init c = (omega arith, search (rules, blocks_start))

pub loop-base-preserved : goal.loop-base-preserved
loop-base-preserved c = (omega arith, blocks-on _ _ c.requires.0 _ _ c.loop-base.invariant.1 _ c.in-Some.ensures)

pub returns-in-Some : goal.returns-in-Some
returns-in-Some c =
    let s = blocks-on _ _ c.requires.0 _ _ c.loop-base.invariant.1 _ c.in-Some.ensures in
    blocks_end _ _ c.requires.0 _ _ s (omega arith)

pub returns : goal.returns
returns c = search (rules, blocks_end)
