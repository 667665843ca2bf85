-- The counters are filled from the queue and from the annex, and then compared with the runs.
use mathlib.Core.Path.{refl}
use borrow.Author.Rules.{rules}
use Rattle.tallies.specs.Tally.{block_size}
use Rattle.tallies.proofs.Tallies.{tallied-none, none-raised}
use Rattle.counts.proofs.block_right.Goals as goal

pub tally_block-requires : goal.tally_block-requires
tally_block-requires c =
    let z = c.default-queued in
    (search rules, search rules, tallied-none block_size _ z.result z.ensures.0 z.ensures.1 refl)

pub tally_mothers-requires : goal.tally_mothers-requires
tally_mothers-requires c = (search rules, search rules, search rules, search rules, search rules, refl, none-raised block_size)

pub returns : goal.returns
returns c = c.addresses_right.ensures _ _ c.tally_block.ensures c.tally_mothers.ensures
