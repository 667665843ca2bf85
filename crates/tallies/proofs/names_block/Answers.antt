-- While no word was of the block, all words passed are of others.
use Rattle.tallies.proofs.Tallies.{others-on}
use Rattle.tallies.proofs.names_block.Goals as goal

pub loop-word-preserved : goal.loop-word-preserved
loop-word-preserved c = others-on _ _ 0 _ _ _ _ c.block_of.ensures c.block_of-block.ensures c.loop-word.invariant
