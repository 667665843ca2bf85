-- `settle` meets its contract: the queue words, then the tombstones, then the empty tables at the end of the directory.
use Rattle.std.proofs.Common.{sym}
use lib.Seq.{length-take-le}
use Rattle.settling.proofs.Whole.{right, queue_long, tombstones-ready, zeros-left, fewer, leaves}
use Rattle.settling.proofs.settle.Goals as goal

pub slice_bounds-words-end : goal.slice_bounds-words-end
slice_bounds-words-end c = sym (length-take-le c.args.queued c.args.queue.now (queue_long c.requires))

pub settle_words-settled-requires : goal.settle_words-settled-requires
settle_words-settled-requires c = right c.requires

pub take_tombstones-requires : goal.take_tombstones-requires
take_tombstones-requires c = tombstones-ready c.requires _ _ _ _ c.settle_words-settled.ensures

pub trimmed-requires : goal.trimmed-requires
trimmed-requires c = zeros-left c.requires _ _ _ _ c.settle_words-settled.ensures

pub overflow_sub-result : goal.overflow_sub-result
overflow_sub-result c = fewer c.requires _ _ _ _ c.settle_words-settled.ensures _ _ c.take_tombstones.ensures

pub returns : goal.returns
returns c r numbers = leaves c.requires _ _ _ _ c.settle_words-settled.ensures _ _ c.take_tombstones.ensures _ c.trimmed.ensures r numbers
