-- `settle_words` goes over the queue words: at each, main and annex hold what the words before leave.
use Rattle.std.proofs.Common.{refl}
use Rattle.settling.proofs.Words.{words-start, words-next, words-end}
use Rattle.settling.proofs.settle_words.Goals as goal

pub loop-word-init : goal.loop-word-init
loop-word-init c = words-start _ _ _ c.args.queue.now _ _ _ c.requires

pub settle_word-settled-requires : goal.settle_word-settled-requires
settle_word-settled-requires c = c.loop-word.invariant.right

pub loop-word-preserved : goal.loop-word-preserved
loop-word-preserved c =
    words-next _ _ c.args.queue.now c.loop-word.word-index _ _ _ _ _ _ _ _ _ _ _ c.loop-word-test.true refl c.loop-word.invariant c.settle_word-settled.ensures

pub returns : goal.returns
returns c = words-end _ _ _ _ _ _ _ _ _ _ c.loop-word-test.false c.loop-word.invariant
