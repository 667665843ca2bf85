-- `all` is the test of each word.
use borrow.Author.Rules.{rules}
use lib.Dec.{ltb}
use Rattle.std.proofs.Common.{◌/◌, tests}
use Rattle.std.proofs.lemmas.Iterator.{YieldsList-from_slice}
use Rattle.std.proofs.lemmas.Iterator.Search.{all_from_yields_List}
use Rattle.audit.proofs.Wholes.{queue-test}
use Rattle.audit.proofs.queue_right.Goals as goal

pub returns : goal.returns
returns c =
    queue-test c.args.queue.now c.args.k c.pow2-end.result c.all.result c.pow2-end.ensures.0
    (all_from_yields_List (λ w. ltb (w / 2) c.pow2-end.result) _ _ _ c.all.ensures.ran (YieldsList-from_slice c.args.queue.now cc)
    (λ x b q k. search (rules, tests)))
