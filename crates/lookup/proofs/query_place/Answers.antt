-- `lookup::query_place` meets its contract: an entry at home begins its run; else the walk finds it.
use Rattle.std.proofs.Common.{arith}
use Rattle.walks.proofs.Homes.{home-located}
use Rattle.lookup.proofs.query_place.Goals as goal

pub returns-then-word-eq0 : goal.returns-then-word-eq0
returns-then-word-eq0 g c =
    let a = c.args in
    (omega arith, omega arith, home-located (g.W.Words.words a.table) a.c _ (omega arith) (omega arith) c.word.ensures c.if-word-eq0.true)
