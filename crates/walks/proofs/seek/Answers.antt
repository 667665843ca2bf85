-- `walks::seek` meets its contract: the circle to the right of b is the part from b on and the part before b, walked one after the other.
use Rattle.std.proofs.Common.{arith}
use Rattle.walks.proofs.Parts.{stretch-first, stretch-last, seek-near, seek-far}
use Rattle.walks.proofs.seek.Goals as goal

pub returns-then-near-n : goal.returns-then-near-n
returns-then-near-n g c =
    let a = c.args in
    let ws = g.W.Words.words a.table in
    (seek-near ws a.b a.m _ (omega arith) _ (stretch-last ws a.b _ c.size-n.ensures) c.skip_runs-near.ensures.0 (omega arith), omega arith)

pub returns : goal.returns
returns g c =
    let a = c.args in
    let ws = g.W.Words.words a.table in
    let near = c.skip_runs-near.ensures in
    let far = c.skip_runs-far.ensures in
    let found = seek-far ws a.b a.m _ (omega arith) _ (stretch-last ws a.b _ c.size-n.ensures) near.0 (omega arith) _ (stretch-first ws a.b) _ _ near.1 far.0 in
    (omega (arith, found), omega arith)
