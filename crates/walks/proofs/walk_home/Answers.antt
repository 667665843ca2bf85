-- `walks::walk_home` meets its contract: the circle to the left of c is the part up to c and the part behind c, walked one after the other; the bit of c itself
-- does not count.
use Rattle.std.proofs.Common.{ℕ, ◌%◌, ◌+◌, ◌∙◌, ap, arith}
use Rattle.walks.proofs.Parts.{stretch-first, stretch-last, home-near, home-far}
use Rattle.walks.proofs.walk_home.Goals as goal

pub returns-then-near-c : goal.returns-then-near-c
returns-then-near-c g c =
    let a = c.args in
    let ws = g.W.Words.words a.table in
    let own = c.mark-own.ensures.0 ∙ ap (λ (w : ℕ). w % 2) c.word.ensures in
    let near = c.walk_left-near.ensures in
    home-near ws a.c _ _ _ (omega arith) own _ (stretch-first ws (a.c + 1)) near.0 near.1 c.if-near-c.true

pub returns : goal.returns
returns g c =
    let a = c.args in
    let ws = g.W.Words.words a.table in
    let own = c.mark-own.ensures.0 ∙ ap (λ (w : ℕ). w % 2) c.word.ensures in
    let near = c.walk_left-near.ensures in
    let far = c.walk_left-far.ensures in
    home-far ws a.c _ _ _ (omega arith) own _ (stretch-first ws (a.c + 1)) near.0 near.1 c.if-near-c.false
    _ (stretch-last ws (a.c + 1) _ c.size.ensures) _ _ far.0 far.1
