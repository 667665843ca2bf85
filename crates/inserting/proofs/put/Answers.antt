-- `inserting::put` is `insert_at` on the circle begun at c: one law of the layout for each return.
use mathlib.Core.Path.{◌≡◌, sym, ap, ap₂, ◌∙◌}
use Prim.Native.Nat.{ℕ, ◌+◌, ◌*◌}
use native.Mathlib.Omega.{arith}
use lib.ListN.{length, length-set, set}
use Rattle.layout.specs.Decode.{turn}
use Rattle.layout.specs.Moves.{going}
use Rattle.layout.proofs.Puts.{put-home, put-push, put-new, put-later, put-head}
use Rattle.inserting.proofs.put.Goals as goal

pub returns-else-w-ne0 : goal.returns-else-w-ne0
returns-else-w-ne0 c =
    let a = c.args in
    put-home a.ws.now a.c c.requires.0 a.k a.u a.o a.x c.if-k-eq0.true c.if-w-ne0.false

pub returns-then-w-ne0 : goal.returns-then-w-ne0
returns-then-w-ne0 c =
    let a = c.args in
    put-push a.ws.now a.c c.requires.0 a.k a.u a.o a.x _ c.if-k-eq0.true c.if-w-ne0.true
    (c.shove.ensures ∙ ap (λ (e : ℕ). going (turn a.c (set a.ws.now a.c (a.x * 8 + 1))) e 1) c.later.ensures.0)

pub returns-then-u-gt0 : goal.returns-then-u-gt0
returns-then-u-gt0 c =
    let a = c.args in
    put-later a.ws.now a.c c.requires.0 a.k a.u a.o a.x c.if-k-eq0.false _ (λ z. omega arith)
    (c.shove-then-u-gt0.ensures ∙ ap (λ (v : ℕ). going (turn a.c (set a.ws.now a.c v)) (a.x * 8 + 2) a.k) c.marked.ensures)

pub returns-then-o-eq0 : goal.returns-then-o-eq0
returns-then-o-eq0 c =
    let a = c.args in
    put-new a.ws.now a.c c.requires.0 a.k a.u a.o a.x c.if-k-eq0.false _ (omega arith) c.if-o-eq0.true
    (c.shove-then-o-eq0.ensures ∙ ap (λ (v : ℕ). going (turn a.c (set a.ws.now a.c v)) (a.x * 8) a.k) c.marked.ensures)

pub returns-else-o-eq0 : goal.returns-else-o-eq0
returns-else-o-eq0 c =
    let a = c.args in
    let ws = set a.ws.now a.c c.marked.result in
    let n : length ws ≡ length a.ws.now = length-set a.ws.now a.c c.marked.result in
    put-head a.ws.now a.c c.requires.0 a.k a.u a.o a.x c.if-k-eq0.false _ ws (length ws) c.around-i.result
    (ap (set a.ws.now a.c) c.marked.ensures) (sym n) (omega arith) c.around-i.ensures.0 (omega arith) c.if-o-eq0.false
    (c.shove-else-o-eq0.ensures
    ∙ ap₂ (λ (v e : ℕ). going (turn a.c (set ws c.around-i.result v)) e (a.k + 1)) c.moved.ensures c.later-else-o-eq0.ensures.0)
