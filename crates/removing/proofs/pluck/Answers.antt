-- `removing::pluck` is `remove_at` on the circle begun at c: one law of the layout for each return.
use mathlib.Core.Path.{refl, ap, ap₂, ◌∙◌}
use Prim.Native.Nat.{ℕ, ◌+◌}
use native.Mathlib.Omega.{arith}
use lib.ListN.{length, set}
use Rattle.layout.specs.Decode.{turn}
use Rattle.layout.specs.Moves.{drawing}
use Rattle.layout.proofs.Plucks.{pluck-only, pluck-home, pluck-away, pluck-later, pluck-first}
use Rattle.layout.proofs.Wraps.{wrap-next}
use Rattle.removing.proofs.pluck.Goals as goal

pub returns-then-v-eq0 : goal.returns-then-v-eq0
returns-then-v-eq0 c =
    let a = c.args in
    pluck-only a.ws.now a.c c.requires.0 a.k a.u a.v c.if-k-eq0.true c.if-v-eq0.true

pub returns-else-v-eq0 : goal.returns-else-v-eq0
returns-else-v-eq0 c =
    let a = c.args in
    pluck-home a.ws.now a.c c.requires.0 a.k a.u a.v _ (length a.ws.now) c.after.result c.if-k-eq0.true c.if-v-eq0.false refl (omega arith) c.after.ensures.0
    (c.draw.ensures ∙ ap (λ (w : ℕ). drawing (turn a.c (set a.ws.now a.c w)) 0 1) c.home_word.ensures)

pub returns-then-u-gt0 : goal.returns-then-u-gt0
returns-then-u-gt0 c =
    let a = c.args in
    pluck-later a.ws.now a.c c.requires.0 a.k a.u a.v _ c.if-k-eq0.false c.marks_between-m.ensures.0 _ (λ z. omega arith) c.draw-then-u-gt0.ensures

pub returns-then-v-eq0-2 : goal.returns-then-v-eq0-2
returns-then-v-eq0-2 c =
    let a = c.args in
    pluck-away a.ws.now a.c c.requires.0 a.k a.u a.v _ c.if-k-eq0.false c.marks_between-m.ensures.0 _ (omega arith) c.if-v-eq0-2.true
    (c.draw-then-v-eq0-2.ensures ∙ ap (λ (w : ℕ). drawing (turn a.c (set a.ws.now a.c w)) c.marks_between-m.result a.k) c.unmarked.ensures)

pub returns-else-v-eq0-2 : goal.returns-else-v-eq0-2
returns-else-v-eq0-2 c =
    let a = c.args in
    let i = c.around-i in
    let j = c.after-else-v-eq0-2 in
    let m = c.marks_between-m in
    pluck-first a.ws.now a.c c.requires.0 a.k a.u a.v m.result c.if-k-eq0.false m.ensures.0 _ (length a.ws.now) i.result j.result
    (omega arith) c.if-v-eq0-2.false refl c.requires.2 i.ensures.0 (wrap-next _ a.c a.k i.result j.result c.requires.0 (omega arith) i.ensures.0 j.ensures.0)
    (c.draw-else-v-eq0-2.ensures
    ∙ ap₂ (λ (w b : ℕ). drawing (turn a.c (set a.ws.now i.result w)) (m.result + b) (a.k + 1)) c.head_word.ensures c.mark.ensures.0)
