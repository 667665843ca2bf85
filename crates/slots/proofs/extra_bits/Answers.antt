-- The fixed regime has none; the widening regime's table meets its rule at each entry, by the test that `widening-at` computes.
use mathlib.Core.Path.{◌≡◌, ◌∙◌}
use Prim.Native.Nat.{ℕ}
use native.Mathlib.Omega.{arith}
use borrow.Author.Tests.{eq-eqb, ne_eqb}
use Rattle.slots.specs.Numbers.{extra, widening}
use Rattle.slots.proofs.NumberLaws.{table, widening-at}
use Rattle.slots.proofs.extra_bits.Goals as goal

fixed : (g x : ℕ) → g ≡ 0 → 0 ≡ extra g x
unfolding extra
fixed g x e = rw (extra, eq-eqb g 0 e)

widened : (g x : ℕ) → (g ≡ 0 → ⊥) → widening x ≡ extra g x
unfolding extra
widened g x n = rw (extra, ne_eqb g 0 n)

pub returns-then-regime-eq0 : goal.returns-then-regime-eq0
returns-then-regime-eq0 c = (fixed _ _ c.if-regime-eq0.true, omega arith)

pub returns-else-regime-eq0 : goal.returns-else-regime-eq0
unfolding table
returns-else-regime-eq0 c =
    let d = widening-at c.args.generation (omega arith) in
    (d.rule ∙ widened _ _ c.if-regime-eq0.false, d.small)
