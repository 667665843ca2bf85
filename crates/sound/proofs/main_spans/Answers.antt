-- The spans of a main table are those of `main_entry`, by the law of the spans.
use mathlib.Core.Path.{ap, ◌∙◌}
use Prim.Native.Nat.{ℕ, ◌^◌}
use native.Mathlib.Omega.{arith}
use Rattle.sound.proofs.Ranges.{power_le, power-low, main-made}
use borrow.Author.Rules.{rules}
use Rattle.sound.proofs.main_spans.Goals as goal

pub overflow_sub-result : goal.overflow_sub-result
overflow_sub-result c = power_le _ _ _ _ c.pow2-short.ensures.0 c.pow2-end.ensures.0 (omega arith)

pub overflow_sub-result-2 : goal.overflow_sub-result-2
overflow_sub-result-2 c = search (rules, power-low)

pub returns : goal.returns
returns c = main-made _ _ _ _ c.pow2-end.ensures.0 (c.pow2-short.ensures.0 ∙ ap (λ (x : ℕ). 2 ^ x) c.saturating_sub.ensures)
