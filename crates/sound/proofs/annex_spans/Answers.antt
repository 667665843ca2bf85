-- The spans of an annex table are those of `annex_entry`, by the law of the spans.
use native.Mathlib.Omega.{arith}
use Rattle.sound.proofs.Ranges.{power_le, annex-made}
use borrow.Author.Rules.{rules}
use Rattle.sound.proofs.annex_spans.Goals as goal

pub overflow_sub-result : goal.overflow_sub-result
overflow_sub-result c = power_le _ 18 _ _ c.pow2.ensures.0 c.pow2-end.ensures.0 (omega arith)

pub overflow_sub-result-2 : goal.overflow_sub-result-2
overflow_sub-result-2 c = power_le _ 18 _ _ c.pow2-2.ensures.0 c.pow2-end.ensures.0 (omega arith)

pub returns : goal.returns
returns c = search (rules, annex-made)
