-- F and the extra bits of the next generation, and one more.
use native.Mathlib.Omega.{arith}
use Rattle.keeps.proofs.Bounds.{bounds}
use Rattle.filter.specs.Plain.{plain}
use Rattle.filter.proofs.Doubles.{next-width-is}
use Rattle.filter.proofs.Record.next_width.Goals as goal

pub overflow_sub-self : goal.overflow_sub-self
overflow_sub-self c = let b = bounds (plain c.args.self) c.requires.0 in omega (arith, b.start_k)

pub extra_bits-requires : goal.extra_bits-requires
extra_bits-requires c = let b = bounds (plain c.args.self) c.requires.0 in omega (arith, b.start_k, b.settings.start_3, c.requires.1)

pub overflow_add-result : goal.overflow_add-result
overflow_add-result c = let b = bounds (plain c.args.self) c.requires.0 in omega (arith, b.settings.f_15, c.extra_bits.ensures.1)

pub overflow_add-result-2 : goal.overflow_add-result-2
overflow_add-result-2 c = let b = bounds (plain c.args.self) c.requires.0 in omega (arith, b.settings.f_15, c.extra_bits.ensures.1)

pub returns : goal.returns
returns c = next-width-is (plain c.args.self) _ c.extra_bits.ensures.0
