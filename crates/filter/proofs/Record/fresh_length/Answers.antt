-- F and the extra bits of the generation, which the bounds of a record in range keep small.
use native.Mathlib.Omega.{arith}
use Rattle.keeps.proofs.Bounds.{bounds}
use Rattle.filter.specs.Plain.{plain}
use Rattle.filter.proofs.Records.{fresh-is}
use Rattle.filter.proofs.Record.fresh_length.Goals as goal

pub overflow_sub-self : goal.overflow_sub-self
overflow_sub-self c = let b = bounds (plain c.args.self) c.requires in omega (arith, b.start_k)

pub extra_bits-requires : goal.extra_bits-requires
extra_bits-requires c = let b = bounds (plain c.args.self) c.requires in omega (arith, b.generation)

pub overflow_add-result : goal.overflow_add-result
overflow_add-result c = let b = bounds (plain c.args.self) c.requires in omega (arith, b.settings.f_15, c.extra_bits.ensures.1)

pub returns : goal.returns
returns c =
    let a = c.args in
    let extra-bits = c.extra_bits.ensures in
    let b = bounds (plain a.self) c.requires in
    let e = fresh-is (plain a.self) _ extra-bits.0 in
    (e, (omega (arith, e, b.fresh_3), omega (arith, b.settings.f_15, extra-bits.1)))
