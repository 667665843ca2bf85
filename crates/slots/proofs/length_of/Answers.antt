-- A payload below the tombstone has a bit left, so that the length is one less than what is left.
use mathlib.Core.Path.{ap}
use Prim.Native.Nat.{◌-◌}
use native.Mathlib.Omega.{arith}
use Rattle.slots.specs.Payload.{length_of}
use Rattle.slots.proofs.PayloadLaws.{pay-bits, below-tombstone}
use Rattle.slots.proofs.length_of.Goals as goal

pub rest_of-requires : goal.rest_of-requires
rest_of-requires c = (omega arith, below-tombstone c.args.w c.args.payload c.requires.1)

pub overflow_sub-result : goal.overflow_sub-result
overflow_sub-result c =
    let d = pay-bits c.args.w c.args.payload c.requires.1 in
    omega (arith, c.rest_of.ensures, d.3)

pub returns : goal.returns
unfolding length_of
returns c = ap (λ x. x - 1) c.rest_of.ensures
