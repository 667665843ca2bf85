-- The sum is the payload's definition, and stays below the power of the width.
use Prim.Native.Nat.{◌+◌}
use native.Mathlib.Omega.{arith}
use lib.Pow.{pow_mono}
use borrow.Author.Rules.{rules}
use Rattle.slots.specs.Payload.{pay}
use Rattle.slots.proofs.encode.Goals as goal

pub overflow_sub-result : goal.overflow_sub-result
overflow_sub-result c =
    let a = c.args in
    omega (arith, pow_mono {i = a.l + 1} {j = a.w} (omega arith))

pub returns : goal.returns
unfolding pay
returns c = search rules
