-- The difference of the two powers is the limit's definition, and the smaller power is the smaller number.
use Prim.Native.Nat.{◌-◌}
use native.Mathlib.Omega.{arith}
use lib.Pow.{pow_mono}
use borrow.Author.Rules.{rules}
use Rattle.slots.specs.Numbers.{limit}
use Rattle.slots.proofs.limit_of.Goals as goal

pub overflow_sub-result : goal.overflow_sub-result
overflow_sub-result c =
    let n = c.args.n in
    omega (arith, pow_mono {i = n - 3} {j = n} (omega arith))

pub returns : goal.returns
unfolding limit
returns c = search rules
