-- The shifted 1 does not leave the word, since n is at most 26.
use native.Mathlib.Omega.{arith}
use lib.Pow.{pow_pos, pow_mono}
use Rattle.slots.proofs.Shift.{one_shl}
use Rattle.slots.proofs.pow2.Goals as goal

pub returns : goal.returns
returns c =
    let n = c.args.n in
    let e = one_shl 32 n (omega arith) in
    (e, (omega (arith, e, pow_pos n), omega (arith, e, pow_mono {i = n} {j = 26} (omega arith))))
