-- A shift divides by 2 ^ k, and the remainder by 2 ^ l fits the word.
use mathlib.Core.Path.{refl}
use native.Mathlib.Omega.{arith}
use Rattle.slots.specs.Payload.{hash_bits}
use Rattle.slots.proofs.PayloadLaws.{hash-bits-lt}
use Rattle.slots.proofs.Shift.{one_shl}
use Rattle.slots.proofs.hash_bits.Goals as goal

pub returns : goal.returns
unfolding hash_bits
returns c = rw (one_shl 64 c.args.l (omega arith)) (refl, hash-bits-lt c.args.hash c.args.k c.args.l)
