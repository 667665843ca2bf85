-- A mask of k ones keeps the remainder by 2 ^ k.
use native.Mathlib.Omega.{arith}
use lib.Bits.{and_mask, mask_lt}
use Rattle.slots.specs.Payload.{canonical_slot}
use Rattle.slots.proofs.Shift.{one_shl}
use Rattle.slots.proofs.canonical.Goals as goal

pub returns : goal.returns
unfolding canonical_slot
returns c = rw (one_shl 64 c.args.k (omega arith)) (and_mask c.args.hash c.args.k, mask_lt c.args.hash c.args.k)
