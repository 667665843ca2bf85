-- `matching` meets its contract: the run that is counted is the one that the words decode to.
use native.Mathlib.Omega.{arith}
use Rattle.annex.proofs.Entry.{size-20, size-8, matching-read}
use Rattle.annex.proofs.matching.Goals as goal

pub count_in_run-requires : goal.count_in_run-requires
count_in_run-requires c = omega (arith, size-20 c.args.s (omega arith), size-8 c.args.s (omega arith))

pub returns : goal.returns
returns c = matching-read _ _ _ _ _ _ _ c.hash_slot-slot.ensures.0 c.hash_entry-entry.ensures (omega arith) c.count_in_run.ensures
