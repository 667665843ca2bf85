-- One less than the power, as the definition says.
use borrow.Author.Rules.{rules}
use Rattle.slots.specs.Payload.{tombstone}
use Rattle.slots.proofs.tombstone_of.Goals as goal

pub returns : goal.returns
unfolding tombstone
returns c = search rules
