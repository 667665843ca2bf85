-- The payload of length 0, as the definition says.
use borrow.Author.Rules.{rules}
use Rattle.slots.specs.Payload.{void}
use Rattle.slots.proofs.void_of.Goals as goal

pub returns : goal.returns
unfolding void
returns c = search rules
