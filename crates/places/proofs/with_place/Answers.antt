-- `with_place` meets its contract: the first place that is not in use is replaced, and those after it are zero.
use borrow.Author.Rules.{rules}
use Rattle.places.proofs.Loops.{add-table}
use Rattle.places.proofs.with_place.Goals as goal

pub returns : goal.returns
returns c = search (rules, add-table)
