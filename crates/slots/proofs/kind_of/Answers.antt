-- Each arm of the match answers as the list of the eight cases does.
use borrow.Author.Rules.{rules}
use Rattle.slots.proofs.Arms.{empty, home, never-allowed, moved, continuation}
use Rattle.slots.proofs.kind_of.Goals as goal

pub returns-in-0 : goal.returns-in-0
returns-in-0 c = search (rules, empty)

pub returns-in-1 : goal.returns-in-1
returns-in-1 c = search (rules, home)

pub returns-in-2-to-3 : goal.returns-in-2-to-3
returns-in-2-to-3 c = search (rules, never-allowed)

pub returns-in-4-to-5 : goal.returns-in-4-to-5
returns-in-4-to-5 c = search (rules, moved)

pub returns-in_default : goal.returns-in_default
returns-in_default c = search (rules, continuation)
