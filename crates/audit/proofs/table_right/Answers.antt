-- A right table of the spans is one of the test that they stand for.
use Rattle.tallies.proofs.Sums.{room-1, room-20}
use Rattle.audit.proofs.Wholes.{one_table}
use borrow.Author.Rules.{rules}
use Rattle.audit.proofs.table_right.Goals as goal

pub is_table-requires : goal.is_table-requires
is_table-requires c = (search rules, search (rules, room-1), search (rules, room-20))

pub returns : goal.returns
returns c = search (rules, one_table)
