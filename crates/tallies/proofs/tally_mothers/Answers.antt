-- After i places the counters and what the other tables in use hold make the whole, for each address.
use native.Mathlib.Omega.{arith}
use borrow.Author.Rules.{rules}
use Rattle.tallies.proofs.InUse.{walk_start, walk-least, walk-below, walk-most, walk-power, walk-room, walk-size, walk-on}
use Rattle.tallies.proofs.Sums.{sums-start, sums-stop, sums-end, sums-small, sums-laid, sums_on}
use Rattle.tallies.proofs.tally_mothers.Goals as goal

pub loop-place-init : goal.loop-place-init
loop-place-init c = (search (rules, walk_start), search (rules, sums-start))

pub returns-then-place-eq0 : goal.returns-then-place-eq0
returns-then-place-eq0 c = search (rules, sums-stop)

pub table_words-requires : goal.table_words-requires
table_words-requires c = search (rules, walk-power)

pub slice_bounds-tally_table-end : goal.slice_bounds-tally_table-end
slice_bounds-tally_table-end c = search (rules, walk-room)

pub tally_table-requires : goal.tally_table-requires
tally_table-requires c = (
  search (rules, walk-least),
  search (rules, walk-below),
  search (rules, walk-most),
  search (rules, walk-size),
  search (rules, sums-laid),
  search rules,
  search rules,
  c.loop-place.invariant.1.size,
  search (rules, sums-small),
)

pub loop-place-preserved : goal.loop-place-preserved
loop-place-preserved c = (search (rules, walk-on), search (rules, sums_on))

pub returns : goal.returns
returns c = sums-end _ _ _ _ _ _ _ c.loop-place.invariant.1 (omega arith)
