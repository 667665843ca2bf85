-- After i places, the tables that are left are right exactly if all are.
use mathlib.Core.Path.{refl}
use native.Mathlib.Omega.{arith}
use borrow.Author.Rules.{rules}
use Rattle.tallies.proofs.InUse.{walk_start, walk-least, walk-below, walk-most, walk-power, walk-room, walk-size, walk-few, walk-on}
use Rattle.audit.proofs.Wholes.{annex-stop, annex-end, annex-on, annex-off}
use Rattle.audit.proofs.annex_right.Goals as goal

pub loop-place-init : goal.loop-place-init
loop-place-init c = (search (rules, walk_start), refl)

pub returns-then-place-eq0 : goal.returns-then-place-eq0
returns-then-place-eq0 c = search (rules, annex-stop)

pub table_words-requires : goal.table_words-requires
table_words-requires c = search (rules, walk-power)

pub slice_bounds-table_right-end : goal.slice_bounds-table_right-end
slice_bounds-table_right-end c = search (rules, walk-room)

pub table_right-requires : goal.table_right-requires
table_right-requires c = (
  search (rules, walk-least),
  search (rules, walk-below),
  search (rules, walk-most),
  search (rules, walk-size),
  walk-few _ _ _ (omega arith) refl c.if-place-eq0.false _ _ c.loop-place.invariant.0 _ c.table_words.ensures.0,
)

pub loop-place-preserved : goal.loop-place-preserved
loop-place-preserved c = (search (rules, walk-on), search (rules, annex-on))

pub returns-then-not-table_right : goal.returns-then-not-table_right
returns-then-not-table_right c = search (rules, annex-off)

pub returns : goal.returns
returns c = annex-end _ _ _ _ _ c.loop-place.invariant.0 c.loop-place.invariant.1 (omega arith)
