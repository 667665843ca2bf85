-- `table::exchange` removes and then inserts at one address: the entry that goes leaves the room that the other needs.
use mathlib.Core.List.{[]}
use mathlib.Core.Path.{sym, ap, ◌∙◌}
use Prim.Native.Nat.{◌<◌}
use native.Mathlib.Omega.{arith}
use lib.ListN.{length, get_or}
use Rattle.lists.specs.Runs.{erase}
use Rattle.layout.proofs.Puts.{layout-length}
use Rattle.layout.proofs.Searches.{clash}
use Rattle.layout.proofs.Keeps.{exchange-fits, exchanged}
use Rattle.table.proofs.exchange.Goals as goal

pub returns-then-gone : goal.returns-then-gone
returns-then-gone c =
    let a = c.args in (
      λ e. absurd (clash (sym c.if-gone.true ∙ e)),
      λ runs el h r.
          let d = c.remove-gone.ensures.1 runs el h r in
          let hc : a.c < length runs = omega (arith, ap length el, layout-length runs) in
          (d.0, λ t. c.insert.ensures _ d.1 (exchange-fits runs a.c a.x hc h (sym d.0 ∙ t)) ∙ exchanged runs a.c a.y (erase a.x (get_or runs a.c [])) hc),
    )
