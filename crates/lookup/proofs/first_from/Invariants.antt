-- `lookup::first_from` meets its contract: the loop carries the slot and the payload of the next entry, by the laws of `Scanning`.
use Rattle.std.proofs.Common.{◌<◌}
use Rattle.slots.specs.Payload.{matches}
use Rattle.lookup.proofs.Scans.{Scanning}
use Rattle.lookup.proofs.first_from.Given as goal

abbrev pub invariant-loop : goal.invariant-loop
invariant-loop g l =
    let ws = g.W.Words.words l.table in
    record { inside : l.slot < l.n; scan : Scanning (matches l.w l.k l.hash) ws l.fn.run.home l.fn.run.from l.n l.counter l.slot l.payload }
