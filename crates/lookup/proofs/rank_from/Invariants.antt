-- `lookup::rank_from` meets its contract: the entries that were read are smaller than x, by the laws of `Seeking`.
use Rattle.std.proofs.Common.{◌≡◌, leb, drop}
use Rattle.layout.specs.Reading.{run_from}
use Rattle.layout.proofs.Searches.{Seeking}
use Rattle.lookup.proofs.rank_from.Given as goal

abbrev pub invariant-loop-payload : goal.invariant-loop-payload
invariant-loop-payload l =
    let run = run_from l.ws l.fn.run.home l.fn.run.from in
    record { passed : Seeking (leb l.x) run l.rank; rest : l.payload-iterator ≡ drop l.rank run }
