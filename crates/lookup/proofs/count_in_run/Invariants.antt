-- `lookup::count_in_run` meets its contract: what was counted, and the count of the entries that are still to come.
use Rattle.std.proofs.Common.{◌≡◌, ◌+◌, ◌≤◌, length}
use Rattle.lists.specs.Runs.{count}
use Rattle.layout.specs.Decode.{run_at}
use Rattle.lookup.proofs.count_in_run.Given as goal

abbrev pub invariant-loop-payload : goal.invariant-loop-payload
invariant-loop-payload l = record {
  counted : l.count + count l.x l.payload-iterator ≡ count l.x (run_at l.fn.ws l.fn.c);
  few : l.count + length l.payload-iterator ≤ length l.fn.ws;
}
