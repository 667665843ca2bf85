-- `removing::still_waiting` counts the runs that wait: the entry that leaves begins a run where its bit continuation is 0.
use native.Mathlib.Omega.{arith}
use Rattle.removing.proofs.Closers.{start-bit}
use Rattle.removing.proofs.still_waiting.Goals as goal

pub returns : goal.returns
returns c = (omega (arith, start-bit c.args.v), omega arith)
