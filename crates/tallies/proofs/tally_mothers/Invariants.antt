-- After i places the counters and what the other tables in use hold make the whole, for each address.
use Rattle.tallies.proofs.InUse.{Walk}
use Rattle.tallies.proofs.Sums.{Sums}
use Rattle.tallies.proofs.tally_mothers.Given as goal

abbrev pub invariant-loop-place : goal.invariant-loop-place
invariant-loop-place l = Walk l.place-items l.annex l.place-index l.at × Sums l.place-items l.annex l.base l.n l.place-index l.at l.mothers
