-- After i places, the tables that are left are right exactly if all are.
use mathlib.Core.Path.{◌≡◌}
use lib.ListN.{drop}
use Rattle.directory.specs.Places.{places_in_use}
use Rattle.rules.specs.Sound.{annex_right}
use Rattle.tallies.proofs.InUse.{Walk}
use Rattle.audit.proofs.annex_right.Given as goal

abbrev pub invariant-loop-place : goal.invariant-loop-place
invariant-loop-place l =
    Walk l.place-items l.annex l.place-index l.at
    × (annex_right (places_in_use l.place-items) l.annex ≡ annex_right (places_in_use (drop l.place-index l.place-items)) (drop l.at l.annex))
