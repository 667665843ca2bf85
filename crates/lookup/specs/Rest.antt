-- What is still to come of a run.
use Rattle.std.specs.Prelude.{Bool, true, false, List, ℕ}
use Rattle.layout.specs.Machine.{Entry}
use Rattle.layout.specs.Decode.{mores}
use Rattle.layout.specs.Reading.{here}

-- the payloads of the run that goes on with these entries, or begins with the first of them
abbrev pub rest_of : Bool → List Entry → List ℕ
rest_of true entries = mores entries
rest_of false entries = here entries
