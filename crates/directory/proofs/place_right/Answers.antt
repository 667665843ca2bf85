-- `place_right` goes through the tests of one place in their order: each law says what the definition is where the test before it held.
use Rattle.std.proofs.Common.{arith}
use Rattle.directory.proofs.Loops.{right-1, right-2, right-3, right-4, right-5}
use Rattle.directory.proofs.place_right.Goals as goal

pub returns-then-place : goal.returns-then-place
returns-then-place c = grind (arith, right-5)

pub returns-else-place : goal.returns-else-place
returns-else-place c = grind (arith, right-1, right-2, right-3, right-4)
