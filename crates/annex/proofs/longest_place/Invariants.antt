-- `longest_place` meets its contract: from the last table down, no table that was passed has a match, and `end` is where the words of the tables left end.
use Rattle.annex.proofs.Search.{Searched}
use Rattle.annex.proofs.longest_place.Given as goal

abbrev pub invariant-loop-i : goal.invariant-loop-i
invariant-loop-i l = Searched l.places l.annex l.c l.i l.end
