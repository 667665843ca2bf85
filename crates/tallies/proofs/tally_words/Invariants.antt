-- After the words passed the counters have risen by what they say.
use lib.ListN.{take}
use Rattle.tallies.specs.Namings.{Named}
use Rattle.tallies.proofs.tally_words.Given as goal

abbrev pub invariant-loop-word : goal.invariant-loop-word
invariant-loop-word l = Named l.base (take l.word-index l.words) l.initial.counters l.counters
