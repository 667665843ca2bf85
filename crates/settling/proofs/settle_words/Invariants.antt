-- `settle_words` goes over the queue words: at each, main and annex hold what the words before leave.
use Rattle.std.proofs.Common.{take, drop}
use Rattle.directory.specs.Places.{places_in_use, words_taken}
use Rattle.rules.specs.Settling.{settle_all}
use Rattle.settling.specs.State.{held_in, Holding}
use Rattle.settling.proofs.settle_words.Given as goal

abbrev pub invariant-loop-word : goal.invariant-loop-word
invariant-loop-word l =
    Holding (settle_all l.w (take l.word-index l.queue) (held_in l.initial.main l.initial.annex l.initial.settled.places))
    (drop (words_taken (places_in_use l.initial.settled.places)) l.initial.annex) l.k l.w l.settled.used l.main l.annex l.settled.places
