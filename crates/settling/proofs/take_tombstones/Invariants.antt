-- `take_tombstones` goes over the queue words: at each a tombstone is gone for each even word before.
use Rattle.settling.proofs.Tombstones.{Clearing}
use Rattle.settling.proofs.take_tombstones.Given as goal

abbrev pub invariant-loop-word : goal.invariant-loop-word
invariant-loop-word l = Clearing l.w l.queue l.initial.main l.main l.gone l.word-index
