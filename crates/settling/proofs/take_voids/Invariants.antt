-- `take_voids` visits the addresses with the low b bits of c in steps of 2^b: at d the voids of those below d are gone.
use Rattle.settling.proofs.Voids.{Walking}
use Rattle.settling.proofs.take_voids.Given as goal

abbrev pub invariant-loop-d : goal.invariant-loop-d
invariant-loop-d l = Walking l.k l.w l.c l.b l.initial.main l.main l.gone l.d
