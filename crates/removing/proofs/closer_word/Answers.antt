-- `removing::closer_word` is `closer` of the entry of v: at home where the bit continuation and m are both 0, and else away.
use mathlib.Core.Path.{◌∙◌}
use native.Mathlib.Omega.{arith}
use Rattle.removing.proofs.Closers.{closer-home, closer-away}
use Rattle.removing.proofs.closer_word.Goals as goal

pub returns-then-b-m-eq0 : goal.returns-then-b-m-eq0
returns-then-b-m-eq0 c = c.home_word.ensures ∙ closer-home _ _ _ c.if-b-m-eq0.true

pub returns : goal.returns
returns c = (omega arith) ∙ closer-away _ _ _ c.if-b-m-eq0.false
