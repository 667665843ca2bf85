-- `Entries::next` meets its contract: by the laws of what is still to come.
use Rattle.std.proofs.Common.{Bool, length, drop, ◌∙◌, sym, ap, arith}
use Rattle.std.proofs.lemmas.Grind.{common_steps}
use Rattle.layout.specs.Moves.{rights}
use Rattle.lookup.specs.Rest.{rest_of}
use Rattle.lookup.proofs.Rests.{has-ended, goes-on, begins-here, all-passed}
use Rattle.lookup.proofs.runs.EntriesIterator.next.Goals as goal
use Rattle.lookup.proofs.runs.EntriesIterator.next.Goals.{else-self-via-then-self+else-word-eq0, else-self-via-else-self}

pub returns-then-self-n-clause-steps : goal.returns-then-self-n-clause-steps
returns-then-self-n-clause-steps g c =
    let s = c.self.inside in
    let none = sym c.self.view_is ∙ all-passed s.begun (g.W.Words.words s.table) s.home s.place (omega arith) in
    (none, none)

pub returns-then-word-eq0-clause-steps : goal.returns-then-word-eq0-clause-steps
returns-then-word-eq0-clause-steps g c =
    let s = c.self.inside in
    let ws = g.W.Words.words s.table in
    let rest = drop s.place (rights ws s.home) in
    let none =
    sym c.self.view_is ∙ ap (λ (b : Bool). rest_of b rest) c.if-self.true
    ∙ has-ended ws s.home s.place c.size-n.result _ _ (omega arith) (sym c.size-n.ensures) (omega arith)
    c.around.ensures.0 c.word-word.ensures c.if-word-eq0.true in
    (none, none)

pub returns-clause-steps : goal.returns-clause-steps
returns-clause-steps g c =
    let s = c.self.inside in
    let ws = g.W.Words.words s.table in
    let rest = drop s.place (rights ws s.home) in
    elim c.else-self.branch [
      | else-self-via-then-self+else-word-eq0 w ↦
          sym c.self.view_is ∙ ap (λ (b : Bool). rest_of b rest) w.if-self.true
          ∙ goes-on ws s.home s.place c.size-n.result _ _ (omega arith) (sym c.size-n.ensures) (omega arith)
          c.around.ensures.0 c.word-word.ensures w.if-word-eq0.false
      | else-self-via-else-self w ↦
          sym c.self.view_is ∙ ap (λ (b : Bool). rest_of b rest) w.if-self.false
          ∙ begins-here ws s.home s.place c.size-n.result _ _ (omega arith) (sym c.size-n.ensures) (omega arith) c.around.ensures.0 c.word-word.ensures
    ]

pub returns-clause-goes : goal.returns-clause-goes
returns-clause-goes g c = let more = ap length (returns-clause-steps g c) in grind (arith, common_steps)
