-- Where both tests hold it is the directory's part, and else an empty one; both lie in the annex itself.
use mathlib.Core.Path.{◌∙◌}
use native.Mathlib.Omega.{arith}
use Rattle.lists.proofs.Tests.{true-test}
use Rattle.directory.proofs.Laws.{right-sizes}
use Rattle.keeps.proofs.Bounds.{bounds}
use Rattle.filter.specs.Plain.{plain}
use Rattle.filter.proofs.Records.{directory-of}
use Rattle.filter.proofs.Refused.{not-true}
use Rattle.filter.proofs.Parts.{part-there, part-short, part_none}
use Rattle.filter.proofs.Record.part.Goals as goal
use Rattle.filter.proofs.Record.part.Goals.{in_default-via-in-Some+else-taken-annex, in_default-via-in_default}

pub part-requires : goal.part-requires
part-requires c =
    let r = plain c.args.self in
    let s = c.in-Some.ensures in
    let t = true-test _ s.0 in
    (omega arith, right-sizes r.k r.dir (bounds r t).k_20 (directory-of r t))

pub returns-in-Some-clause-words : goal.returns-in-Some-clause-words
returns-in-Some-clause-words c =
    let s = c.in-Some.ensures in
    c.part.ensures.words ∙ part-there (plain c.args.self) _ _ s.0 (omega arith)

pub returns-in_default-clause-words : goal.returns-in_default-clause-words
returns-in_default-clause-words c =
    elim c.in_default.branch [
      | in_default-via-in-Some+else-taken-annex w ↦
          let s = w.in-Some.ensures in
          part-short (plain c.args.self) _ _ s.0 (omega (arith, s.1, w.if-taken-annex.false))
      | in_default-via-in_default w ↦ part_none (plain c.args.self) _ _ (not-true _ w.in_default.ensures)
    ]
