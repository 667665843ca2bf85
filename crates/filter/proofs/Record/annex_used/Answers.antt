-- The words of the places in use, one table after the other.
use native.Mathlib.Omega.{arith}
use Rattle.directory.proofs.Laws.{right-sizes, words-all}
use Rattle.keeps.proofs.Bounds.{bounds}
use Rattle.filter.specs.Plain.{plain}
use Rattle.filter.proofs.Records.{directory-of}
use borrow.Author.Rules.{rules}
use Rattle.filter.proofs.Record.annex_used.Goals as goal

pub words_taken-requires : goal.words_taken-requires
words_taken-requires c =
    let a = c.args in
    (search rules, right-sizes a.self.k a.self.dir (bounds (plain a.self) c.requires).k_20 (directory-of (plain a.self) c.requires))

pub returns : goal.returns
returns c = let e = words-all _ _ _ c.places_in_use.ensures.0 c.words_taken.ensures.0 in
    (e, omega (arith, e, (bounds (plain c.args.self) c.requires).annex_small))
