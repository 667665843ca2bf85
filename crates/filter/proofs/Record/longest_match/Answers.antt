-- The walk finds the first match of the run on any memory, and in a rising run that is the longest.
use Rattle.std.proofs.lemmas.Result.{err_from_is_err_and}
use Rattle.filter.specs.Plain.{plain}
use Rattle.filter.proofs.Quicks.{right, walk-home, sought}
use Rattle.filter.proofs.Record.longest_match.Goals as goal

pub returns-in_err-first_refusal : goal.returns-in_err-first_refusal
returns-in_err-first_refusal c =
    let p = err_from_is_err_and c.from_residual.result c.from_residual.ensures.1 in rw (p.1, p.2) c.in_err-first_refusal.ensures

pub home-requires : goal.home-requires
home-requires c = right (plain c.args.self.now) _ _ _ c.in_ok-first_refusal.ensures

pub width-requires : goal.width-requires
width-requires c = right (plain c.args.self.now) _ _ _ c.in_ok-first_refusal.ensures

pub first_match-requires : goal.first_match-requires
first_match-requires c =
    let a = c.args in
    let v = walk-home (plain a.self.now) a.main.now a.queue.now a.annex.now c.in_ok-first_refusal.ensures a.hash _ _ c.home.ensures c.width.ensures.0 in
    (v.inside, v.most, v.more, v.wide, v.tall)

pub returns : goal.returns
returns c =
    let a = c.args in
    sought (plain a.self.now) a.main.now a.queue.now a.annex.now a.hash c.in_ok-first_refusal.ensures _ _ c.home.ensures c.width.ensures.0 _
    c.first_match.ensures
