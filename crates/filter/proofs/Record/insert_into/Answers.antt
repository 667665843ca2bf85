-- On a sound state main is the layout of what it decodes to, and the table's insert adds the fresh entry to its run.
use mathlib.Core.Path.{refl}
use native.Mathlib.Omega.{arith}
use Rattle.std.proofs.lemmas.Result.{err_from_is_err_and}
use Rattle.rules.specs.Record.{change}
use Rattle.filter.specs.Plain.{plain}
use Rattle.filter.proofs.Refused.{not-0}
use Rattle.filter.proofs.Quicks.{right, bounds_of, walk-home, insert-refused, insert-full, insert-fits, insert-done}
use Rattle.filter.proofs.Record.insert_into.Goals as goal

pub returns-in_err-first_refusal : goal.returns-in_err-first_refusal
returns-in_err-first_refusal c =
    let p = err_from_is_err_and c.from_residual.result c.from_residual.ensures.1 in
    rw (p.1, p.2) (insert-refused (plain c.args.self.now) _ _ _ _ _ c.in_err-first_refusal.ensures (not-0 _))

pub limit_of-requires : goal.limit_of-requires
limit_of-requires c =
    let b = bounds_of (plain c.args.self.now) _ _ _ c.in_ok-first_refusal.ensures in (b.k_3, omega (arith, b.k_20))

pub returns-then-self-limit_of : goal.returns-then-self-limit_of
returns-then-self-limit_of c = insert-full (plain c.args.self.now) _ _ _ _ _ c.in_ok-first_refusal.ensures c.limit_of.ensures.0 c.if-self-limit_of.true

pub home-requires : goal.home-requires
home-requires c = right (plain c.args.self.now) _ _ _ c.in_ok-first_refusal.ensures

pub fresh_entry-requires : goal.fresh_entry-requires
fresh_entry-requires c = right (plain c.args.self.now) _ _ _ c.in_ok-first_refusal.ensures

pub insert-requires : goal.insert-requires
insert-requires c =
    let a = c.args in
    let v = walk-home (plain a.self.now) a.main.now a.queue.now a.annex.now c.in_ok-first_refusal.ensures a.hash _ _ c.home.ensures refl in
    (v.inside, v.most, v.more, c.fresh_entry.ensures.1)

pub overflow_add-self : goal.overflow_add-self
overflow_add-self c =
    let b = insert-fits (plain c.args.self.now) _ _ _ _ c.in_ok-first_refusal.ensures c.limit_of.ensures.0 c.if-self-limit_of.false in omega (arith, b.1)

pub returns : goal.returns
unfolding change
returns c =
    let a = c.args in
    insert-done (plain a.self.now) a.main.now a.queue.now a.annex.now a.hash _ _ _ _ c.in_ok-first_refusal.ensures c.limit_of.ensures.0
    c.if-self-limit_of.false c.home.ensures c.fresh_entry.ensures.0 c.insert.ensures
