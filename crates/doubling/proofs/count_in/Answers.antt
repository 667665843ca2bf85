-- The entries that become void are those that the definition takes.
use Rattle.std.proofs.Common.{◌≡◌, ℕ, List, ◌^◌, length, get_or, rules, tests, ap, ◌∙◌, inl, arith}
use lib.Dec.{eqb}
use Rattle.std.proofs.lemmas.Iterator.Consumers.{YieldsList-from_first, YieldsList-from_filter, YieldsList-at, count_from_yields_List}
use Rattle.std.proofs.lemmas.Iterator.Adapters.{serves_from_places}
use Rattle.std.proofs.lemmas.List.{get_or_default}
use Rattle.std.specs.Prelude.{filter}
use Rattle.slots.specs.Payload.{rest_of}
use Rattle.layout.specs.Decode.{run_at}
use Rattle.doubling.proofs.Loops.{hashes-counted, filter-few}
use Rattle.doubling.proofs.count_in.Goals as goal
use Rattle.doubling.proofs.count_in.Goals.{After-count}

pub count-requires-clause-can : goal.count-requires-clause-can
count-requires-clause-can c =
    let run = run_at c.args.main.now c.args.c in
    let g = c.requires in (
      tt,
      tt,
      serves_from_places (YieldsList-from_first (λ (p : ℕ). p) (λ rest. rest) run cc) (λ x q r. search rules)
          (λ x k h e y ye l _ _ _ _ _ _.
          let pw : c.filter.result.p.0.now ≡ c.args.w = ap (λ (f : _). f.0.now) c.filter.ensures.closure in
          let px : y.now ≡ get_or run k 0 = ye ∙ e ∙ get_or_default run k x 0 h in
          (omega arith, omega (arith, ap (λ (j : ℕ). 2 ^ j) pw, g.3 c.args.c k g.0))),
    )

pub count-requires-clause-fits : goal.count-requires-clause-fits
count-requires-clause-fits c = inl (omega (arith, ap length c.filter.ensures.source))

counted : (c : After-count) → c.count.result ≡ length (filter (λ p. eqb (rest_of c.args.w p) 2) (run_at c.args.main.now c.args.c))
counted c =
    let run = YieldsList-from_first (λ (p : ℕ). p) (λ (rest : List ℕ). rest) (run_at c.args.main.now c.args.c) c.entries_of.ensures.0 in
    let road = YieldsList-at c.filter.ensures.source run in
    count_from_yields_List c.filter.result c.count.result c.count.ensures.ran
    (YieldsList-from_filter _ (λ p. eqb (rest_of c.args.w p) 2) road c.filter.ensures.closure (λ x r q k. search (rules, tests)))

pub overflow_cast-result : goal.overflow_cast-result
overflow_cast-result c =
    let run = run_at c.args.main.now c.args.c in
    omega (arith, counted c, filter-few (λ p. eqb (rest_of c.args.w p) 2) run, ap length c.entries_of.ensures.0)

pub returns : goal.returns
returns c = λ k. counted c ∙ hashes-counted c.args.w k c.args.c (run_at c.args.main.now c.args.c)
