-- The search finds the first size that is large enough, which is what the definition tries.
use Rattle.std.proofs.Common.{◌≤◌, ◌<◌, rules}
use Rattle.std.proofs.lemmas.Iterator.{first_from_Range}
use Rattle.slots.specs.Numbers.{limit}
use Rattle.doubling.proofs.Loops.{size-found}
use Rattle.doubling.proofs.size_for.Goals as goal

pub returns : goal.returns
returns c =
    let n = c.args.n in
    rw c.unwrap_or.ensures
    (size-found n c.find.result
    (first_from_Range _ _ _ _ (λ s. n ≤ limit s) (λ s. limit s < n) c.find.ensures.ran (λ x q k. search rules) (λ x q k. search rules)))
