-- `places_in_use` counts the places before the first that is not in use.
use Rattle.std.proofs.Common.{◌≡◌, ◌∙◌, ap, length, take_while, refl, arith, rules}
use Rattle.std.proofs.lemmas.Iterator.{YieldsList-from_slice}
use Rattle.std.proofs.lemmas.Iterator.Consumers.{count_from_yields_List}
use Rattle.std.proofs.lemmas.Iterator.Search.{YieldsList-from_take_while}
use borrow.Author.Tests.{tests}
use Rattle.directory.specs.Places.{places_in_use, taken}
use Rattle.directory.proofs.Front.{front-while}
use Rattle.directory.proofs.Laws.{in-use-length}
use Rattle.directory.proofs.places_in_use.Goals as goal

pub returns : goal.returns
returns c =
    let ps = c.args.places in
    let counted : c.count.result ≡ length (take_while taken ps) =
    count_from_yields_List _ _ c.count.ensures.ran
    (YieldsList-from_take_while _ taken (YieldsList-from_slice ps (cc)) refl (cc) (λ x b q k. search (rules, tests))) in
    let known : c.count.result ≡ length (places_in_use ps) = counted ∙ ap length (front-while taken ps) in
    let most : length ps ≡ 15 = search rules in
    (known, omega (arith, in-use-length ps most))
