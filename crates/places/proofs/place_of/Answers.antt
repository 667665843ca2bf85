-- `place_of` looks for the length among the places in use.
use Rattle.std.proofs.Common.{◌≡◌, ◌∙◌, ap, take, position, rules}
use Rattle.std.proofs.lemmas.Iterator.{YieldsList-from_slice}
use Rattle.std.proofs.lemmas.Iterator.Search.{position_from_yields_List}
use borrow.Author.Tests.{tests}
use Rattle.places.proofs.Loops.{has_length, in-use}
use Rattle.places.proofs.place_of.Goals as goal

pub returns : goal.returns
returns c =
    let ps = take c.places_in_use-n.result c.args.places in
    let found : c.position.result ≡ position (has_length c.args.b) ps =
    position_from_yields_List (has_length c.args.b) _ _ _ c.position.ensures.ran (YieldsList-from_slice ps (cc)) (λ x b q k. search (rules, tests)) in
    found ∙ ap (position (has_length c.args.b)) (in-use _ _ c.places_in_use-n.ensures.0)
