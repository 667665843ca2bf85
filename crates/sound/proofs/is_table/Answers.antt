-- From an empty slot by the law of the lap; without one the table is not right.
use Rattle.std.proofs.lemmas.Option.{slice_get_within, get_or_from_slice_get}
use Rattle.sound.proofs.Tables.{found, not_found}
use borrow.Author.Rules.{rules}
use Rattle.sound.proofs.is_table.Goals as goal

pub returns-in-Some : goal.returns-in-Some
returns-in-Some c =
    let e = c.in-Some.ensures.some in
    let words = c.args.words.now in
    let z = c.in-Some.z in
    found _ _ _ _ (slice_get_within words z 0 e) (search rules) _ (get_or_from_slice_get words z 0 0 e) c.lap_from.ensures

pub returns-in-None : goal.returns-in-None
returns-in-None c = not_found _ _ _ (search rules) c.in-None.ensures.none
