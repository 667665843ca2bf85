-- `settle_word` meets its contract by the laws on one queue word, with and without a match.
use Rattle.std.proofs.Common.{◌<◌, rules}
use Rattle.annex.proofs.Search.{inside-15}
use Rattle.settling.proofs.Words.{placed, holds-none, in_use, short, found_at, fewer, holds-found}
use Rattle.settling.proofs.settle_word.Goals as goal

pub longest_place-requires : goal.longest_place-requires
longest_place-requires c = placed _ _ _ _ _ _ c.requires

pub returns-in-None : goal.returns-in-None
returns-in-None c = holds-none _ _ _ _ _ _ c.requires _ c.in-None.ensures

pub bounds-places-i : goal.bounds-places-i
bounds-places-i c = inside-15 _ _ (search rules) (in_use _ _ _ _ _ _ c.requires _ _ c.in-Some.ensures)

pub offset_bounds-places-i : goal.offset_bounds-places-i
offset_bounds-places-i c =
    let low : c.in-Some.i < 15 = inside-15 _ _ (search rules) (in_use _ _ _ _ _ _ c.requires _ _ c.in-Some.ensures) in search rules

pub take_voids-requires : goal.take_voids-requires
take_voids-requires c =
    let g = c.requires in
    (g.k_3, g.k_20, g.w_1, g.w_26, short _ _ _ _ _ _ g _ _ c.in-Some.ensures, g.main_long)

pub take_hash-requires : goal.take_hash-requires
take_hash-requires c = found_at _ _ _ _ _ _ c.requires _ _ c.in-Some.ensures

pub overflow_sub-result : goal.overflow_sub-result
overflow_sub-result c = fewer _ _ _ _ _ _ c.requires _ _ c.in-Some.ensures _ _ c.take_voids.ensures

pub returns-in-Some : goal.returns-in-Some
returns-in-Some c = holds-found _ _ _ _ _ _ c.requires _ _ c.in-Some.ensures _ _ c.take_voids.ensures _ _ c.take_hash.ensures
