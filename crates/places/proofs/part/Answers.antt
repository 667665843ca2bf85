-- `part` meets its contract: the words of the tables before place i are skipped, and that of place i ends within the words of all tables.
use Rattle.std.proofs.Common.{◌<◌, rules}
use Rattle.places.proofs.Loops.{part-nothing, place-low, part-ends, part-found, part_lies}
use Rattle.places.proofs.part.Goals as goal

pub returns-in-None-clause-words : goal.returns-in-None-clause-words
returns-in-None-clause-words c = part-nothing _ _ _ c.in-None.ensures

pub bounds-places-i : goal.bounds-places-i
bounds-places-i c = place-low _ _ _ c.in-Some.ensures (search rules)

pub offset_bounds-places-i : goal.offset_bounds-places-i
offset_bounds-places-i c = let low : c.in-Some.i < 15 = place-low _ _ _ c.in-Some.ensures (search rules) in search rules

pub slice_bounds-result-end : goal.slice_bounds-result-end
slice_bounds-result-end c = part-ends _ _ _ c.in-Some.ensures _ _ _ c.words_taken-at.ensures.0 c.table_words.ensures.0 c.requires.0

pub returns-in-Some-clause-words : goal.returns-in-Some-clause-words
returns-in-Some-clause-words c = part-found _ _ _ c.in-Some.ensures _ _ _ c.words_taken-at.ensures.0 c.table_words.ensures.0

pub returns-in-Some-clause-there : goal.returns-in-Some-clause-there
returns-in-Some-clause-there c = part_lies _ _ _ c.in-Some.ensures c.args.annex.now _ _ c.words_taken-at.ensures.0 c.table_words.ensures.0 _ _
