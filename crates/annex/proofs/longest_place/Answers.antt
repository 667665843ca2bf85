-- `longest_place` meets its contract: from the last table down, no table that was passed has a match, and `end` is where the words of the tables left end.
use native.Mathlib.Omega.{arith}
use borrow.Author.Rules.{rules}
use Rattle.directory.proofs.Laws.{right-sizes}
use Rattle.annex.proofs.Search.{search-start, last-right, fewer, last-ends, last-long, search-found, search-again}
use Rattle.annex.proofs.longest_place.Goals as goal

pub words_taken-end-requires : goal.words_taken-end-requires
words_taken-end-requires c = (search rules, right-sizes 20 _ (omega arith) c.requires.directory)

pub loop-i-init : goal.loop-i-init
loop-i-init c = search-start _ _ c.requires _ _ _ c.places_in_use-n.ensures.0 c.words_taken-end.ensures.0

pub table_words-requires : goal.table_words-requires
table_words-requires c = right-sizes 20 _ (omega arith) c.requires.directory _

pub overflow_sub-at : goal.overflow_sub-at
overflow_sub-at c = omega (arith, fewer _ _ c.requires _ _ _ _ c.loop-i.invariant c.loop-i-test.true c.table_words.ensures.0)

pub offset_bounds-annex-at : goal.offset_bounds-annex-at
offset_bounds-annex-at c = let h = last-ends _ _ c.requires _ _ _ _ c.loop-i.invariant c.loop-i-test.true c.table_words.ensures.0 in search rules

pub slice_bounds-matching-end : goal.slice_bounds-matching-end
slice_bounds-matching-end c = last-ends _ _ c.requires _ _ _ _ c.loop-i.invariant c.loop-i-test.true c.table_words.ensures.0

pub matching-requires : goal.matching-requires
matching-requires c =
    let r = last-right _ _ c.requires _ _ _ _ c.loop-i.invariant c.loop-i-test.true c.table_words.ensures.0 in
    (r.s_low, r.s_high, r.b_high, last-long _ _ c.requires _ _ _ _ c.loop-i.invariant c.loop-i-test.true c.table_words.ensures.0)

pub returns-then-matching-gt0 : goal.returns-then-matching-gt0
returns-then-matching-gt0 c =
    search-found _ _ c.requires _ _ _ _ c.loop-i.invariant c.loop-i-test.true c.table_words.ensures.0 _ c.matching.ensures c.if-matching-gt0.true

pub loop-i-preserved : goal.loop-i-preserved
loop-i-preserved c =
    search-again _ _ c.requires _ _ _ _ c.loop-i.invariant c.loop-i-test.true c.table_words.ensures.0 _ c.matching.ensures c.if-matching-gt0.false
