-- `take_hash` meets its contract: one entry goes from the words of the table at place i, which are lent as a part, and its count is one less.
use mathlib.Core.Path.{refl}
use native.Mathlib.Omega.{arith}
use Rattle.directory.proofs.Laws.{right-sizes}
use Rattle.annex.proofs.Search.{inside-15, place-right, table-ends, table-long}
use Rattle.annex.proofs.Take.{some, gone}
use Rattle.annex.proofs.Entry.{size-20, size-8}
use borrow.Author.Rules.{rules}
use Rattle.annex.proofs.take_hash.Goals as goal

pub words_taken-at-requires : goal.words_taken-at-requires
words_taken-at-requires c = let h = c.requires.inside in (search rules, right-sizes 20 _ (omega arith) c.requires.placed.directory)

pub offset_bounds-places-i : goal.offset_bounds-places-i
offset_bounds-places-i c = let h = inside-15 _ _ (search rules) c.requires.inside in search rules

pub bounds-places-i : goal.bounds-places-i
bounds-places-i c = inside-15 _ _ (search rules) c.requires.inside

pub table_words-requires : goal.table_words-requires
table_words-requires c = right-sizes 20 _ (omega arith) c.requires.placed.directory _

pub hash_slot-slot-requires : goal.hash_slot-slot-requires
hash_slot-slot-requires c = right-sizes 20 _ (omega arith) c.requires.placed.directory _

pub hash_entry-entry-requires : goal.hash_entry-entry-requires
hash_entry-entry-requires c = let r = place-right _ _ c.requires.placed _ c.requires.inside in (r.s_high, omega (arith, r.s_low, r.b_high), r.b_high)

pub slice_bounds-remove-end : goal.slice_bounds-remove-end
slice_bounds-remove-end c =
    table-ends _ _ c.requires.placed _ _ _ c.requires.inside c.words_taken-at.ensures.0 c.table_words.ensures.0

pub remove-requires : goal.remove-requires
remove-requires c =
    let l = table-long _ _ c.requires.placed _ _ _ c.requires.inside c.words_taken-at.ensures.0 c.table_words.ensures.0 _ refl in
    let r = place-right _ _ c.requires.placed _ c.requires.inside in
    let a = size-20 _ (right-sizes 20 _ (omega arith) c.requires.placed.directory c.args.i) in
    let b = size-8 _ r.s_low in
    omega (arith, l, c.hash_slot-slot.ensures.1)

pub overflow_sub-place : goal.overflow_sub-place
overflow_sub-place c = omega (arith, some _ _ _ _ c.requires)

pub with_count-requires : goal.with_count-requires
with_count-requires c = inside-15 _ _ (search rules) c.requires.inside

pub returns : goal.returns
returns c =
    gone _ _ _ _ c.requires _ _ _ c.words_taken-at.ensures.0 c.table_words.ensures.0 refl _ _ c.hash_slot-slot.ensures.0 c.hash_entry-entry.ensures _ _
    c.remove.ensures.1 _ c.with_count.ensures
