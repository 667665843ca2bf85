-- The accepted state gives what each call requires, and what the calls ensure is put together by the two cases of the rules.
use mathlib.Core.Path.{◌≡◌, ap, ◌∙◌}
use Prim.Native.Nat.{◌+◌, ◌-◌, ◌^◌, ◌≤◌}
use native.Mathlib.Omega.{arith}
use lib.Pow.{pow_mono}
use lib.ListN.{length, take, drop}
use borrow.Author.Rules.{rules}
use Rattle.rules.specs.Doubling.{size_for}
use Rattle.doubling.proofs.Given.{facts}
use Rattle.doubling.proofs.Ruled.{part_length, done_none, done-some}
use Rattle.doubling.proofs.double.Goals as goal

pub write_second-used-requires : goal.write_second-used-requires
write_second-used-requires c =
    let a = c.args in
    let f = facts _ _ _ _ _ _ _ _ _ c.requires in
    (f.main_size, f.second_size, f.second_long, f.narrow, f.w_1, f.w_v, f.v_26, f.rises, f.few)

pub returns-then-n-eq0 : goal.returns-then-n-eq0
returns-then-n-eq0 c =
    let a = c.args in
    let second = c.write_second-used.ensures in
    λ r queue e. done_none r a.main.now queue a.annex.now a.k a.w a.v a.taken a.n a.places e _ _ second.0 second.1 c.if-n-eq0.true

pub table_words-requires : goal.table_words-requires
table_words-requires c =
    let a = c.args in
    let f = facts _ _ _ _ _ _ _ _ _ c.requires in
    omega (arith, c.size_for-s.ensures.0, f.s_k, f.k_19)

pub overflow_add-end : goal.overflow_add-end
overflow_add-end c =
    let a = c.args in
    let f = facts _ _ _ _ _ _ _ _ _ c.requires in
    omega (arith, f.taken_small)

pub offset_bounds-annex-taken : goal.offset_bounds-annex-taken
offset_bounds-annex-taken c =
    let a = c.args in
    let f = facts _ _ _ _ _ _ _ _ _ c.requires in
    omega (arith, f.taken_small)

pub slice_bounds-write_table-end : goal.slice_bounds-write_table-end
slice_bounds-write_table-end c =
    let a = c.args in
    let f = facts _ _ _ _ _ _ _ _ _ c.requires in
    let x : c.table_words.result ≡ 2 ^ size_for a.n = c.table_words.ensures.0 ∙ ap (λ y. 2 ^ y) c.size_for-s.ensures.0 in
    let h : a.taken + c.table_words.result ≤ length a.annex.now = omega (arith, f.room c.if-n-eq0.false) in
    search rules

pub write_table-requires : goal.write_table-requires
write_table-requires c =
    let a = c.args in
    let f = facts _ _ _ _ _ _ _ _ _ c.requires in
    let x = c.table_words.result in
    let es : c.size_for-s.result ≡ size_for a.n = c.size_for-s.ensures.0 in
    let ex : x ≡ 2 ^ size_for a.n = c.table_words.ensures.0 ∙ ap (λ y. 2 ^ y) es in
    let l : length (take (a.taken + x - a.taken) (drop a.taken a.annex.now)) ≡ x = part_length a.annex.now a.taken x (omega (arith, f.room c.if-n-eq0.false)) in
    let b : 8 ≤ 2 ^ size_for a.n = pow_mono f.s_3 in (
      f.main_long,
      f.k_19,
      omega (arith, f.s_3),
      omega (arith, f.s_k),
      l ∙ c.table_words.ensures.0,
      f.main_size,
      (omega arith, omega (arith, f.size)),
      f.narrow,
      omega (arith, f.w_v, f.v_26),
      omega (arith, f.counted, f.fits, ap (λ y. 2 ^ y) es),
    )

pub overflow_add-place : goal.overflow_add-place
overflow_add-place c =
    let a = c.args in
    let f = facts _ _ _ _ _ _ _ _ _ c.requires in
    omega (arith, f.k_19)

pub with_place-requires : goal.with_place-requires
with_place-requires c =
    let a = c.args in
    let f = facts _ _ _ _ _ _ _ _ _ c.requires in
    (f.free, f.zeros)

pub returns : goal.returns
returns c =
    let a = c.args in
    let second = c.write_second-used.ensures in
    λ r queue e. done-some r a.main.now queue a.annex.now a.k a.w a.v a.taken a.n a.places e _ _ second.0 second.1 _ _ _ _ c.if-n-eq0.false
    c.size_for-s.ensures.0 c.table_words.ensures.0 c.write_table.ensures c.with_place.ensures
