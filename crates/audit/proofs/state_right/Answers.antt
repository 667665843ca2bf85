-- The tests before the counts are one, and the counts are tested where it passes.
use mathlib.Core.Path.{◌≡◌, ◌∙◌}
use mathlib.Core.Bool.{Bool, ◌&&◌}
use native.Mathlib.Omega.{arith}
use lib.ListN.{take}
use borrow.Author.Rules.{rules}
use Rattle.directory.specs.Places.{places_in_use}
use Rattle.rules.specs.Sound.{table_right, annex_right}
use Rattle.sound.specs.Spans.{allowed}
use Rattle.sound.proofs.Steps.{both_tests, first-fails}
use Rattle.tallies.proofs.InUse.{directory-20}
use Rattle.tallies.proofs.Sums.{power-20, room-1}
use Rattle.audit.specs.Queue.{addresses_below}
use Rattle.audit.proofs.Wholes.{below-limit, part_small, so-laid, so-stored, chained, all-counts, some_fails}
use Rattle.audit.proofs.state_right.Goals as goal
use Rattle.audit.proofs.state_right.Goals.{then-is_table, else-is_table, then-annex_right, else-annex_right}

pub is_table-requires : goal.is_table-requires
is_table-requires c = (search (rules, below-limit), search (rules, room-1), search (rules, power-20))

pub annex_right-requires : goal.annex_right-requires
annex_right-requires c = (search (rules, directory-20), search rules)

pub counts_right-requires : goal.counts_right-requires
counts_right-requires c =
    let a = c.args in
    let annexed : Bool = annex_right (places_in_use a.places) a.annex.now in
    let named : Bool = addresses_below a.k (take a.queued a.queue.now) in
    let first : c.if-is_table.value ≡ (c.is_table.result && annexed) =
    elim c.if-is_table.branch [
      | then-is_table w ↦ both_tests _ _ _ w.if-is_table.true (w.value-is ∙ w.annex_right.ensures)
      | else-is_table w ↦ first-fails _ _ _ w.if-is_table.false w.value-is
    ] in
    let second : c.if-annex_right.value ≡ (c.if-is_table.value && named) =
    elim c.if-annex_right.branch [
      | then-annex_right w ↦ both_tests _ _ _ w.if-annex_right.true (w.value-is ∙ w.queue_right.ensures)
      | else-annex_right w ↦ first-fails _ _ _ w.if-annex_right.false w.value-is
    ] in
    let passed : c.if-annex_right.value ≡ ((table_right (allowed c.main_spans.result) a.used a.main.now && annexed) && named) =
    chained _ _ _ _ _ second first c.is_table.ensures in
    let e = c.if-queue_right.true in (
      so-laid a.k a.w a.used a.queued a.places a.main.now a.queue.now a.annex.now _ c.main_spans.ensures _ passed c.requires.5 c.requires.4 e,
      room-1 _ _ c.requires.4 c.requires.0,
      power-20 _ _ c.requires.1 c.requires.4,
      omega arith,
      c.requires.3,
      part_small _ _ c.requires.8 c.requires.9,
      directory-20 _ _ c.requires.1 c.requires.6,
      c.requires.7,
      so-stored a.k a.w a.used a.queued a.places a.main.now a.queue.now a.annex.now _ c.main_spans.ensures _ passed e,
    )

pub returns-then-queue_right : goal.returns-then-queue_right
returns-then-queue_right c =
    let a = c.args in
    let annexed : Bool = annex_right (places_in_use a.places) a.annex.now in
    let named : Bool = addresses_below a.k (take a.queued a.queue.now) in
    let first : c.if-is_table.value ≡ (c.is_table.result && annexed) =
    elim c.if-is_table.branch [
      | then-is_table w ↦ both_tests _ _ _ w.if-is_table.true (w.value-is ∙ w.annex_right.ensures)
      | else-is_table w ↦ first-fails _ _ _ w.if-is_table.false w.value-is
    ] in
    let second : c.if-annex_right.value ≡ (c.if-is_table.value && named) =
    elim c.if-annex_right.branch [
      | then-annex_right w ↦ both_tests _ _ _ w.if-annex_right.true (w.value-is ∙ w.queue_right.ensures)
      | else-annex_right w ↦ first-fails _ _ _ w.if-annex_right.false w.value-is
    ] in
    let passed : c.if-annex_right.value ≡ ((table_right (allowed c.main_spans.result) a.used a.main.now && annexed) && named) =
    chained _ _ _ _ _ second first c.is_table.ensures in
    all-counts a.k a.w a.used a.queued a.places a.main.now a.queue.now a.annex.now _ c.main_spans.ensures _ passed
    c.if-queue_right.true _ c.counts_right.ensures

pub returns-else-queue_right : goal.returns-else-queue_right
returns-else-queue_right c =
    let a = c.args in
    let annexed : Bool = annex_right (places_in_use a.places) a.annex.now in
    let named : Bool = addresses_below a.k (take a.queued a.queue.now) in
    let first : c.if-is_table.value ≡ (c.is_table.result && annexed) =
    elim c.if-is_table.branch [
      | then-is_table w ↦ both_tests _ _ _ w.if-is_table.true (w.value-is ∙ w.annex_right.ensures)
      | else-is_table w ↦ first-fails _ _ _ w.if-is_table.false w.value-is
    ] in
    let second : c.if-annex_right.value ≡ (c.if-is_table.value && named) =
    elim c.if-annex_right.branch [
      | then-annex_right w ↦ both_tests _ _ _ w.if-annex_right.true (w.value-is ∙ w.queue_right.ensures)
      | else-annex_right w ↦ first-fails _ _ _ w.if-annex_right.false w.value-is
    ] in
    let passed : c.if-annex_right.value ≡ ((table_right (allowed c.main_spans.result) a.used a.main.now && annexed) && named) =
    chained _ _ _ _ _ second first c.is_table.ensures in
    some_fails a.k a.w a.used a.queued a.places a.main.now a.queue.now a.annex.now _ c.main_spans.ensures _ passed c.if-queue_right.false
