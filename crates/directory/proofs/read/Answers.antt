-- `read` meets its contract: what is left decides whether the directory is right, and the words so far and those left are all of them.
use Rattle.std.proofs.Common.{◌≡◌, ap, not, length, rules}
use Rattle.directory.proofs.Loops.{walk_start, walk-wrong, zero-test, free-wrong, free_step, used-wrong, used-small, used_step, walk_end}
use Rattle.directory.proofs.read.Goals as goal
use Rattle.directory.proofs.read.Goals.{then-place-eq0+else-ne, else-place-eq0+else-not-place_right}

pub loop-place-init : goal.loop-place-init
loop-place-init c = walk_start _ _

pub returns-then-ne : goal.returns-then-ne
returns-then-ne c =
    let ps = c.args.places in
    let l : length ps ≡ 15 = search rules in
    let zero = zero-test _ _ _ c.default.ensures c.ne.ensures in
    walk-wrong _ _ (free-wrong _ _ ps l _ _ c.loop-place.invariant c.loop-place-test.true _ c.if-place-eq0.true zero (ap not c.if-ne.true))

pub returns-then-not-place_right : goal.returns-then-not-place_right
returns-then-not-place_right c =
    let ps = c.args.places in
    let l : length ps ≡ 15 = search rules in
    walk-wrong _ _
    (used-wrong _ _ ps l _ _ c.loop-place.invariant c.loop-place-test.true _ c.if-place-eq0.false c.place_right.ensures c.if-not-place_right.true)

pub table_words-words-requires : goal.table_words-words-requires
table_words-words-requires c =
    let ps = c.args.places in
    let l : length ps ≡ 15 = search rules in
    used-small _ _ ps l _ _ c.loop-place.invariant c.loop-place-test.true _ c.if-place-eq0.false c.place_right.ensures c.requires c.if-not-place_right.false

pub loop-place-preserved : goal.loop-place-preserved
loop-place-preserved c =
    let ps = c.args.places in
    let l : length ps ≡ 15 = search rules in
    let inv = c.loop-place.invariant in
    let low = c.loop-place-test.true in
    elim c.if-place-eq0.branch [
      | then-place-eq0+else-ne w ↦
          free_step _ _ ps l _ _ inv low _ w.if-place-eq0.true (zero-test _ _ _ w.default.ensures w.ne.ensures) (ap not w.if-ne.false) _ _ w.last-is w.words-is
      | else-place-eq0+else-not-place_right w ↦
          used_step _ _ ps l _ _ inv low _ w.if-place-eq0.false w.place_right.ensures w.if-not-place_right.false _
          w.table_words-words.ensures _ _ w.last-is w.words-is
    ]

pub returns : goal.returns
returns c =
    let ps = c.args.places in
    let l : length ps ≡ 15 = search rules in walk_end _ _ ps l _ _ c.loop-place.invariant c.loop-place-test.false
