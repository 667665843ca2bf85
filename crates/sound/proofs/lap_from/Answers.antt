-- The lap goes on from slot to slot: what is left of it after the words passed is good exactly if all of it is.
use Rattle.std.proofs.lemmas.List.{length_push}
use Rattle.std.proofs.lemmas.Iterator.Consumers.{YieldsList-turn, YieldsList-end}
use Rattle.sound.specs.Spans.{allowed}
use Rattle.sound.proofs.Steps.{circle_gives, counts-on, lap-on, lap-off, all-begun, some-wait}
use Rattle.sound.proofs.lap_from.Goals as goal

pub loop-word-preserved : goal.loop-word-preserved
loop-word-preserved c =
    let l = c.loop-word in
    let e = c.in-Some-step.ensures in
    let p = c.chain-word-items.ensures in
    let same = c.into_iter-word-iterator.ensures.into_iter_gives in
    let circle = circle_gives c.args.z c.args.words.now c.iter.ensures.rest p.first p.second.0 p.first_done p.second_done same in
    let at = YieldsList-turn circle l.yielded _ l.yielded_by _ _ _ c.in-Some.is c.next.ensures.steps in
    rw (length_push l.yielded c.in-Some.word)
    (counts-on (allowed c.args.spans.now) l.lap _ c.in-Some-step.next _ e l.invariant.0, lap-on _ _ _ _ _ _ _ l.invariant.1 at _ e)

pub returns-in-None-step : goal.returns-in-None-step
returns-in-None-step c =
    let l = c.loop-word in
    let p = c.chain-word-items.ensures in
    let same = c.into_iter-word-iterator.ensures.into_iter_gives in
    let circle = circle_gives c.args.z c.args.words.now c.iter.ensures.rest p.first p.second.0 p.first_done p.second_done same in
    let at = YieldsList-turn circle l.yielded _ l.yielded_by _ _ _ c.in-Some.is c.next.ensures.steps in
    lap-off _ _ _ _ _ _ _ l.invariant.1 at c.in-None-step.ensures

pub returns-then-lap : goal.returns-then-lap
returns-then-lap c =
    let l = c.loop-word in
    let p = c.chain-word-items.ensures in
    let same = c.into_iter-word-iterator.ensures.into_iter_gives in
    let circle = circle_gives c.args.z c.args.words.now c.iter.ensures.rest p.first p.second.0 p.first_done p.second_done same in
    let all = YieldsList-end circle l.yielded _ l.yielded_by _ _ c.in-None.is c.next.ensures.steps in
    all-begun _ _ _ _ _ _ l.invariant.1 all.1 c.if-lap.true

pub returns-else-lap : goal.returns-else-lap
returns-else-lap c =
    let l = c.loop-word in
    let p = c.chain-word-items.ensures in
    let same = c.into_iter-word-iterator.ensures.into_iter_gives in
    let circle = circle_gives c.args.z c.args.words.now c.iter.ensures.rest p.first p.second.0 p.first_done p.second_done same in
    let all = YieldsList-end circle l.yielded _ l.yielded_by _ _ c.in-None.is c.next.ensures.steps in
    some-wait _ _ _ _ _ _ l.invariant.1 all.1 c.if-lap.false
