-- After i addresses of the block, those that are left are right exactly if all are, and k entries wait on arrival at the next.
use mathlib.Core.Path.{◌≡◌, refl, ◌∙◌}
use Prim.Native.Nat.{◌+◌, ◌<◌}
use native.Mathlib.Omega.{arith}
use borrow.Author.Rules.{rules}
use lib.ListN.{length}
use Rattle.std.proofs.lemmas.List.{length_push}
use Rattle.std.proofs.lemmas.Iterator.Consumers.{YieldsList-turn, YieldsList-end}
use Rattle.counts.proofs.Blocks.{waits-small, waits-next, stand-on, stand-off, stand-end}
use Rattle.counts.proofs.Pairs.{pairs_give, length-pairs, pair_at}
use Rattle.counts.proofs.addresses_right.Goals as goal

pub address_right-requires : goal.address_right-requires
address_right-requires c =
    let l = c.loop-i in
    let a = c.args in
    let z = c.zip.ensures in
    let e = c.enumerate-i-items.ensures in
    let same = c.into_iter-i-iterator.ensures.into_iter_gives in
    let road = pairs_give a.n a.queued.now a.mothers.now c.iter.ensures.rest z.first z.second.0 e.source e.count same in
    let turn = YieldsList-turn road l.yielded _ l.yielded_by _ c.next.new.self _ c.in-Some.is c.next.ensures.steps in
    let at = pair_at a.n a.queued.now a.mothers.now (omega arith) (omega arith) _ _ _ _ turn in
    let hc : a.base + length l.yielded < length a.words.now = omega (arith, c.requires.5, at.0) in
    (omega (arith, hc, at.1), waits-small _ _ c.requires.0 _ l.k l.invariant.0 hc, search rules, search rules, search rules)

pub loop-i-preserved : goal.loop-i-preserved
loop-i-preserved c =
    let l = c.loop-i in
    let a = c.args in
    let p = c.requires.0 in
    let r = c.in_ok-k.ensures in
    let z = c.zip.ensures in
    let e = c.enumerate-i-items.ensures in
    let same = c.into_iter-i-iterator.ensures.into_iter_gives in
    let road = pairs_give a.n a.queued.now a.mothers.now c.iter.ensures.rest z.first z.second.0 e.source e.count same in
    let turn = YieldsList-turn road l.yielded _ l.yielded_by _ c.next.new.self _ c.in-Some.is c.next.ensures.steps in
    let at = pair_at a.n a.queued.now a.mothers.now (omega arith) (omega arith) _ _ _ _ turn in
    let hc : a.base + length l.yielded < length a.words.now = omega (arith, c.requires.5, at.0) in
    rw (length_push l.yielded (c.in-Some.i, (c.in-Some.named, c.in-Some.matched))) (
      waits-next _ _ p _ l.k l.invariant.0 hc _ at.1 _ r.onward,
      λ ts ws y m. stand-on _ ws _ ts _ p _ a.n l.k _ _ _ (l.invariant.1 ts ws y m) c.requires.4 hc y m _ _ _ at r.right refl _ r.onward,
    )

pub returns-in_err-k : goal.returns-in_err-k
returns-in_err-k c =
    let l = c.loop-i in
    let a = c.args in
    let z = c.zip.ensures in
    let e = c.enumerate-i-items.ensures in
    let same = c.into_iter-i-iterator.ensures.into_iter_gives in
    let road = pairs_give a.n a.queued.now a.mothers.now c.iter.ensures.rest z.first z.second.0 e.source e.count same in
    let turn = YieldsList-turn road l.yielded _ l.yielded_by _ c.next.new.self _ c.in-Some.is c.next.ensures.steps in
    let at = pair_at a.n a.queued.now a.mothers.now (omega arith) (omega arith) _ _ _ _ turn in
    let hc : a.base + length l.yielded < length a.words.now = omega (arith, c.requires.5, at.0) in
    rw c.from_residual.ensures
    (λ ts ws y m. stand-off _ ws _ ts _ c.requires.0 _ a.n l.k _ _ _ (l.invariant.1 ts ws y m) c.requires.4 hc y m _ _ _ at c.in_err-k.ensures.right refl)

pub returns : goal.returns
returns c =
    let l = c.loop-i in
    let a = c.args in
    let z = c.zip.ensures in
    let e = c.enumerate-i-items.ensures in
    let same = c.into_iter-i-iterator.ensures.into_iter_gives in
    let road = pairs_give a.n a.queued.now a.mothers.now c.iter.ensures.rest z.first z.second.0 e.source e.count same in
    let all = YieldsList-end road l.yielded _ l.yielded_by _ c.next.new.self c.in-None.is c.next.ensures.steps in
    let whole : length l.yielded ≡ a.n = all.1 ∙ length-pairs a.n a.queued.now a.mothers.now (omega arith) (omega arith) in
    λ ts ws y m. stand-end _ ws _ ts _ c.requires.0 _ a.n l.k (l.invariant.1 ts ws y m) (omega arith) (omega arith) c.requires.4 c.requires.6
