-- Each arm is one kind of entry: a tombstone gives nothing, a void two entries, any other entry one.
use Prim.Native.Nat.{◌≤◌, ◌<◌}
use mathlib.Core.Path.{◌≡◌}
use native.Mathlib.Omega.{arith}
use borrow.Author.Rules.{rules}
use Rattle.slots.proofs.PayloadLaws.{rest_le}
use Rattle.arriving.proofs.Loops.{sent-none, sent-void, sent-low, sent-high}
use Rattle.arriving.proofs.Payloads.{void-small}
use Rattle.arriving.proofs.send.Goals as goal
use Rattle.arriving.proofs.send.Goals.{then-f-eq0, else-f-eq0}

pub insert-requires : goal.insert-requires
insert-requires c =
    let small : c.void_of-void.result < 536870912 = void-small _ _ (omega arith) (omega arith) c.void_of-void.ensures in
    search rules

pub insert-requires-in-1 : goal.insert-requires-in-1
insert-requires-in-1 c =
    let small : c.void_of-void.result < 536870912 = void-small _ _ (omega arith) (omega arith) c.void_of-void.ensures in
    search rules

pub fingerprint-f-requires : goal.fingerprint-f-requires
fingerprint-f-requires c = (omega arith, omega (arith, c.rest_of.ensures, rest_le c.args.w c.args.p))

pub shorter-requires : goal.shorter-requires
shorter-requires c =
    let h : c.rest_of.result ≤ c.args.w = omega (arith, c.rest_of.ensures, rest_le c.args.w c.args.p) in
    (omega arith, omega arith, omega arith, c.fingerprint-f.ensures.1)

pub returns-in-0 : goal.returns-in-0
returns-in-0 c =
    let a = c.args in
    sent-none a.w a.v a.n a.c a.p _ c.rest_of.ensures _ c.in-0.is

pub returns-in-1 : goal.returns-in-1
returns-in-1 c =
    let a = c.args in
    sent-void a.w a.v a.n a.c a.p _ c.rest_of.ensures _ _ _ _ c.in-1.is c.void_of-void.ensures c.insert.ensures c.insert-in-1.ensures

pub returns-after-f-eq0 : goal.returns-after-f-eq0
returns-after-f-eq0 c =
    let a = c.args in
    let f = c.fingerprint-f.ensures.0 in
    let x = c.shorter.ensures.0 in
    let m0 : c.rest_of.result ≡ 0 → ⊥ = λ z. omega arith in
    let m1 : c.rest_of.result ≡ 1 → ⊥ = λ z. omega arith in
    elim c.if-f-eq0.branch [
      | then-f-eq0 w ↦ sent-low a.w a.v a.n a.c a.p _ c.rest_of.ensures _ _ m0 m1 f x _ _ w.if-f-eq0.true (rw w.address-is at c.insert-in_default.ensures)
      | else-f-eq0 w ↦ sent-high a.w a.v a.n a.c a.p _ c.rest_of.ensures _ _ m0 m1 f x _ _ w.if-f-eq0.false (rw w.address-is at c.insert-in_default.ensures)
    ]
