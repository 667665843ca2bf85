-- A fingerprint without its lowest bit has one bit less, so it can be encoded, and fits a slot word.
use Prim.Native.Nat.{◌-◌, ◌/◌}
use native.Mathlib.Omega.{arith}
use borrow.Author.Rules.{rules}
use Rattle.arriving.proofs.Payloads.{halved, pay-small}
use Rattle.arriving.proofs.shorter.Goals as goal

pub encode-requires : goal.encode-requires
encode-requires c = search (rules, halved)

pub returns : goal.returns
returns c =
    let a = c.args in
    (c.encode.ensures, pay-small a.v (a.m - 2) (a.f / 2) _ (omega arith) (omega arith) (halved a.m a.f (omega arith) c.requires.3) c.encode.ensures)
