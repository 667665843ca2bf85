-- The remainder by the power of two is the definition.
use Prim.Native.Nat.{◌-◌}
use Rattle.arriving.proofs.Payloads.{finger}
use Rattle.arriving.proofs.fingerprint.Goals as goal

pub returns : goal.returns
returns c = let a = c.args in finger a.p (a.m - 1) _ c.pow2.ensures.0
