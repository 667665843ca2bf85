-- `thin::bytes_refusal` meets its contract: its tests are those of the refusals, in their order.
use native.Mathlib.Omega.{arith}
use Rattle.thin.proofs.Bytes.{In, number-0, number-2, number-3}
use Rattle.thin.proofs.bytes_refusal.Goals as goal
use Rattle.thin.proofs.bytes_refusal.Goals.{then-k-lt3-via-then-k-lt3, then-k-lt3-via-else-k-lt3+then-k-gt20}
use Rattle.thin.proofs.bytes_refusal.Goals.{then-k-lt3-via-else-k-lt3+else-k-gt20+then-w-lt4, then-k-lt3-via-else-k-lt3+else-k-gt20+else-w-lt4+then-w-gt26}

pub returns-then-k-lt3 : goal.returns-then-k-lt3
returns-then-k-lt3 c =
    number-2 _ _ _
    (λ v.
    elim c.then-k-lt3.branch [
      | then-k-lt3-via-then-k-lt3 w ↦ omega (arith, v.k_3, w.if-k-lt3.true)
      | then-k-lt3-via-else-k-lt3+then-k-gt20 w ↦ omega (arith, v.k_20, w.if-k-gt20.true)
      | then-k-lt3-via-else-k-lt3+else-k-gt20+then-w-lt4 w ↦ omega (arith, v.w-4, w.if-w-lt4.true)
      | then-k-lt3-via-else-k-lt3+else-k-gt20+else-w-lt4+then-w-gt26 w ↦ omega (arith, v.w_26, w.if-w-gt26.true)
    ])

pub returns-then-bytes-pow2 : goal.returns-then-bytes-pow2
returns-then-bytes-pow2 c =
    let v : In c.args.k c.args.w = record { k_3 = c.if-k-lt3.false; k_20 = c.if-k-gt20.false; w-4 = c.if-w-lt4.false; w_26 = c.if-w-gt26.false } in
    number-0 _ _ _ _ v c.pow2.ensures.0 c.if-bytes-pow2.true

pub returns-else-bytes-pow2 : goal.returns-else-bytes-pow2
returns-else-bytes-pow2 c =
    let v : In c.args.k c.args.w = record { k_3 = c.if-k-lt3.false; k_20 = c.if-k-gt20.false; w-4 = c.if-w-lt4.false; w_26 = c.if-w-gt26.false } in
    number-3 _ _ _ _ v c.pow2.ensures.0 c.if-bytes-pow2.false
