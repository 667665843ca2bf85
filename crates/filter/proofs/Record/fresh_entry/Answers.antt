-- The fresh length is below the width, and a payload of that width fits a word.
use mathlib.Core.Path.{ap₂, ◌∙◌}
use Prim.Native.Nat.{ℕ}
use native.Mathlib.Omega.{arith}
use Rattle.slots.specs.Payload.{fresh_payload}
use Rattle.keeps.proofs.Bounds.{bounds}
use Rattle.filter.specs.Plain.{plain}
use Rattle.filter.proofs.Quicks.{fresh-small}
use Rattle.filter.proofs.Record.fresh_entry.Goals as goal

pub fresh-requires : goal.fresh-requires
fresh-requires c =
    let b = bounds (plain c.args.self.now) c.requires in
    omega (arith, b.fresh_width, b.width_26, b.k_20, c.width.ensures.0, c.fresh_length.ensures.0)

pub returns : goal.returns
returns c =
    let a = c.args in
    let e = c.fresh.ensures ∙ ap₂ (λ (w l : ℕ). fresh_payload w l a.self.now.k a.hash) c.width.ensures.0 c.fresh_length.ensures.0 in
    (e, omega (arith, e, fresh-small (plain a.self.now) a.hash (bounds (plain a.self.now) c.requires)))
