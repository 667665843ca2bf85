-- Where the tests of settings and counts hold, the directory decides; each that fails shows a record out of range.
use mathlib.Core.Path.{◌≡◌, sym, ◌∙◌, subst}
use mathlib.Core.Bool.{Bool, true}
use native.Mathlib.Omega.{arith}
use Rattle.std.specs.Prelude.{SomeIff}
use Rattle.lists.proofs.Tests.{no_true, true-test}
use Rattle.keeps.proofs.Bounds.{bounds}
use Rattle.rules.specs.Record.{annex_used}
use Rattle.filter.specs.Plain.{plain}
use Rattle.filter.proofs.Records.{record-rest, record-settings, start-low}
use Rattle.filter.proofs.Record.in_range.Goals as goal
use Rattle.filter.proofs.Record.in_range.Goals.{then-self-via-then-self, then-self-via-else-self+then-self-gt20, then-self-limit_of-via-then-self-limit_of}
use Rattle.filter.proofs.Record.in_range.Goals.{then-self-limit_of-via-else-self-limit_of+then-self-gt1048576}

pub returns-then-not-settings_right : goal.returns-then-not-settings_right
returns-then-not-settings_right c =
    λ t. no_true (sym c.if-not-settings_right.true ∙ c.settings_right.ensures ∙ record-settings (plain c.args.self) (true-test _ t))

pub returns-then-self : goal.returns-then-self
returns-then-self c =
    λ t.
    let b = bounds (plain c.args.self) (true-test _ t) in
    elim c.then-self.branch [
      | then-self-via-then-self w ↦ absurd (omega (arith, b.start_k, w.if-self.true))
      | then-self-via-else-self+then-self-gt20 w ↦ absurd (omega (arith, b.k_20, w.if-self-gt20.true))
    ]

pub limit_of-requires : goal.limit_of-requires
limit_of-requires c = omega (arith, start-low (plain c.args.self) (sym c.settings_right.ensures ∙ c.if-not-settings_right.false))

pub returns-then-self-limit_of : goal.returns-then-self-limit_of
returns-then-self-limit_of c =
    λ t.
    let b = bounds (plain c.args.self) (true-test _ t) in
    elim c.then-self-limit_of.branch [
      | then-self-limit_of-via-then-self-limit_of w ↦ absurd (omega (arith, b.used_limit, c.limit_of.ensures.0, w.if-self-limit_of.true))
      | then-self-limit_of-via-else-self-limit_of+then-self-gt1048576 w ↦ absurd (omega (arith, b.queued_small, w.if-self-gt1048576.true))
    ]

pub returns : goal.returns
returns c =
    let r = plain c.args.self in
    subst (λ (b : Bool). SomeIff c.read.result (b ≡ true) (annex_used r))
    (record-rest r (sym c.settings_right.ensures ∙ c.if-not-settings_right.false) (omega arith) (omega arith) (omega (arith, c.limit_of.ensures.0))
    (omega arith))
    c.read.ensures
