-- 11, then 3, or the emptied words and the record of a fresh filter.
use mathlib.Core.Path.{sym, ◌∙◌}
use native.Mathlib.Omega.{arith}
use Rattle.filter.specs.Plain.{plain}
use Rattle.filter.proofs.Starts.{power-low, start-0, start_3, start-11, zeroed, fresh-record}
use Rattle.filter.proofs.Record.start_in.Goals as goal

pub returns-then-not-settings_right : goal.returns-then-not-settings_right
returns-then-not-settings_right c =
    let a = c.args in
    λ queue annex. start-11 (plain a.self.now) a.power a.f a.regime a.main.now queue annex (sym c.settings_right.ensures ∙ c.if-not-settings_right.true)

pub pow2-requires : goal.pow2-requires
pow2-requires c =
    let a = c.args in
    omega (arith, power-low a.power a.f a.regime (sym c.settings_right.ensures ∙ c.if-not-settings_right.false))

pub returns-then-main-pow2 : goal.returns-then-main-pow2
returns-then-main-pow2 c =
    let a = c.args in
    λ queue annex. start_3 (plain a.self.now) a.power a.f a.regime a.main.now queue annex
    (sym c.settings_right.ensures ∙ c.if-not-settings_right.false) _ c.pow2.ensures.0 c.if-main-pow2.true

pub returns : goal.returns
returns c =
    let a = c.args in
    λ queue annex. start-0 (plain a.self.now) a.power a.f a.regime a.main.now queue annex
    (sym c.settings_right.ensures ∙ c.if-not-settings_right.false) _ c.pow2.ensures.0 c.if-main-pow2.false _
    (fresh-record a.power a.f a.regime _ (zeroed _ c.default.ensures)) _ c.clear.ensures
