-- Audit answers 0 exactly on a good state: its number is 0 exactly if the three tests hold.
use mathlib.Core.Path.{◌≡◌, ◌∙◌}
use mathlib.Core.List.{List, []}
use Prim.Native.Nat.{ℕ}
use Rattle.rules.specs.Record.{Filter}
use Rattle.rules.specs.Refusals.{refusal}
use Rattle.rules.specs.Sound.{sound}
use Rattle.rules.specs.Slow.{audit}
use Rattle.keeps.proofs.Refusals.{refusal-passed, refusal-zero, asked-zero, zero-asked}
use Rattle.keeps.proofs.State.{Good}

module _ (r : Filter) (main queue annex : List ℕ) where
  pub audit-good : audit r main queue annex ≡ 0 → Good r main queue annex
  unfolding audit
  audit-good z =
      let a = asked-zero r main queue annex _ z in
      record { record-right = a.0; slices-right = a.1; is_sound = (refusal-zero (sound r main queue annex) 3 [] a.2).0 }

  pub good-audit : Good r main queue annex → audit r main queue annex ≡ 0
  unfolding audit refusal
  good-audit g =
      zero-asked r main queue annex _ g.record-right g.slices-right
      ∙ refusal-passed (record { right = sound r main queue annex; number = 4 }) [] g.is_sound
