-- A record in range has a width, and for another the host is told 0.
use mathlib.Core.Path.{◌∙◌}
use Rattle.std.specs.Prelude.{◌≡◌, ℕ, Option, Some, None, SomeIff, IsTrue}
use Rattle.std.specs.Option.{unwrap_or}
use Rattle.rules.specs.Record.{Filter, width}
use Rattle.rules.specs.Refusals.{record_right}
use Rattle.filter.specs.Widths.{width_asked}
use Rattle.filter.proofs.Records.{asked-width, asked-none}
use Rattle.filter.proofs.Refused.{not-true}
use Rattle.kjarnhul.proofs.kj_width.Goals as goal

told : (r : Filter) (o : Option ℕ) → SomeIff o (IsTrue (record_right r)) (width r) → unwrap_or o 0 ≡ width_asked r
told r (Some w) s = asked-width r w s.0 s.1
told r None s = asked-none r (not-true _ s)

pub returns : goal.returns
returns c = c.unwrap_or.ensures ∙ told _ c.width.result c.width.ensures
