-- Document 01: "W is the fresh length plus 1", asked by a host of the exported Query, which takes k and W.
use Rattle.std.specs.Prelude.{ℕ, true, false}
use Rattle.rules.specs.Record.{Filter, width}
use Rattle.rules.specs.Refusals.{record_right}

-- the width of payloads, or 0 where number 2 is given
unfoldable pub width_asked : Filter → ℕ
width_asked r = elim (record_right r) [ true ↦ width r | false ↦ 0 ]
