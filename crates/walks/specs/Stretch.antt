-- The words of a table from one slot to before another.
use Rattle.std.specs.Prelude.{List, ℕ, ◌-◌, take, drop}

abbrev pub stretch : ℕ → ℕ → List ℕ → List ℕ
stretch from end ws = take (end - from) (drop from ws)
