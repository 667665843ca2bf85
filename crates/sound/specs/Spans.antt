-- Document 01, "What the calls do": "main payloads below 2^W with k+L at least 6 for every entry with bits, annex payloads all of length b-s": as two spans of
-- numbers.
use Rattle.std.specs.Prelude.{ℕ, Bool, ◌&&◌, ◌||◌, nat_le, nat_lt}
use Rattle.sound.specs.declared.Spans.{Spans}

unfoldable pub allowed : Spans → ℕ → Bool
allowed t p = (nat_le t.kept.start p && nat_lt p t.kept.end) || (nat_le t.lost.start p && nat_lt p t.lost.end)
