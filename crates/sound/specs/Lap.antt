-- Document 01, "Slots": "The three low bits make eight cases: 0 empty (whole word zero), 1 run start at home, 4 and 5 run start moved, 6 and 7 continuation,
-- 2 and 3 never allowed." The audit's lap goes round one table from an empty slot.
use Rattle.std.specs.Prelude.{ℕ, zero, suc, ◌+◌, ◌/◌, ◌%◌, Bool, false, ◌&&◌, Option, Some, None, List, [], ◌∷◌, ◌==◌, nat_lt, nat_le}
use Rattle.std.specs.Bool.{then_some}
use Rattle.std.specs.Option.{option_map_or}
use Rattle.sound.specs.declared.Lap.{Lap}

abbrev pub start : Lap
start = record { opened = 0; begun = 0; last = None; count = 0 }

-- opened: occupied addresses passed. begun: runs begun. last: the payload of the entry in the slot before, if that holds one. count: entries passed
-- a slot with no entry, and one with payload p: `occupied` addresses more are passed, and `begins` runs more have begun
abbrev pub no_entry : Lap → Lap
no_entry s = record { opened = s.opened; begun = s.begun; last = None; count = s.count }

abbrev pub an_entry : Lap → ℕ → ℕ → ℕ → Lap
an_entry s p occupied begins = record { opened = s.opened + occupied; begun = s.begun + begins; last = Some p; count = s.count + 1 }

-- an empty slot
abbrev pub empty : Lap → ℕ → Option Lap
empty s w = then_some ((w == 0) && (s.begun == s.opened)) (no_entry s)

-- the run start at home
abbrev pub home : (ℕ → Bool) → Lap → ℕ → Option Lap
home f s p = then_some ((s.begun == s.opened) && f p) (an_entry s p 1 1)

-- a run start moved; o is the occupied bit
abbrev pub moved : (ℕ → Bool) → Lap → ℕ → ℕ → Option Lap
moved f s p o = then_some (nat_lt s.begun s.opened && f p) (an_entry s p o 1)

-- a continuation: no smaller than the entry in the slot before
abbrev pub goes_on : Option ℕ → ℕ → Bool
goes_on last p = option_map_or (λ x. nat_le x p) last false

abbrev pub next : (ℕ → Bool) → Lap → ℕ → ℕ → Option Lap
next f s p o = then_some (goes_on s.last p && f p) (an_entry s p o 0)

-- by the three low bits; 2 and 3 may not stand anywhere
abbrev pub arm : ℕ → Option Lap → Option Lap → Option Lap → Option Lap → Option Lap
arm zero a b c d = a
arm (suc zero) a b c d = b
arm (suc (suc zero)) a b c d = None
arm (suc (suc (suc zero))) a b c d = None
arm (suc (suc (suc (suc zero)))) a b c d = c
arm (suc (suc (suc (suc (suc zero))))) a b c d = c
arm (suc (suc (suc (suc (suc (suc k)))))) a b c d = d

-- the lap after word w, or None where w may not stand there
unfoldable pub step : (ℕ → Bool) → Lap → ℕ → Option Lap
step f s w = arm (w % 8) (empty s w) (home f s (w / 8)) (moved f s (w / 8) (w % 2)) (next f s (w / 8) (w % 2))

-- every word may stand where it does, all runs of the addresses passed have begun, and there are n entries
unfoldable pub fits : (ℕ → Bool) → ℕ → Lap → List ℕ → Bool
fits f n s [] = (s.begun == s.opened) && (s.count == n)
fits f n s (w ∷ ws) = option_map_or (λ v. fits f n v ws) (step f s w) false
