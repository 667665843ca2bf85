-- Document 01, "Refusal numbers and their order": the tests of numbers 2, 3 and 11, and how an order of tests gives a number.
use Rattle.std.specs.Prelude.{ℕ, ◌^◌, Bool, true, false, ◌&&◌, List, [], ◌∷◌, leb, eqb}
use Rattle.lists.specs.Lists.{within}
use Rattle.slots.specs.Numbers.{limit}
use Rattle.directory.specs.Places.{directory_right}
use Rattle.rules.specs.Record.{Filter, annex_used}

-- a test that must hold, and the number that is given where it does not
pub record Test : Type 0 where
  pub right : Bool
  pub number : ℕ

-- the number of the first test that fails, or 0
unfoldable pub refusal : List Test → ℕ
refusal [] = 0
refusal (t ∷ ts) = elim t.right [ true ↦ refusal ts | false ↦ t.number ]

-- number 11: "Start's numbers out of range". "Start power 3 to 10, start fingerprint length F 3 to 15, regime 0 (fixed) or 1 (widening)."
unfoldable pub settings_right : ℕ → ℕ → ℕ → Bool
settings_right start f regime = within 3 10 start && (within 3 15 f && leb regime 1)

-- number 2: "record out of range: start power, F or regime outside its limits, k not between start power and 20, used or a count above its load limit, queue
-- length above 2^20, directory lengths not strictly rising within 6 to k, s not within 3 to b-1, an unused place not zero"
unfoldable pub record_right : Filter → Bool
record_right r =
    settings_right r.start r.f r.regime
    && (within r.start 20 r.k && (leb r.used (limit r.k) && (leb r.queued (2 ^ 20) && directory_right r.k r.dir)))

-- number 3: "main is not 2^k words .., queue or annex shorter than the record uses", by the lengths of the three
unfoldable pub slices_right : Filter → ℕ → ℕ → ℕ → Bool
slices_right r main queue annex = eqb main (2 ^ r.k) && (leb r.queued queue && leb (annex_used r) annex)
