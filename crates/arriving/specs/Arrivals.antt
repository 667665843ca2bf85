-- Document 01, "What the calls do", Double: "an entry with L of at least 1 gives its lowest bit to become the top bit of its address; a void goes to both
-- addresses. .. Each entry that becomes void stores its new address, k+1 bits, as a mother hash." So entries arrive one by one in the second main and in the
-- new annex table, each at an address and with a payload.
use Rattle.std.specs.Prelude.{◌≡◌, List, [], ◌∷◌, ◌++◌, map, ℕ, suc, ◌+◌, ◌^◌, ◌≤◌, ◌<◌, length, get_or}
use Rattle.lists.specs.Runs.{Runs, add, at, total}
use Rattle.layout.specs.Machine.{layout}
use Rattle.layout.specs.Decode.{run_at}
use Rattle.rules.specs.Doubling.{half}

pub record Arrival : Type 0 where
  pub address : ℕ
  pub payload : ℕ

-- the runs after these have arrived
unfoldable pub arrive : List Arrival → Runs → Runs
arrive [] runs = runs
arrive (a ∷ es) runs = arrive es (at a.address (add a.payload) runs)

-- the words of a table that has room for these, before and after they arrive
unfoldable pub Arrived : List ℕ → List ℕ → List Arrival → Type 0
Arrived before after es = (runs : Runs) → before ≡ layout runs → total runs + length es < length runs → after ≡ layout (arrive es runs)

module _ {A : Type 0} where
  -- what the entries of a run give, and those of all runs from address c on
  unfoldable pub of_run : (ℕ → List A) → List ℕ → List A
  of_run f [] = []
  of_run f (p ∷ ps) = f p ++ of_run f ps

  unfoldable pub of_runs : (ℕ → ℕ → List A) → ℕ → Runs → List A
  of_runs f c [] = []
  of_runs f c (run ∷ runs) = of_run (f c) run ++ of_runs f (suc c) runs

abbrev pub arrival : ℕ → ℕ → Arrival
arrival a x = record { address = a; payload = x }

-- what payload p of the run of c gives to the second main of twice n slots, from width w to width v
unfoldable pub halves : ℕ → ℕ → ℕ → ℕ → ℕ → List Arrival
halves w v n c p = map (arrival c) (half w v 0 p) ++ map (arrival (c + n)) (half w v 1 p)

-- the words of the second main before and after that, and how many entries it is
pub record Sent (w v n c p : ℕ) (before after : List ℕ) (more : ℕ) : Type 0 where
  pub arrived : Arrived before after (halves w v n c p)
  pub counted : more ≡ length (halves w v n c p)
  pub few : more ≤ 2

-- a table has 2 to 2^20 slots
abbrev pub Size : List ℕ → Type 0
Size words = (1 < length words) × (length words ≤ 1048576)

-- payloads are below 2^w
abbrev pub Narrow : ℕ → List ℕ → Type 0
Narrow w main = (c t : ℕ) → c < length main → get_or (run_at main c) t 0 < 2 ^ w
