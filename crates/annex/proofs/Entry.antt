-- The payload and the slot of the mother hash that an address's low bits are, and how often a table's words have it: what the code computes is what the
-- definitions say, by the laws of powers and remainders.
use mathlib.Core.Path.{◌≡◌, sym, ap, ap₂, ◌∙◌}
use mathlib.Core.List.{List, []}
use Prim.Native.Nat.{ℕ, zero, suc, ◌+◌, ◌-◌, ◌/◌, ◌%◌, ◌^◌, ◌≤◌, ◌<◌}
use native.Mathlib.Omega.{arith}
use native.Mathlib.Nat.{mod-lt}
use lib.Pow.{pow_pos, pow_mono}
use lib.ListN.{length, get_or}
use Rattle.lists.specs.Runs.{count}
use Rattle.layout.specs.Decode.{run_at, runs_from, decode}
use Rattle.rules.specs.Tables.{hash_entry, matching}
use Rattle.keeps.proofs.Mothers.{hash-fits}
use Rattle.annex.specs.Stored.{table_of}

pub entry-fits : (b s c p y : ℕ) → s < b → p ≡ 2 ^ b → y ≡ 2 ^ s → c % p / y < 2 ^ (b - s)
entry-fits b s c p y h e f = rw (e, f) (hash-fits b s (c % 2 ^ b) (omega arith) (mod-lt c (pow_pos b)))

-- a size power from 3 to 20
pub size-20 : (s : ℕ) → s ≤ 20 → 2 ^ s ≤ 1048576
size-20 s h = pow_mono {i = s} {j = 20} h

pub size-8 : (s : ℕ) → 3 ≤ s → 8 ≤ 2 ^ s
size-8 s h = pow_mono {i = 3} {j = s} h

-- the run that is read is the run that is decoded
from_at : (words : List ℕ) (c n i : ℕ) → i < n → get_or (runs_from words c n) i [] ≡ run_at words (c + i)
unfolding runs_from
from_at words c zero i h = absurd (omega arith)
from_at words c (suc n) zero h = let e : c ≡ c + 0 = omega arith in ap (run_at words) e
from_at words c (suc n) (suc i) h = let e : suc c + i ≡ c + suc i = omega arith in from_at words (suc c) n i (omega arith) ∙ ap (run_at words) e

pub decode-at : (words : List ℕ) (i : ℕ) → i < length words → get_or (decode words) i [] ≡ run_at words i
unfolding decode
decode-at words i h = let e : 0 + i ≡ i = omega arith in from_at words 0 (length words) i h ∙ ap (run_at words) e

pub matching-read : (words : List ℕ) (b s c slot x r : ℕ) → slot ≡ c % 2 ^ s → x ≡ hash_entry b s (c % 2 ^ b) → slot < length words
    → r ≡ count x (run_at words slot)
    → r ≡ matching c (table_of b s words)
unfolding matching
matching-read words b s c slot x r e f h g =
    g ∙ ap (count x) (sym (decode-at words slot h)) ∙ ap₂ (λ (m n : ℕ). count n (get_or (decode words) m [])) e f
