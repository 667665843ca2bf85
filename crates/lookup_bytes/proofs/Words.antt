-- The words of a list of bytes: how many there are, and which stands at a place. By recursion, four bytes at a time.
use mathlib.Core.Path.{◌≡◌, refl, ap}
use mathlib.Core.List.{List, [], ◌∷◌}
use Prim.Native.Nat.{ℕ, zero, suc, ◌+◌, ◌*◌, ◌/◌, ◌^◌, ◌<◌}
use native.Mathlib.Omega.{arith}
use lib.ListN.{length, get_or}
use Rattle.layout.specs.Bytes.{words_of}

pub words_length : (bs : List ℕ) → length (words_of bs) ≡ length bs / 4
unfolding words_of
words_length [] = refl
words_length (a ∷ []) = refl
words_length (a ∷ b ∷ []) = refl
words_length (a ∷ b ∷ c ∷ []) = refl
words_length (a ∷ b ∷ c ∷ d ∷ bs) = let ih = words_length bs in omega arith

past : (a b c d : ℕ) (bs : List ℕ) (j i : ℕ) → j ≡ suc (suc (suc (suc i))) → get_or (a ∷ b ∷ c ∷ d ∷ bs) j 0 ≡ get_or bs i 0
past a b c d bs j i e = ap (λ (k : ℕ). get_or (a ∷ b ∷ c ∷ d ∷ bs) k 0) e

pub words_at : (bs : List ℕ) (i : ℕ) → 4 * i + 3 < length bs
    → get_or (words_of bs) i 0 ≡ get_or bs (4 * i) 0 + 256 * get_or bs (4 * i + 1) 0 + 256 ^ 2 * get_or bs (4 * i + 2) 0 + 256 ^ 3 * get_or bs (4 * i + 3) 0
unfolding words_of
words_at [] i h = absurd (omega arith)
words_at (a ∷ []) i h = absurd (omega arith)
words_at (a ∷ b ∷ []) i h = absurd (omega arith)
words_at (a ∷ b ∷ c ∷ []) i h = absurd (omega arith)
words_at (a ∷ b ∷ c ∷ d ∷ bs) zero h = refl
words_at (a ∷ b ∷ c ∷ d ∷ bs) (suc i) h =
    rw (
      past a b c d bs (4 * suc i) (4 * i) (omega arith),
      past a b c d bs (4 * suc i + 1) (4 * i + 1) (omega arith),
      past a b c d bs (4 * suc i + 2) (4 * i + 2) (omega arith),
      past a b c d bs (4 * suc i + 3) (4 * i + 3) (omega arith),
    )
    (words_at bs i (omega arith))
