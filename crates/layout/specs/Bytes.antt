-- Document 01, "What the calls do": "It keeps the main table as bytes, four a slot, lowest first".
use Rattle.std.specs.Prelude.{ℕ, ◌+◌, ◌*◌, ◌^◌, List, [], ◌∷◌}

unfoldable pub words_of : List ℕ → List ℕ
words_of [] = []
words_of (a ∷ []) = []
words_of (a ∷ b ∷ []) = []
words_of (a ∷ b ∷ c ∷ []) = []
words_of (a ∷ b ∷ c ∷ d ∷ bytes) = (a + 256 * b + 256 ^ 2 * c + 256 ^ 3 * d) ∷ words_of bytes
