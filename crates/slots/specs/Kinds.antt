-- Document 01, "Slots": "The three low bits make eight cases: 0 empty (whole word zero), 1 run start at home, 4 and 5 run start moved, 6 and 7 continuation,
-- 2 and 3 never allowed."
use Rattle.std.specs.Prelude.{ℕ, List, [], ◌∷◌, get_or}
use Rattle.slots.specs.declared.Kind.{Kind}
use Rattle.slots.specs.declared.Kind.TheVariants.{Empty, StartAtHome, StartMoved, Continuation, NeverAllowed}

-- the cases of the numbers 0 to 7
unfoldable pub kinds : List Kind
kinds = Empty ∷ StartAtHome ∷ NeverAllowed ∷ NeverAllowed ∷ StartMoved ∷ StartMoved ∷ Continuation ∷ Continuation ∷ []

unfoldable pub kind_of : ℕ → Kind
kind_of low = get_or kinds low NeverAllowed
