-- What the walks of the code read: runs by their place in a circle of words.
use Rattle.std.specs.Prelude.{Bool, cond, List, [], ◌∷◌, ℕ, suc, ltb, drop}
use Rattle.layout.specs.Machine.{Entry, start, more}
use Rattle.layout.specs.Decode.{mores}
use Rattle.layout.specs.Moves.{wrap, back, rights}

abbrev pub payload_of : Entry → ℕ
payload_of (start p) = p
payload_of (more p) = p

-- the run that the first of these entries begins
unfoldable pub here : List Entry → List ℕ
here [] = []
here (e ∷ es) = payload_of e ∷ mores es

-- the run that begins f slots on from b
unfoldable pub run_from : List ℕ → ℕ → ℕ → List ℕ
run_from ws b f = here (drop f (rights ws b))

-- where a walk of k slots to the left of c ends; the slot after c, if it is the whole circle
unfoldable pub home_of : ℕ → ℕ → ℕ → ℕ
home_of n c k = cond (ltb k n) (back n c k) (wrap n c 1)

-- how many come before the first for which the test is true
unfoldable pub index : (ℕ → Bool) → List ℕ → ℕ
index f [] = 0
index f (y ∷ ys) = cond (f y) 0 (suc (index f ys))
