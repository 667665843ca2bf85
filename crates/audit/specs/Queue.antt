-- Document 01, "What the calls do": "queue addresses are below 2^k".
use Rattle.std.specs.Prelude.{ℕ, ◌/◌, ◌^◌, Bool, List, ltb}
use Rattle.lists.specs.Lists.{every}

unfoldable pub addresses_below : ℕ → List ℕ → Bool
addresses_below k ws = every (λ (w : ℕ). ltb (w / 2) (2 ^ k)) ws
