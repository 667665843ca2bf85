-- The limit lies below the table's size. The extra bits of eighteen generations are a table's, at most 10 and rising: one test, computed at each entry, and
-- one law that turns it into the rule.
use mathlib.Core.Path.{◌≡◌}
use mathlib.Core.Bool.{Bool, true, false, ◌&&◌}
use mathlib.Core.List.{List, [], ◌∷◌}
use Prim.Native.Nat.{ℕ, ◌+◌, ◌-◌, ◌≤◌, ◌<◌, ◌^◌}
use native.Mathlib.Omega.{arith}
use lib.Dec.{eqb, leb, eqb→eq, leb→le}
use lib.ListN.{get_or}
use lib.Pow.{pow_pos}
use Rattle.slots.specs.Numbers.{limit, first_power, rounded_up_log, widening, extra}
use Rattle.slots.proofs.Table.{at, both}

pub limit-lt : (n : ℕ) → limit n < 2 ^ n
unfolding limit
limit-lt n = omega (arith, pow_pos n, pow_pos (n - 3))

unfoldable pub table : List ℕ
table = 0 ∷ 2 ∷ 4 ∷ 4 ∷ 6 ∷ 6 ∷ 6 ∷ 6 ∷ 8 ∷ 8 ∷ 8 ∷ 8 ∷ 8 ∷ 8 ∷ 8 ∷ 8 ∷ 10 ∷ 10 ∷ []

-- the entry v of generation x is its rule's, at most 10, and at most the next generation's
right : ℕ → ℕ → Bool
right x v = eqb v (widening x) && (leb v 10 && leb v (widening (x + 1)))

pub record Widening (x v : ℕ) : Type 0 where
  pub rule : v ≡ widening x
  pub small : v ≤ 10
  pub rising : v ≤ widening (x + 1)

pub widening-at : (x : ℕ) → x < 18 → Widening x (get_or table x 0)
unfolding table right first_power rounded_up_log widening
widening-at x h =
    let v = get_or table x 0 in
    let t = both (eqb v (widening x)) (leb v 10 && leb v (widening (x + 1))) (at right table tt x h) in
    let u = both (leb v 10) (leb v (widening (x + 1))) t.1 in
    record { rule = eqb→eq v (widening x) t.0; small = leb→le v 10 u.0; rising = leb→le v (widening (x + 1)) u.1 }

pub extra-le : (g x : ℕ) → x < 18 → extra g x ≤ 10
unfolding extra
extra-le g x h = go (eqb g 0) (widening-at x h)
  where
    go : (b : Bool) → Widening x (get_or table x 0) → elim b [ true ↦ 0 | false ↦ widening x ] ≤ 10
    go true d = omega arith
    go false d = omega (arith, d.rule, d.small)

pub extra-mono : (g x : ℕ) → x < 18 → extra g x ≤ extra g (x + 1)
unfolding extra
extra-mono g x h = go (eqb g 0) (widening-at x h)
  where
    go : (b : Bool) → Widening x (get_or table x 0) → elim b [ true ↦ 0 | false ↦ widening x ] ≤ elim b [ true ↦ 0 | false ↦ widening (x + 1) ]
    go true d = omega arith
    go false d = omega (arith, d.rule, d.rising)
