-- Document 01, "Numbers": "The load limit of a table of 2^n slots is 2^n - 2^(n-3), seven eighths."
-- And "Slots": "Extra is 0 in the fixed regime. In the widening regime extra is 2 times the rounded-up log2(X+1)."
use Rattle.std.specs.Prelude.{ℕ, zero, suc, ◌+◌, ◌-◌, ◌*◌, ◌^◌, true, false, leb, eqb}

unfoldable pub limit : ℕ → ℕ
limit n = 2 ^ n - 2 ^ (n - 3)

-- the first e, of `tries` from e on, with 2^e at least n
unfoldable pub first_power : ℕ → ℕ → ℕ → ℕ
first_power zero e n = e
first_power (suc tries) e n = elim (leb n (2 ^ e)) [ true ↦ e | false ↦ first_power tries (suc e) n ]

-- the rounded-up log2: the smallest e with 2^e at least n (n tries are enough)
unfoldable pub rounded_up_log : ℕ → ℕ
rounded_up_log n = first_power n 0 n

-- the rule of generation X in the widening regime
unfoldable pub widening : ℕ → ℕ
widening x = 2 * rounded_up_log (x + 1)

-- extra bits by regime, 0 (fixed) or 1 (widening), and generation
unfoldable pub extra : ℕ → ℕ → ℕ
extra regime x = elim (eqb regime 0) [ true ↦ 0 | false ↦ widening x ]
