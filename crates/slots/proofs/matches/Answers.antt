-- Three answers, each by what is left of the payload: nothing past the width, nothing of a tombstone, and else the fingerprint compared.
use mathlib.Core.Path.{◌≡◌, sym, ap}
use mathlib.Core.Bool.{false, ◌&&◌}
use Prim.Native.Nat.{ℕ, ◌-◌, ◌%◌, ◌^◌, ◌≤◌}
use native.Mathlib.Omega.{arith}
use lib.Dec.{eqb}
use borrow.Author.Rules.{rules}
use borrow.Author.Tests.{lt-ltb}
use Rattle.slots.specs.Payload.{rest_of, length_of, fingerprint_of, hash_bits, matches}
use Rattle.slots.proofs.PayloadLaws.{none-matches, rest_le, rest-large}
use Rattle.slots.proofs.matches.Goals as goal

no-rest : (w k h p m : ℕ) → m ≡ rest_of w p → m ≡ 0 → false ≡ matches w k h p
no-rest w k h p m e z = sym (none-matches w k h p (omega arith))

too_large : (w k h p top : ℕ) → top ≡ 2 ^ w → top ≤ p → false ≡ matches w k h p
too_large w k h p top e le = sym (none-matches w k h p (rest-large w p (omega arith)))

compared : (w k h p m top f : ℕ) → m ≡ rest_of w p → (m ≡ 0 → ⊥) → top ≡ 2 ^ (m - 1) → f ≡ hash_bits h k (m - 1) → eqb (p % top) f ≡ matches w k h p
unfolding matches length_of fingerprint_of
compared w k h p m top f e n t b =
    rw (t, b, e)
    (ap (λ x. x && eqb (p % 2 ^ (rest_of w p - 1)) (hash_bits h k (rest_of w p - 1))) (sym (lt-ltb 0 (rest_of w p) (omega arith))))

pub returns-then-pow2-payload : goal.returns-then-pow2-payload
returns-then-pow2-payload c = search (rules, too_large)

pub returns-in-0 : goal.returns-in-0
returns-in-0 c = search (rules, no-rest)

pub pow2-requires-in_default : goal.pow2-requires-in_default
pow2-requires-in_default c = omega (arith, rest_le c.args.w c.args.payload)

pub hash_bits-requires : goal.hash_bits-requires
hash_bits-requires c = omega (arith, rest_le c.args.w c.args.payload)

pub returns-in_default : goal.returns-in_default
returns-in_default c = search (rules, compared)
