-- What a refusal's number is, and what `ok_or` made of an option.
use mathlib.Core.Path.{◌≡◌, refl, ◌∙◌}
use mathlib.Core.Bool.{Bool, true, false}
use native.Mathlib.Omega.{arith}
use Rattle.std.specs.Prelude.{Option, Some, None, Err, SomeIff}
use Rattle.std.specs.Option.{ok_or}
use Rattle.filter.specs.declared.Refusal.{Refusal}
use Rattle.filter.specs.declared.Refusal.TheVariants.{Record, Lengths, NotSound, Full, NothingThere, QueueFull, QueueInUse, LargestSize, AnnexTooShort}
use Rattle.filter.specs.declared.Refusal.TheVariants.{Settings}
use Rattle.filter.specs.Numbers.{number_of}

-- 0 is no refusal's number
pub not-0 : (e : Refusal) → number_of e ≡ 0 → ⊥
not-0 Record e = absurd (omega arith)
not-0 Lengths e = absurd (omega arith)
not-0 NotSound e = absurd (omega arith)
not-0 Full e = absurd (omega arith)
not-0 NothingThere e = absurd (omega arith)
not-0 QueueFull e = absurd (omega arith)
not-0 QueueInUse e = absurd (omega arith)
not-0 LargestSize e = absurd (omega arith)
not-0 AnnexTooShort e = absurd (omega arith)
not-0 Settings e = absurd (omega arith)

-- the option had no value, and the error is the one that was named
pub none-err : {A E : Type 0} (o : Option A) (e d : E) → Err d ≡ ok_or o e → (o ≡ None) × (d ≡ e)
none-err None e d h = (refl, cc)
none-err (Some x) e d h = absurd cc

pub some-value : {A : Type 0} (o : Option A) (P : Type 0) (v x : A) → o ≡ Some x → SomeIff o P v → P × (x ≡ v)
some-value None P v x e s = absurd cc
some-value (Some y) P v x e s = (s.0, let f : x ≡ y = cc in f ∙ s.1)

pub not-true : (b : Bool) → (b ≡ true → ⊥) → b ≡ false
not-true true f = absurd (f refl)
not-true false f = refl

-- a test that lets no value out does not hold
pub wrong : {A : Type 0} (o : Option A) (b : Bool) (v : A) → o ≡ None → SomeIff o (b ≡ true) v → b ≡ false
wrong None b v e s = not-true b s
wrong (Some y) b v e s = absurd cc
