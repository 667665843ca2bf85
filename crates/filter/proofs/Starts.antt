-- Start, over a record that is there: its two tests decide its number.
use mathlib.Core.Path.{◌≡◌, refl, sym, ap, ap₂, ◌∙◌}
use mathlib.Core.Bool.{Bool, true, false}
use mathlib.Core.List.{List, [], ◌∷◌}
use Prim.Native.Nat.{ℕ, zero, suc, ◌≤◌, ◌<◌, ◌^◌}
use native.Mathlib.Omega.{arith}
use lib.Dec.{leb, leb→le}
use lib.ListN.{length, get_or, replicate}
use Rattle.std.specs.Array.{AllOfLen}
use borrow.Author.Tests.{eq-eqb, ne_eqb}
use Rattle.lists.specs.Lists.{within}
use Rattle.lists.proofs.Tests.{and_left, and_right, true-test}
use Rattle.directory.specs.declared.Place.{Place}
use Rattle.directory.specs.Places.{no_place}
use Rattle.rules.specs.Record.{Filter, all_zero}
use Rattle.rules.specs.Refusals.{refusal, settings_right}
use Rattle.rules.specs.Calls.{Outcome, give, refused, start_number, started, start}
use Rattle.filter.specs.declared.Record.{Record}
use Rattle.filter.specs.Plain.{plain}
use Rattle.filter.specs.Promises.{Leaves}
use Rattle.filter.specs.Restart.{restart}

pub power-low : (power f regime : ℕ) → settings_right power f regime ≡ true → power ≤ 10
unfolding settings_right
power-low power f regime e =
    leb→le _ _ (and_right (leb 3 power) (leb power 10) (and_left (within 3 10 power) (mathlib.Core.Bool.◌&&◌ (within 3 15 f) (leb regime 1)) (true-test _ e)))

module _ (r : Filter) (power f regime : ℕ) (main queue annex : List ℕ) where
  as-refused : (n : ℕ) → start_number power f regime (length main) ≡ suc n → Leaves (restart r power f regime main queue annex) (suc n) r main queue annex
  unfolding restart give refused
  as-refused n e = rw (e, give) (record { number_is = refl; rec_is = refl; main_is = refl; queue_is = refl; annex_is = refl })

  pub start-11 : settings_right power f regime ≡ false → Leaves (restart r power f regime main queue annex) 11 r main queue annex
  unfolding start_number refusal
  start-11 e = as-refused 10 (rw (e, refusal))

  pub start_3 : settings_right power f regime ≡ true → (n : ℕ) → n ≡ 2 ^ power → (length main ≡ n → ⊥)
      → Leaves (restart r power f regime main queue annex) 3 r main queue annex
  unfolding start_number refusal
  start_3 e n en ne = as-refused 2 (rw (e, ne_eqb (length main) (2 ^ power) (λ x. ne (x ∙ sym en)), refusal))

  number-0 : settings_right power f regime ≡ true → length main ≡ 2 ^ power → start_number power f regime (length main) ≡ 0
  unfolding start_number refusal
  number-0 e l = rw (e, eq-eqb (length main) (2 ^ power) l, refusal)

  pub start-0 : settings_right power f regime ≡ true → (n : ℕ) → n ≡ 2 ^ power → length main ≡ n → (r' : Filter) → r' ≡ started power f regime
      → (main' : List ℕ) → main' ≡ replicate (length main) 0
      → Leaves (restart r power f regime main queue annex) 0 r' main' queue annex
  unfolding restart start give
  start-0 e n en l r' er main' em =
      rw (number-0 e (l ∙ en), give)
      (record { number_is = refl; rec_is = er; main_is = em ∙ ap (λ (x : ℕ). replicate x 0) (l ∙ en); queue_is = refl; annex_is = refl })

all-same : {A : Type 0} (x : A) (xs : List A) → ((i : ℕ) (d : A) → i < length xs → get_or xs i d ≡ x) → xs ≡ replicate (length xs) x
all-same x [] f = refl
all-same x (y ∷ ys) f = ap₂ (◌∷◌) (f 0 x (omega arith)) (all-same x ys (λ i d h. f (suc i) d (omega arith)))

-- what the derived defaults give
abbrev Zero : Place → Type 0
Zero p = (p.b ≡ 0) × ((p.s ≡ 0) × (p.count ≡ 0))

zero-place : (p : Place) → Zero p → p ≡ no_place
zero-place p z = λ i. record { b = z.0 i; s = z.1.0 i; count = z.1.1 i }

zero-places : (ps : List Place) → AllOfLen Zero ps 15 → ps ≡ replicate 15 no_place
zero-places ps z = all-same no_place ps (λ i d h. zero-place (get_or ps i d) (z.at i d (omega (arith, z.long)))) ∙ ap (λ (n : ℕ). replicate n no_place) z.long

pub zeroed : (r : Record)
    → (r.k ≡ 0) × ((r.start ≡ 0) × ((r.f ≡ 0) × ((r.regime ≡ 0) × ((r.used ≡ 0) × ((r.queued ≡ 0) × AllOfLen Zero r.dir 15)))))
    → plain r ≡ all_zero
zeroed r z =
    λ i.
    record {
      k = z.0 i;
      start = z.1.0 i;
      f = z.1.1.0 i;
      regime = z.1.1.1.0 i;
      used = z.1.1.1.1.0 i;
      queued = z.1.1.1.1.1.0 i;
      dir = zero-places r.dir z.1.1.1.1.1.1 i;
    }

-- the record of a fresh filter
pub fresh-record : (power f regime : ℕ) (r : Filter) → r ≡ all_zero
    → record { k = power; start = power; f = f; regime = regime; used = r.used; queued = r.queued; dir = r.dir } ≡ started power f regime
unfolding started
fresh-record power f regime r e =
    ap (λ (x : Filter). record { k = power; start = power; f = f; regime = regime; used = x.used; queued = x.queued; dir = x.dir }) e

once : (n : ℕ) (done refused : Outcome) → give n (give n done refused) refused ≡ give n done refused
unfolding give
once zero done refused = refl
once (suc n) done refused = refl

-- Start over an all-zero record is Start
pub restart-zero : (power f regime : ℕ) (main queue annex : List ℕ) → restart all_zero power f regime main queue annex ≡ start power f regime main queue annex
unfolding restart start
restart-zero power f regime main queue annex = once (start_number power f regime (length main)) _ _
