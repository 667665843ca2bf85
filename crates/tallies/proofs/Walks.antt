-- The walk through one annex table in the order of the addresses: its slot, the entries that wait there and the payload asked for are those of the address,
-- and those of the next address follow from them without a search.
use mathlib.Core.Path.{◌≡◌, refl, sym, ap, ap₂, ◌∙◌, subst}
use mathlib.Core.Bool.{Bool, cond}
use mathlib.Core.List.{List, []}
use Prim.Native.Nat.{ℕ, suc, ◌+◌, ◌-◌, ◌*◌, ◌/◌, ◌%◌, ◌^◌, ◌≤◌, ◌<◌, ◌∣◌}
use native.Mathlib.Omega.{arith}
use native.Mathlib.Numerals.{add-one}
use native.Mathlib.Decide.{ℕ_discrete, dec_lt}
use native.Mathlib.Nat.{mod-lt, mod_self, suc-mod, mod-eq_of_lt, zero-mod, mod-add-div', add-mul-div_right, div-eq_of_lt, dvd-mul_left, mod-mod_of_dvd}
use borrow.Author.Tests.{lt-ltb, le-ltb}
use lib.Pow.{pow_pos, pow-add}
use lib.ListN.{length, get_or, set, length-set}
use lib.Seq.{get_or-set_same, get_or-set_other}
use Rattle.lists.specs.Runs.{count}
use Rattle.slots.specs.Payload.{pay}
use Rattle.layout.specs.Decode.{decode, place_of}
use Rattle.layout.specs.Document.{carry}
use Rattle.layout.specs.Moves.{wrap}
use Rattle.rules.specs.Tables.{hash_entry, matching}
use Rattle.annex.specs.Stored.{table_of}
use Rattle.sound.specs.Reading.{Laid, Read, read_at}
use Rattle.tallies.specs.Tally.{Raised, AtMost}
use Rattle.tallies.proofs.Sums.{count-le}
use Rattle.tallies.proofs.Carries.{carry-is, carry-small, carry-on, read_is}

-- ---- the payload stays the same up to the end of the table

next-div : (x l : ℕ) → 0 < l → (suc x % l ≡ 0 → ⊥) → suc x / l ≡ x / l
next-div x l pos nz = go (ℕ_discrete (suc (x % l)) l)
  where
    go : Dec (suc (x % l) ≡ l) → suc x / l ≡ x / l
    go (yes e) = absurd (nz (suc-mod x l ∙ ap (λ (y : ℕ). y % l) e ∙ mod_self l))
    go (no e) =
        let h : suc (x % l) < l = omega (arith, mod-lt x pos) in
        let z : suc (x % l) + x / l * l ≡ suc x = omega (arith, mod-add-div' x l) in
        ap (λ (y : ℕ). y / l) (sym z) ∙ add-mul-div_right (suc (x % l)) (x / l) pos ∙ ap (λ (y : ℕ). y + x / l) (div-eq_of_lt h) ∙ (omega arith)

power_divides : (s b : ℕ) → s < b → 2 ^ s ∣ 2 ^ b
power_divides s b h =
    let z : b - s + s ≡ b = omega arith in
    subst (λ (x : ℕ). 2 ^ s ∣ x) (sym (pow-add 2 (b - s) s) ∙ ap (λ (x : ℕ). 2 ^ x) z) (dvd-mul_left (2 ^ s) (2 ^ (b - s)))

same-print : (s b c : ℕ) → s < b → (suc c % 2 ^ s ≡ 0 → ⊥) → suc c % 2 ^ b / 2 ^ s ≡ c % 2 ^ b / 2 ^ s
same-print s b c h nz = go (ℕ_discrete (suc (c % 2 ^ b)) (2 ^ b))
  where
    low : suc c % 2 ^ b % 2 ^ s ≡ suc c % 2 ^ s
    low = mod-mod_of_dvd (2 ^ s) (suc c) (power_divides s b h)

    go : Dec (suc (c % 2 ^ b) ≡ 2 ^ b) → suc c % 2 ^ b / 2 ^ s ≡ c % 2 ^ b / 2 ^ s
    go (yes e) =
        let z : suc c % 2 ^ b ≡ 0 = suc-mod c (2 ^ b) ∙ ap (λ (y : ℕ). y % 2 ^ b) e ∙ mod_self (2 ^ b) in
        absurd (nz (sym low ∙ ap (λ (y : ℕ). y % 2 ^ s) z ∙ zero-mod (2 ^ s)))
    go (no e) =
        let l : suc (c % 2 ^ b) < 2 ^ b = omega (arith, mod-lt c (pow_pos b)) in
        let z : suc c % 2 ^ b ≡ suc (c % 2 ^ b) = suc-mod c (2 ^ b) ∙ mod-eq_of_lt l in
        ap (λ (y : ℕ). y / 2 ^ s) z
        ∙ next-div (c % 2 ^ b) (2 ^ s) (pow_pos s) (λ y. nz (sym low ∙ ap (λ (x : ℕ). x % 2 ^ s) z ∙ y))

-- ---- the next slot

one-round : (n a : ℕ) → a < n → wrap n a 1 ≡ suc a % n
unfolding wrap
one-round n a h = go (dec_lt (a + 1) n)
  where
    go : Dec (a + 1 < n) → wrap n a 1 ≡ suc a % n
    go (yes l) = ap (λ (b : Bool). cond b (a + 1) (a + 1 - n)) (lt-ltb (a + 1) n l) ∙ (omega (arith, mod-eq_of_lt l, ap (λ (x : ℕ). x % n) (add-one a)))
    go (no l) =
        let z : suc a ≡ n = omega arith in
        ap (λ (b : Bool). cond b (a + 1) (a + 1 - n)) (le-ltb (a + 1) n (omega arith)) ∙ (omega (arith, ap (λ (x : ℕ). x % n) z ∙ mod_self n))

-- ---- at address c: its slot in the table, the entries that wait there, and the payload of a mother hash that matches it

pub record Reached (part : List ℕ) (b s c a k p : ℕ) : Type 0 where
  pub slot : a ≡ c % 2 ^ s
  pub waiting : k ≡ carry (decode part) a
  pub payload : p ≡ hash_entry b s (c % 2 ^ b)

module _ (part : List ℕ) (b s : ℕ) (laid : Laid part) (en : length part ≡ 2 ^ s) where
  slot-in : (c a : ℕ) → a ≡ c % 2 ^ s → a < length part
  slot-in c a e = omega (arith, mod-lt c (pow_pos s))

  pub reached-first : (c a k p : ℕ) → a ≡ c % 2 ^ s → k ≡ place_of part a → p ≡ hash_entry b s (c % 2 ^ b) → Reached part b s (c + 0) a k p
  reached-first c a k p ea ek ep =
      let z : c ≡ c + 0 = omega arith in
      record {
        slot = ea ∙ ap (λ (x : ℕ). x % 2 ^ s) z;
        waiting = carry-is part laid a k (slot-in c a ea) ek;
        payload = ep ∙ ap (λ (x : ℕ). hash_entry b s (x % 2 ^ b)) z;
      }

  module _ (c a k p : ℕ) (r : Reached part b s c a k p) where
    pub reached-in : a < length part
    reached-in = slot-in c a r.slot

    pub reached-small : k < length part
    reached-small = carry-small part laid a k reached-in r.waiting

    run_is : read_at part a k ≡ get_or (decode part) (c % 2 ^ s) []
    run_is = read_is part laid a k reached-in r.waiting ∙ ap (λ (x : ℕ). get_or (decode part) x []) r.slot

    pub reached-count : (m : ℕ) → m ≡ count p (read_at part a k) → m ≡ matching c (table_of b s part)
    unfolding matching
    reached-count m e = e ∙ ap₂ (λ (x : ℕ) (l : List ℕ). count x l) r.payload run_is

    module _ (c' a' k' : ℕ) (ec : c' ≡ suc c) (ea : a' ≡ wrap (length part) a 1) (ek : k' ≡ k + length (read_at part a k) - 1) where
      round : a' ≡ suc a % length part
      round = ea ∙ one-round (length part) a reached-in

      next-is : a' ≡ suc c % 2 ^ s
      next-is = round ∙ ap₂ (λ (x y : ℕ). suc x % y) r.slot en ∙ sym (suc-mod c (2 ^ s))

      next-waiting : k' ≡ carry (decode part) a'
      next-waiting = carry-on part laid a k reached-in r.waiting k' ek ∙ ap (carry (decode part)) (sym round)

      -- where the table begins anew, the payload is asked for anew
      pub reached-anew : (p' : ℕ) → p' ≡ hash_entry b s (c' % 2 ^ b) → Reached part b s c' a' k' p'
      reached-anew p' ep = record { slot = next-is ∙ ap (λ (x : ℕ). x % 2 ^ s) (sym ec); waiting = next-waiting; payload = ep }

      pub reached-next : s < b → (a' ≡ 0 → ⊥) → Reached part b s c' a' k' p
      reached-next h nz =
          reached-anew p
          (r.payload ∙ ap (pay 18 (b - s)) (sym (same-print s b c h (λ z. nz (next-is ∙ z)))) ∙ ap (λ (x : ℕ). hash_entry b s (x % 2 ^ b)) (sym ec))

pub few-found : (part : List ℕ) (c k t v len m n : ℕ) → length part ≤ 1048576 → Read part c k t v len m n → (len ≤ 1048576) × (n ≤ 1048576)
few-found part c k t v len m n h r =
    (omega (arith, r.fits), omega (arith, r.fits, r.size, r.voids, count-le v (read_at part c k)))

-- ---- the counters, of which the first i have risen

module _ (f : ℕ → ℕ) (base : ℕ) (before : List ℕ) where
  pub raised-none : Raised f base 0 before before
  raised-none = record { size = refl; raised = λ j h. absurd (omega arith); others = λ j h. refl }

  module _ (i : ℕ) (now : List ℕ) (r : Raised f base i before now) (hi : i < length before) where
    pub raised-in : i < length now
    raised-in = omega (arith, r.size)

    pub raised-small : (m : ℕ) → AtMost m before → get_or now i 0 ≤ m
    raised-small m b = omega (arith, r.others i (omega arith), b i)

    pub raised-one : (m : ℕ) (after : List ℕ) → m ≡ f (base + i) → after ≡ set now i (get_or now i 0 + m) → Raised f base (i + 1) before after
    raised-one m after em ea =
        rw ea
        (record {
          size = simp length-set r.size;
          raised = λ j h. go j h (ℕ_discrete j i);
          others = λ j h. get_or-set_other now i j (get_or now i 0 + m) 0 (λ z. absurd (omega arith)) ∙ r.others j (omega arith);
        })
      where
        go : (j : ℕ) → j < i + 1 → Dec (j ≡ i) → get_or (set now i (get_or now i 0 + m)) j 0 ≡ get_or before j 0 + f (base + j)
        go j h (yes z) =
            ap (λ (x : ℕ). get_or (set now i (get_or now i 0 + m)) x 0) z ∙ get_or-set_same now i (get_or now i 0 + m) 0 raised-in
            ∙ ap₂ (λ (x y : ℕ). x + y) (r.others i (omega arith)) em ∙ ap (λ (x : ℕ). get_or before x 0 + f (base + x)) (sym z)
        go j h (no z) = get_or-set_other now i j (get_or now i 0 + m) 0 z ∙ r.raised j (omega arith)
