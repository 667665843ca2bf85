-- How many mother hashes match an address: a mother hash is told by its canonical slot and its payload, so one that is taken or added counts at the addresses
-- with its b low bits, and nowhere else.
use mathlib.Core.Path.{◌≡◌, refl, sym, ap, ap₂, ◌∙◌, subst}
use mathlib.Core.List.{List, [], ◌∷◌, ◌++◌}
use Prim.Native.Nat.{ℕ, ◌+◌, ◌-◌, ◌*◌, ◌/◌, ◌%◌, ◌^◌, ◌≤◌, ◌<◌}
use native.Mathlib.Omega.{arith}
use native.Mathlib.Nat.{mod-lt}
use native.Mathlib.Decide.{ℕ_discrete}
use lib.Pow.{pow_pos, split, mod-mod-pow, shr_lt}
use lib.ListN.{length, get_or, set}
use lib.Seq.{get_or-set_same, get_or-set_other}
use Rattle.lists.specs.Lists.{sum}
use Rattle.lists.specs.Runs.{add, erase, count, at}
use Rattle.lists.proofs.Tests.{is, is-yes, is-no}
use Rattle.lists.proofs.Sums.{sum-append}
use Rattle.lists.proofs.RunLaws.{count_add, count-erase}
use Rattle.slots.proofs.PayloadLaws.{pay-inj}
use Rattle.rules.specs.Tables.{Table, hash_entry, matching, mothers_of}
use Rattle.keeps.proofs.Annex.{Tables}

-- fewer low bits
pub low_bits : (n k a c : ℕ) → n ≤ k → a % 2 ^ k ≡ c % 2 ^ k → a % 2 ^ n ≡ c % 2 ^ n
low_bits n k a c h e =
    let s : k ≡ k - n + n = omega arith in
    sym (mod-mod-pow a (k - n) n) ∙ ap (λ x. x % 2 ^ n) (subst (λ x. a % 2 ^ x ≡ c % 2 ^ x) s e) ∙ mod-mod-pow c (k - n) n

pub mod_low : (n b s : ℕ) → s ≤ b → n % 2 ^ b % 2 ^ s ≡ n % 2 ^ s
mod_low n b s h =
    let e : b ≡ b - s + s = omega arith in
    ap (λ x. n % 2 ^ x % 2 ^ s) e ∙ mod-mod-pow n (b - s) s

-- the fingerprint of a mother hash has b-s bits
pub hash-fits : (b s m : ℕ) → s ≤ b → m < 2 ^ b → m / 2 ^ s < 2 ^ (b - s)
hash-fits b s m h l = let e : b ≡ b - s + s = omega arith in shr_lt (b - s) s (subst (λ x. m < 2 ^ x) e l)

-- two mother hashes with one canonical slot have one payload exactly if they are the same
pub hash-is : (b s m n : ℕ) → s ≤ b → b - s < 18 → m < 2 ^ b → n < 2 ^ b → m % 2 ^ s ≡ n % 2 ^ s → is (hash_entry b s m) (hash_entry b s n) ≡ is m n
hash-is b s m n h l hm hn e = go (ℕ_discrete m n)
  where
    go : Dec (m ≡ n) → is (hash_entry b s m) (hash_entry b s n) ≡ is m n
    go (yes q) = is-yes (hash_entry b s m) (hash_entry b s n) (ap (hash_entry b s) q) ∙ sym (is-yes m n q)
    go (no q) = is-no (hash_entry b s m) (hash_entry b s n) (λ x. q (same x)) ∙ sym (is-no m n q)
      where
        same : hash_entry b s m ≡ hash_entry b s n → m ≡ n
        same x =
            let d : m / 2 ^ s ≡ n / 2 ^ s = (pay-inj 18 (b - s) (m / 2 ^ s) (b - s) (n / 2 ^ s) l (hash-fits b s m h hm) l (hash-fits b s n h hn) x).1 in
            sym (split m s) ∙ ap₂ (λ (u v : ℕ). u * 2 ^ s + v) d e ∙ split n s

-- the run of slot x of a table is changed
abbrev pub changed : Table → ℕ → (List ℕ → List ℕ) → Table
changed t x f = record { b = t.b; s = t.s; runs = at x f t.runs }

-- .. where mother hash m has its slot
module _ (t : Table) (x m a : ℕ) (s_b : t.s ≤ t.b) (n18 : t.b - t.s < 18) (slot : x < length t.runs) (hm : m < 2 ^ t.b) (hx : m % 2 ^ t.s ≡ x) where
  abbrev run : List ℕ
  run = get_or t.runs x []

  abbrev p : ℕ
  p = hash_entry t.b t.s (a % 2 ^ t.b)

  abbrev q : ℕ
  q = hash_entry t.b t.s m

  -- what the change does to the count in that run, it does to the match
  count-change : (f : List ℕ → List ℕ) (y z : ℕ) → (a % 2 ^ t.s ≡ x → count p (f run) + y ≡ count p run + z) → ((a % 2 ^ t.s ≡ x → ⊥) → y ≡ z)
      → matching a (changed t x f) + y ≡ matching a t + z
  unfolding matching
  count-change f y z here there = go (ℕ_discrete (a % 2 ^ t.s) x)
    where
      go : Dec (a % 2 ^ t.s ≡ x) → count p (get_or (set t.runs x (f run)) (a % 2 ^ t.s) []) + y ≡ count p (get_or t.runs (a % 2 ^ t.s) []) + z
      go (yes e) =
          ap (λ (c : ℕ). count p (get_or (set t.runs x (f run)) c []) + y) e
          ∙ ap (λ (l : List ℕ). count p l + y) (get_or-set_same t.runs x (f run) [] slot)
          ∙ here e ∙ ap (λ (c : ℕ). count p (get_or t.runs c []) + z) (sym e)
      go (no e) = ap₂ (λ (l : List ℕ) (n : ℕ). count p l + n) (get_or-set_other t.runs x (a % 2 ^ t.s) (f run) [] e) (there e)

  is-there : a % 2 ^ t.s ≡ x → is p q ≡ is (a % 2 ^ t.b) m
  is-there e = hash-is t.b t.s (a % 2 ^ t.b) m s_b n18 (mod-lt a (pow_pos t.b)) hm (mod_low a t.b t.s s_b ∙ e ∙ sym hx)

  not_there : (a % 2 ^ t.s ≡ x → ⊥) → is (a % 2 ^ t.b) m ≡ 0
  not_there ne = is-no (a % 2 ^ t.b) m (λ e. ne (sym (mod_low a t.b t.s s_b) ∙ ap (λ n. n % 2 ^ t.s) e ∙ hx))

  -- m is taken
  pub matching-taken : 0 < count q run → matching a (changed t x (erase q)) + is (a % 2 ^ t.b) m ≡ matching a t
  matching-taken c =
      count-change (erase q) (is (a % 2 ^ t.b) m) 0
      (λ e. ap (λ n. count p (erase q run) + n) (sym (is-there e)) ∙ count-erase q p run c ∙ omega arith) not_there
      ∙ omega arith

  -- m is added
  pub matching-added : matching a (changed t x (add q)) ≡ is (a % 2 ^ t.b) m + matching a t
  matching-added =
      let e = count-change (add q) 0 (is (a % 2 ^ t.b) m) (λ e. omega (arith, is-there e, count_add q p run)) (λ ne. sym (not_there ne)) in
      omega arith

-- ---- all tables

pub mothers-append : (a : ℕ) (ts us : List Table) → mothers_of a (ts ++ us) ≡ mothers_of a ts + mothers_of a us
unfolding mothers_of
mothers-append a ts us = sum-append (matching a) ts us

-- they see the low k bits of an address only
pub mothers-low : (k last a c : ℕ) (ts : List Table) → Tables k last ts → a % 2 ^ k ≡ c % 2 ^ k → mothers_of a ts ≡ mothers_of c ts
unfolding mothers_of sum matching
mothers-low k last a c [] v e = refl
mothers-low k last a c (t ∷ ts) v e =
    let f = v.0 in
    ap₂ ◌+◌
    (ap₂ (λ (x y : ℕ). count (hash_entry t.b t.s x) (get_or t.runs y [])) (low_bits t.b k a c f.short e) (low_bits t.s k a c (omega (arith, f.short, f.s_b)) e))
    (mothers-low k t.b a c ts v.1 e)
