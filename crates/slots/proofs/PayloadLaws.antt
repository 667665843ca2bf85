-- The payloads of one width, shown by the range of numbers that each length has: p has m bits left exactly where 2 ^ w ≤ p + 2 ^ m and 2 p + 2 ^ m < 2 2 ^ w.
use mathlib.Core.Path.{◌≡◌, refl, sym, ap, ap₂, ◌∙◌, subst, subst₂}
use mathlib.Core.Bool.{Bool, true, false, cond, ◌&&◌}
use Prim.Native.Nat.{ℕ, zero, suc, ◌+◌, ◌-◌, ◌*◌, ◌/◌, ◌%◌, ◌^◌, ◌≤◌, ◌<◌}
use native.Mathlib.Omega.{arith}
use native.Mathlib.Nat.{pow-suc, pow-zero, mul-sub, mul_comm, mod-lt, mod-one}
use native.Mathlib.Numerals.{add-one, sub-one}
use native.Mathlib.Decide.{dec_lt}
use lib.Dec.{ltb, eqb, T}
use lib.Pow.{pow_pos, pow_mono, pow-add}
use lib.Arith.{digits_mod}
use borrow.Author.Tests.{ltb-true, ltb-false, eqb-true, lt-ltb, le-ltb, eq-eqb}
use Rattle.slots.specs.Payload.{pay, void, tombstone, rest_of, length_of, fingerprint_of, hash_bits, matches, fresh_payload}

-- the payloads with m bits left
pub record Range (w p m : ℕ) : Type 0 where
  pub low : 2 ^ w ≤ p + 2 ^ m
  pub high : 2 * p + 2 ^ m < 2 * 2 ^ w

pub rest-range : (w p : ℕ) → p < 2 ^ w → Range w p (rest_of w p)
unfolding rest_of
rest-range zero p h = record { low = omega (arith, pow-zero 2); high = omega (arith, pow-zero 2) }
rest-range (suc j) p h = go (ltb p (2 ^ j)) refl (rest-range j (p - 2 ^ j))
  where
    go : (b : Bool) → ltb p (2 ^ j) ≡ b → (p - 2 ^ j < 2 ^ j → Range j (p - 2 ^ j) (rest_of j (p - 2 ^ j))) → Range (suc j) p (cond b (suc j) (rest_of j (p - 2 ^ j)))
    go true e rec = record { low = omega arith; high = omega (arith, pow-suc 2 j, ltb-true p (2 ^ j) e) }
    go false e rec =
        let ih = rec (omega (arith, pow-suc 2 j, ltb-false p (2 ^ j) e)) in
        record { low = omega (arith, pow-suc 2 j, ltb-false p (2 ^ j) e, ih.low); high = omega (arith, pow-suc 2 j, ltb-false p (2 ^ j) e, ih.high) }

pub rest_le : (w p : ℕ) → rest_of w p ≤ w
unfolding rest_of
rest_le zero p = omega arith
rest_le (suc j) p = go (ltb p (2 ^ j)) (rest_le j (p - 2 ^ j))
  where
    go : (b : Bool) → rest_of j (p - 2 ^ j) ≤ j → cond b (suc j) (rest_of j (p - 2 ^ j)) ≤ suc j
    go true ih = omega arith
    go false ih = omega arith

-- no number past the width has bits left
pub rest-large : (w p : ℕ) → 2 ^ w ≤ p → rest_of w p ≡ 0
unfolding rest_of
rest-large zero p h = refl
rest-large (suc j) p h =
    let le : 2 ^ j ≤ p - 2 ^ j = omega (arith, pow-suc 2 j) in
    ap (λ b. cond b (suc j) (rest_of j (p - 2 ^ j))) (le-ltb p (2 ^ j) (omega arith)) ∙ rest-large j (p - 2 ^ j) le

-- a payload has one length
range-le : (w p m n : ℕ) → Range w p m → Range w p n → n ≤ m
range-le w p m n r s = go (dec_lt m n)
  where
    go : Dec (m < n) → n ≤ m
    go (yes lt) = omega (arith, r.low, s.high, pow_mono {i = suc m} {j = n} lt, pow-suc 2 m)
    go (no nlt) = omega arith

pub range_unique : (w p m n : ℕ) → Range w p m → Range w p n → m ≡ n
range_unique w p m n r s = omega (arith, range-le w p m n r s, range-le w p n m s r)

pub rest-of-range : (w p m : ℕ) → Range w p m → rest_of w p ≡ m
rest-of-range w p m r = range_unique w p _ m (rest-range w p (omega (arith, r.high))) r

-- longer first
pub range-order : (w p m q n : ℕ) → Range w p m → Range w q n → m < n → q < p
range-order w p m q n r s lt = omega (arith, r.low, s.high, pow_mono {i = suc m} {j = n} lt, pow-suc 2 m)

pub longer-first : (w p q : ℕ) → p < 2 ^ w → q < 2 ^ w → rest_of w p < rest_of w q → q < p
longer-first w p q hp hq lt = range-order w p _ q _ (rest-range w p hp) (rest-range w q hq) lt

-- encode
pub pay-range : (w l f : ℕ) → l < w → f < 2 ^ l → Range w (pay w l f) (l + 1)
unfolding pay
pay-range w l f hl hf =
    let up : 2 ^ suc l ≤ 2 ^ w = pow_mono hl in
    rw add-one (record { low = omega (arith, up); high = omega (arith, up, pow-suc 2 l) })

pub pay-lt : (w l f : ℕ) → l < w → f < 2 ^ l → pay w l f < 2 ^ w
pay-lt w l f hl hf = let r = pay-range w l f hl hf in omega (arith, r.high, pow_pos (l + 1))

pub rest-pay : (w l f : ℕ) → l < w → f < 2 ^ l → rest_of w (pay w l f) ≡ l + 1
rest-pay w l f hl hf = rest-of-range w (pay w l f) (l + 1) (pay-range w l f hl hf)

pub length-pay : (w l f : ℕ) → l < w → f < 2 ^ l → length_of w (pay w l f) ≡ l
unfolding length_of
length-pay w l f hl hf = omega (arith, rest-pay w l f hl hf)

-- the part above the fingerprint is a multiple of 2 ^ l
pub pay-mod : (w l f : ℕ) → l < w → f < 2 ^ l → pay w l f % 2 ^ l ≡ f
unfolding pay
pay-mod w l f hl hf = ap (λ x. x % 2 ^ l) e ∙ digits_mod (2 ^ (w - l) - 2) hf
  where
    e : 2 ^ w - 2 ^ (l + 1) + f ≡ (2 ^ (w - l) - 2) * 2 ^ l + f
    e =
        let s : 2 ^ w ≡ 2 ^ (w - l) * 2 ^ l = ap (λ x. 2 ^ x) (omega arith) ∙ pow-add 2 (w - l) l in
        let t : (2 ^ (w - l) - 2) * 2 ^ l ≡ 2 ^ (w - l) * 2 ^ l - 2 * 2 ^ l = mul_comm _ _ ∙ mul-sub (2 ^ l) (2 ^ (w - l)) 2 ∙ ap₂ ◌-◌ (mul_comm _ _) (mul_comm _ _) in
        omega (arith, s, t, pow-suc 2 l, ap (λ x. 2 ^ x) (add-one l))

pub bits-pay : (w l f : ℕ) → l < w → f < 2 ^ l → fingerprint_of w (pay w l f) ≡ f
unfolding fingerprint_of
bits-pay w l f hl hf = ap (λ x. pay w l f % 2 ^ x) (length-pay w l f hl hf) ∙ pay-mod w l f hl hf

-- encode is injective
pub pay-inj : (w l f m g : ℕ) → l < w → f < 2 ^ l → m < w → g < 2 ^ m → pay w l f ≡ pay w m g → (l ≡ m) × (f ≡ g)
pay-inj w l f m g hl hf hm hg e =
    (sym (length-pay w l f hl hf) ∙ ap (length_of w) e ∙ length-pay w m g hm hg, sym (bits-pay w l f hl hf) ∙ ap (fingerprint_of w) e ∙ bits-pay w m g hm hg)

-- decode: a payload is a tombstone, or is what it decodes to
pub rest-zero : (w p : ℕ) → p < 2 ^ w → rest_of w p ≡ 0 → p ≡ tombstone w
unfolding tombstone
rest-zero w p hp e = let r = rest-range w p hp in omega (arith, subst (λ x. 2 ^ w ≤ p + 2 ^ x) e r.low, pow-zero 2)

pub tombstone-rest : (w : ℕ) → rest_of w (tombstone w) ≡ 0
unfolding tombstone
tombstone-rest w = rest-of-range w (2 ^ w - 1) 0 (record { low = omega (arith, pow_pos w, pow-zero 2); high = omega (arith, pow_pos w, pow-zero 2) })

pub pay-of : (w p l : ℕ) → p < 2 ^ w → rest_of w p ≡ l + 1 → (f : ℕ) × (f < 2 ^ l) × (p ≡ pay w l f)
unfolding pay
pay-of w p l hp e =
    let r : Range w p (l + 1) = subst (Range w p) e (rest-range w p hp) in
    let le : l + 1 ≤ w = omega (arith, rest_le w p) in
    let s : 2 ^ (l + 1) ≡ 2 ^ l * 2 = ap (λ x. 2 ^ x) (add-one l) ∙ pow-suc 2 l in
    let up : 2 ^ (l + 1) ≤ 2 ^ w = pow_mono le in
    (p + 2 ^ (l + 1) - 2 ^ w, omega (arith, r.low, r.high, s), omega (arith, r.low, r.high, s, up))

pub pay-bits : (w p : ℕ) → p < tombstone w → (length_of w p < w) × (fingerprint_of w p < 2 ^ length_of w p) × (p ≡ pay w (length_of w p) (fingerprint_of w p)) × (rest_of w p ≡ length_of w p + 1)
unfolding length_of tombstone
pay-bits w p hp = go (rest_of w p) refl
  where
    hw : p < 2 ^ w
    hw = omega (arith, hp, pow_pos w)

    go : (m : ℕ) → rest_of w p ≡ m → (length_of w p < w) × (fingerprint_of w p < 2 ^ length_of w p) × (p ≡ pay w (length_of w p) (fingerprint_of w p)) × (rest_of w p ≡ length_of w p + 1)
    go zero e = let z = rest-zero w p hw e in absurd (omega (arith, z, hp))
    go (suc l) e =
        let d = pay-of w p l hw (e ∙ sym (add-one l)) in
        let hl : l < w = omega (arith, rest_le w p, e) in
        let el : length_of w p ≡ l = omega (arith, e) in
        let ef : fingerprint_of w p ≡ d.0 = ap (fingerprint_of w) d.2 ∙ bits-pay w l d.0 hl d.1 in
        (omega (arith, el, hl), rw (el, ef) d.1, rw (el, ef) d.2, omega arith)

-- a larger payload is as long or shorter
pub rising-rest : (w p q : ℕ) → p < 2 ^ w → q < 2 ^ w → p ≤ q → rest_of w q ≤ rest_of w p
rising-rest w p q hp hq le = go (dec_lt (rest_of w p) (rest_of w q))
  where
    go : Dec (rest_of w p < rest_of w q) → rest_of w q ≤ rest_of w p
    go (yes lt) = absurd (omega (arith, longer-first w p q hp hq lt))
    go (no nlt) = omega arith

-- voids and tombstones
pub tombstone-lt : (w : ℕ) → tombstone w < 2 ^ w
unfolding tombstone
tombstone-lt w = omega (arith, pow_pos w)

pub below-tombstone : (w p : ℕ) → p < tombstone w → p < 2 ^ w
below-tombstone w p h = omega (arith, tombstone-lt w)

pub void-lt : (w : ℕ) → 0 < w → void w < 2 ^ w
unfolding void
void-lt w h = pay-lt w 0 0 h (pow_pos 0)

pub void-rest : (w : ℕ) → 0 < w → rest_of w (void w) ≡ 1
unfolding void
void-rest w h = rest-pay w 0 0 h (pow_pos 0)

pub rest-one : (w p : ℕ) → p < 2 ^ w → rest_of w p ≡ 1 → p ≡ void w
unfolding void
rest-one w p h e =
    let d = pay-of w p 0 h e in
    let z : d.0 ≡ 0 = omega (arith, d.1, pow-zero 2) in
    d.2 ∙ ap (pay w 0) z

pub void-tombstone : (w : ℕ) → 0 < w → void w ≡ tombstone w → ⊥
void-tombstone w h e = omega (arith, void-rest w h, tombstone-rest w, ap (rest_of w) e)

-- an entry with fingerprint bits is neither
pub bits-void : (w p : ℕ) → 0 < w → 1 < rest_of w p → void w ≡ p → ⊥
bits-void w p h l e = omega (arith, void-rest w h, ap (rest_of w) e)

pub bits-tombstone : (w p : ℕ) → 1 < rest_of w p → tombstone w ≡ p → ⊥
bits-tombstone w p l e = omega (arith, tombstone-rest w, ap (rest_of w) e)

-- what a match says
pub record Match (w k h p : ℕ) : Type 0 where
  pub some : 0 < rest_of w p
  pub same : fingerprint_of w p ≡ hash_bits h k (length_of w p)

and_parts : (a b : Bool) → a && b ≡ true → (a ≡ true) × (b ≡ true)
and_parts true b e = (refl, e)
and_parts false b e = absurd (subst (λ (x : Bool). T x) (sym e) tt)

pub match-true : (w k h p : ℕ) → matches w k h p ≡ true → Match w k h p
unfolding matches
match-true w k h p e =
    let d = and_parts (ltb 0 (rest_of w p)) (eqb (fingerprint_of w p) (hash_bits h k (length_of w p))) e in
    record { some = ltb-true _ _ d.0; same = eqb-true _ _ d.1 }

pub true-match : (w k h p : ℕ) → Match w k h p → matches w k h p ≡ true
unfolding matches
true-match w k h p m = ap₂ ◌&&◌ (lt-ltb _ _ m.some) (eq-eqb _ _ m.same)

pub none-matches : (w k h p : ℕ) → rest_of w p ≡ 0 → matches w k h p ≡ false
unfolding matches
none-matches w k h p e = ap (λ b. b && eqb (fingerprint_of w p) (hash_bits h k (length_of w p))) (le-ltb 0 (rest_of w p) (omega arith))

pub tombstone-matches : (w k h : ℕ) → matches w k h (tombstone w) ≡ false
tombstone-matches w k h = none-matches w k h (tombstone w) (tombstone-rest w)

-- two entries of one length that match one hash are equal
pub same-match : (w k h p q : ℕ) → p < 2 ^ w → q < 2 ^ w → rest_of w p ≡ rest_of w q → Match w k h p → Match w k h q → p ≡ q
unfolding length_of fingerprint_of
same-match w k h p q hp hq e mp mq =
    let l : ℕ = rest_of w p - 1 in
    let hl : l < w = omega (arith, rest_le w p, mp.some) in
    let dp = pay-of w p l hp (omega (arith, mp.some)) in
    let dq = pay-of w q l hq (omega (arith, mp.some)) in
    let fp : p % 2 ^ l ≡ dp.0 = ap (λ x. x % 2 ^ l) dp.2 ∙ pay-mod w l dp.0 hl dp.1 in
    let fq : q % 2 ^ l ≡ dq.0 = ap (λ x. x % 2 ^ l) dq.2 ∙ pay-mod w l dq.0 hl dq.1 in
    let hq' : q % 2 ^ l ≡ hash_bits h k l = subst (λ x. q % 2 ^ x ≡ hash_bits h k x) (omega arith) mq.same in
    dp.2 ∙ ap (pay w l) (sym fp ∙ mp.same ∙ sym hq' ∙ fq) ∙ sym dq.2

pub void-match : (w k h : ℕ) → 0 < w → Match w k h (void w)
unfolding void hash_bits
void-match w k h hw =
    record {
      some = omega (arith, void-rest w hw);
      same = bits-pay w 0 0 hw (pow_pos 0) ∙ sym (mod-one (h / 2 ^ k)) ∙ ap (λ l. h / 2 ^ k % 2 ^ l) (sym (length-pay w 0 0 hw (pow_pos 0)));
    }

-- the fresh entry
pub hash-bits-lt : (h k l : ℕ) → hash_bits h k l < 2 ^ l
unfolding hash_bits
hash-bits-lt h k l = mod-lt (h / 2 ^ k) (pow_pos l)

pub fresh-lt : (w l k h : ℕ) → l < w → fresh_payload w l k h < 2 ^ w
unfolding fresh_payload
fresh-lt w l k h hl = pay-lt w l (hash_bits h k l) hl (hash-bits-lt h k l)

pub fresh-rest : (w l k h : ℕ) → l < w → rest_of w (fresh_payload w l k h) ≡ l + 1
unfolding fresh_payload
fresh-rest w l k h hl = rest-pay w l (hash_bits h k l) hl (hash-bits-lt h k l)

pub fresh-length : (w l k h : ℕ) → l < w → length_of w (fresh_payload w l k h) ≡ l
unfolding fresh_payload
fresh-length w l k h hl = length-pay w l (hash_bits h k l) hl (hash-bits-lt h k l)

pub fresh-match : (w l k h : ℕ) → l < w → Match w k h (fresh_payload w l k h)
unfolding fresh_payload
fresh-match w l k h hl =
    record {
      some = omega (arith, fresh-rest w l k h hl);
      same = bits-pay w l (hash_bits h k l) hl (hash-bits-lt h k l) ∙ ap (hash_bits h k) (sym (fresh-length w l k h hl));
    }

-- order within one length
pub pay-order : (w l f g : ℕ) → l < w → f < g → pay w l f < pay w l g
unfolding pay
pay-order w l f g hl lt = omega arith

pub pay-lt-inv : (w l f g : ℕ) → pay w l f < pay w l g → f < g
unfolding pay
pay-lt-inv w l f g lt = omega arith

-- one bit less, in the width v
unfoldable pub shrink : ℕ → ℕ → ℕ → ℕ
shrink w v p = pay v (length_of w p - 1) (fingerprint_of w p / 2)

-- order under shrinking, within one half: the lowest bits agree
pub shrink-order : (w v p q : ℕ) → p < tombstone w → q < tombstone w → length_of w p ≤ v → p < q → 0 < length_of w q → fingerprint_of w p % 2 ≡ fingerprint_of w q % 2 → shrink w v p < shrink w v q
unfolding shrink
shrink-order w v p q hp hq hv lt pos par = go (dec_lt (length_of w q) (length_of w p))
  where
    dp : (length_of w p < w) × (fingerprint_of w p < 2 ^ length_of w p) × (p ≡ pay w (length_of w p) (fingerprint_of w p)) × (rest_of w p ≡ length_of w p + 1)
    dp = pay-bits w p hp

    dq : (length_of w q < w) × (fingerprint_of w q < 2 ^ length_of w q) × (q ≡ pay w (length_of w q) (fingerprint_of w q)) × (rest_of w q ≡ length_of w q + 1)
    dq = pay-bits w q hq

    half : (l f : ℕ) → 0 < l → f < 2 ^ l → f / 2 < 2 ^ (l - 1)
    half (suc l) f h lt = omega (arith, pow-suc 2 l, ap (λ x. 2 ^ x) (sub-one (suc l)))
    half zero f h lt = absurd (omega arith)

    go : Dec (length_of w q < length_of w p) → pay v (length_of w p - 1) (fingerprint_of w p / 2) < pay v (length_of w q - 1) (fingerprint_of w q / 2)
    go (yes d) =
        range-order v _ (length_of w q - 1 + 1) _ (length_of w p - 1 + 1)
        (pay-range v (length_of w q - 1) (fingerprint_of w q / 2) (omega arith) (half (length_of w q) (fingerprint_of w q) pos dq.1))
        (pay-range v (length_of w p - 1) (fingerprint_of w p / 2) (omega arith) (half (length_of w p) (fingerprint_of w p) (omega arith) dp.1))
        (omega arith)
    go (no nd) =
        let pw : p < 2 ^ w = below-tombstone w p hp in
        let qw : q < 2 ^ w = below-tombstone w q hq in
        let eq : length_of w p ≡ length_of w q = omega (arith, dp.3, dq.3, rising-rest w p q pw qw (omega arith)) in
        let lt2 : pay w (length_of w p) (fingerprint_of w p) < pay w (length_of w p) (fingerprint_of w q) = subst₂ ◌<◌ dp.2 (dq.2 ∙ ap (λ x. pay w x (fingerprint_of w q)) (sym eq)) lt in
        let bits : fingerprint_of w p < fingerprint_of w q = pay-lt-inv w (length_of w p) (fingerprint_of w p) (fingerprint_of w q) lt2 in
        rw eq (pay-order v (length_of w q - 1) (fingerprint_of w p / 2) (fingerprint_of w q / 2) (omega arith) (omega arith))
