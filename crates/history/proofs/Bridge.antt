-- From tables (a run of payloads for each address) to strings: an entry with fingerprint bits is the string of its address and its fingerprint, so a payload that is
-- put into a run or taken from it is one string more or less. The same for the main table and for an annex table.
use mathlib.Core.Path.{◌≡◌, refl, sym, ap, ◌∙◌, subst}
use mathlib.Core.Bool.{Bool, true, false, cond}
use mathlib.Core.List.{List, [], ◌∷◌, ◌++◌}
use Prim.Native.Nat.{ℕ, zero, suc, ◌+◌, ◌-◌, ◌*◌, ◌/◌, ◌%◌, ◌^◌, ◌≤◌, ◌<◌}
use native.Mathlib.Omega.{arith}
use native.Mathlib.Nat.{mod-lt, mod-eq_of_lt, mul_comm, add_comm, add-zero, zero-add}
use native.Mathlib.Decide.{ℕ_discrete}
use lib.Dec.{eqb, ltb}
use lib.ListN.{length, get_or, set, replicate, length-set, length-replicate, get_or-replicate}
use lib.Seq.{get_or-set_same, get_or-set_other}
use lib.Pow.{pow_pos, pow-add, mod-pow-add}
use lib.Arith.{digits_lt, digits_div, digits_mod}
use borrow.Author.Tests.{le-ltb, eq-eqb, ne_eqb}
use Rattle.lists.specs.Lists.{bit, sum}
use Rattle.lists.specs.Runs.{Runs}
use Rattle.lists.proofs.Alls.{All}
use Rattle.lists.proofs.Sums.{Same, sum-append, sum-zero, sum-all}
use Rattle.slots.specs.Payload.{rest_of, length_of, fingerprint_of, hash_bits}
use Rattle.keeps.proofs.Halves.{all_append, fingerprint-lt}
use Rattle.history.proofs.Strings.{Item, under, under-yes, under-other}
use Rattle.history.proofs.Abstract.{State, Matches, Inserted, Removed, Queued}

pub length_rest : (w p : ℕ) → length_of w p ≡ rest_of w p - 1
unfolding length_of
length_rest w p = refl

-- the string of the payload p at address c, in a table of 2 ^ k addresses and width w
abbrev pub entry : ℕ → ℕ → ℕ → ℕ → Item
entry w k c p = record { len = k + length_of w p; val = fingerprint_of w p * 2 ^ k + c }

abbrev pub has_bits : ℕ → ℕ → Bool
has_bits w p = ltb 1 (rest_of w p)

unfoldable pub run_items : ℕ → ℕ → ℕ → List ℕ → List Item
run_items w k c [] = []
run_items w k c (p ∷ r) = cond (has_bits w p) (entry w k c p ∷ run_items w k c r) (run_items w k c r)

-- the strings of a table's runs, the first of which is at address c
unfoldable pub table_items : ℕ → ℕ → ℕ → Runs → List Item
table_items w k c [] = []
table_items w k c (r ∷ rs) = run_items w k c r ++ table_items w k (suc c) rs

-- ---- sums

-- what a payload weighs, and what a run does
abbrev pub weight : (Item → ℕ) → ℕ → ℕ → ℕ → ℕ → ℕ
weight f w k c p = cond (has_bits w p) (f (entry w k c p)) 0

abbrev pub load : (Item → ℕ) → ℕ → ℕ → ℕ → List ℕ → ℕ
load f w k c r = sum (weight f w k c) r

-- one without bits weighs nothing
pub weightless : (f : Item → ℕ) (w k c p : ℕ) → rest_of w p ≤ 1 → weight f w k c p ≡ 0
weightless f w k c p le = ap (λ b. cond b (f (entry w k c p)) 0) (le-ltb 1 (rest_of w p) le)

pub run-sum : (f : Item → ℕ) (w k c : ℕ) (r : List ℕ) → sum f (run_items w k c r) ≡ load f w k c r
unfolding run_items sum
run-sum f w k c [] = refl
run-sum f w k c (p ∷ r) = go (has_bits w p) (run-sum f w k c r)
  where
    go : (b : Bool) → sum f (run_items w k c r) ≡ load f w k c r
        → sum f (cond b (entry w k c p ∷ run_items w k c r) (run_items w k c r)) ≡ cond b (f (entry w k c p)) 0 + load f w k c r
    go true e = ap (λ m. f (entry w k c p) + m) e
    go false e = omega arith

pub table-sum : (f : Item → ℕ) (w k c : ℕ) (r : List ℕ) (rs : Runs) → sum f (table_items w k c (r ∷ rs)) ≡ load f w k c r + sum f (table_items w k (suc c) rs)
unfolding table_items
table-sum f w k c r rs = sum-append f (run_items w k c r) (table_items w k (suc c) rs) ∙ ap (λ n. n + sum f (table_items w k (suc c) rs)) (run-sum f w k c r)

-- empty runs have no strings
pub no_items : (w k c n : ℕ) → table_items w k c (replicate n []) ≡ []
unfolding table_items run_items
no_items w k c zero = refl
no_items w k c (suc n) = no_items w k (suc c) n

suc-right : (c j : ℕ) → c + suc j ≡ suc c + j
suc-right c j = omega arith

pub table-append : (f : Item → ℕ) (w k c : ℕ) (rs us : Runs) → sum f (table_items w k c (rs ++ us)) ≡ sum f (table_items w k c rs) + sum f (table_items w k (length rs + c) us)
unfolding sum
table-append f w k c [] us = omega (arith, ap (λ m. sum f (table_items w k m us)) (zero-add c), none)
  where
    none : sum f (table_items w k c []) ≡ 0
    none = unfold table_items sum in refl
table-append f w k c (r ∷ rs) us =
    omega (
      arith,
      table-sum f w k c r (rs ++ us),
      table-sum f w k c r rs,
      table-append f w k (suc c) rs us,
      ap (λ m. sum f (table_items w k m us)) (suc-right (length rs) c),
    )

-- runs that weigh the same, place by place
pub table_same : (f : Item → ℕ) (w k c : ℕ) (rs us : Runs) → length us ≡ length rs
    → ((j : ℕ) → j < length rs → load f w k (c + j) (get_or us j []) ≡ load f w k (c + j) (get_or rs j [])) → sum f (table_items w k c us) ≡ sum f (table_items w k c rs)
table_same f w k c [] [] e h = refl
table_same f w k c [] (x ∷ us) e h = absurd (omega arith)
table_same f w k c (x ∷ rs) [] e h = absurd (omega arith)
table_same f w k c (x ∷ rs) (y ∷ us) e h =
    omega (
      arith,
      table-sum f w k c x rs,
      table-sum f w k c y us,
      subst (λ m. load f w k m y ≡ load f w k m x) (add-zero c) (h 0 (omega arith)),
      table_same f w k (suc c) rs us (omega arith)
          (λ j l. subst (λ m. load f w k m (get_or us j []) ≡ load f w k m (get_or rs j [])) (suc-right c j) (h (suc j) (omega arith))),
    )

-- a run is replaced
set_sum : (f : Item → ℕ) (w k c : ℕ) (rs : Runs) (j : ℕ) (r : List ℕ) → j < length rs
    → sum f (table_items w k c (set rs j r)) + load f w k (c + j) (get_or rs j []) ≡ sum f (table_items w k c rs) + load f w k (c + j) r
set_sum f w k c [] j r h = absurd (omega arith)
set_sum f w k c (x ∷ rs) zero r h =
    omega (arith, table-sum f w k c r rs, table-sum f w k c x rs, ap (λ m. load f w k m r) (add-zero c), ap (λ m. load f w k m x) (add-zero c))
set_sum f w k c (x ∷ rs) (suc j) r h =
    omega (
      arith,
      set_sum f w k (suc c) rs j r (omega arith),
      table-sum f w k c x (set rs j r),
      table-sum f w k c x rs,
      ap (λ m. load f w k m r) (suc-right c j),
      ap (λ m. load f w k m (get_or rs j [])) (suc-right c j),
    )

pub run-set : (f : Item → ℕ) (w k : ℕ) (rs : Runs) (c : ℕ) (r : List ℕ) → c < length rs
    → sum f (table_items w k 0 (set rs c r)) + load f w k c (get_or rs c []) ≡ sum f (table_items w k 0 rs) + load f w k c r
run-set f w k rs c r h = rw (zero-add c) at (set_sum f w k 0 rs c r h)

-- one payload more in the run of c, and one less
pub run-put : (w k c : ℕ) (rs : Runs) (r : List ℕ) (p : ℕ) → c < length rs → has_bits w p ≡ true → Same r (p ∷ get_or rs c [])
    → Same (table_items w k 0 (set rs c r)) (entry w k c p ∷ table_items w k 0 rs)
unfolding Same sum
run-put w k c rs r p lt hb sm f = omega (arith, run-set f w k rs c r lt, sm (weight f w k c), ap (λ b. cond b (f (entry w k c p)) 0) hb)

pub run_drop : (w k c : ℕ) (rs : Runs) (r : List ℕ) (p : ℕ) → c < length rs → has_bits w p ≡ true → Same (get_or rs c []) (p ∷ r)
    → Same (table_items w k 0 rs) (entry w k c p ∷ table_items w k 0 (set rs c r))
unfolding Same sum
run_drop w k c rs r p lt hb sm f = omega (arith, run-set f w k rs c r lt, sm (weight f w k c), ap (λ b. cond b (f (entry w k c p)) 0) hb)

-- only the run of t weighs
table_at : (f : Item → ℕ) (w k : ℕ) (rs : Runs) (t : ℕ) → t < length rs → ((j : ℕ) → j < length rs → (j ≡ t → ⊥) → load f w k j (get_or rs j []) ≡ 0)
    → sum f (table_items w k 0 rs) ≡ load f w k t (get_or rs t [])
unfolding sum
table_at f w k rs t lt h = omega (arith, run-set f w k rs t [] lt, others)
  where
    each : (j : ℕ) → j < length rs → Dec (j ≡ t) → load f w k j (get_or (set rs t []) j []) ≡ 0
    each j l (yes e) = ap (load f w k j) (ap (λ x. get_or (set rs t []) x []) e ∙ get_or-set_same rs t [] [] lt)
    each j l (no e) = ap (load f w k j) (get_or-set_other rs t j [] [] e) ∙ h j l e

    others : sum f (table_items w k 0 (set rs t [])) ≡ 0
    others =
        table_same f w k 0 (replicate (length rs) []) (set rs t []) (length-set rs t [] ∙ sym (length-replicate {A = List ℕ} (length rs) []))
        (λ j l.
        let l' : j < length rs = omega (arith, length-replicate {A = List ℕ} (length rs) []) in
        rw (zero-add j) (each j l' (ℕ_discrete j t) ∙ sym (ap (load f w k j) (get_or-replicate (length rs) j [] [] l'))))
        ∙ ap (sum f) (no_items w k 0 (length rs))

-- ---- which entries match

-- the payload has bits, and they are the hash's
pub record Hit (w k h p : ℕ) : Type 0 where
  pub some : has_bits w p ≡ true
  pub same : fingerprint_of w p ≡ hash_bits h k (length_of w p)

entry_lt : (w k c p : ℕ) → c < 2 ^ k → fingerprint_of w p * 2 ^ k + c < 2 ^ (k + length_of w p)
entry_lt w k c p h =
    let e : 2 ^ (k + length_of w p) ≡ 2 ^ length_of w p * 2 ^ k = pow-add 2 k (length_of w p) ∙ mul_comm (2 ^ k) (2 ^ length_of w p) in
    subst (λ m. fingerprint_of w p * 2 ^ k + c < m) (sym e) (digits_lt (fingerprint-lt w p) h)

hash-low : (h k l : ℕ) → h % 2 ^ (k + l) ≡ hash_bits h k l * 2 ^ k + h % 2 ^ k
unfolding hash_bits
hash-low h k l = ap (λ m. h % 2 ^ m) (add_comm k l) ∙ mod-pow-add h l k

match-entry : (w k c p h : ℕ) → c < 2 ^ k → Matches h (entry w k c p) → (c ≡ h % 2 ^ k) × (fingerprint_of w p ≡ hash_bits h k (length_of w p))
match-entry w k c p h lt m =
    let b = fingerprint_of w p in
    let g = hash_bits h k (length_of w p) in
    let hl : h % 2 ^ k < 2 ^ k = mod-lt h (pow_pos k) in
    let e : b * 2 ^ k + c ≡ g * 2 ^ k + h % 2 ^ k = sym (mod-eq_of_lt (entry_lt w k c p lt)) ∙ m ∙ hash-low h k (length_of w p) in
    (sym (digits_mod b lt) ∙ ap (λ x. x % 2 ^ k) e ∙ digits_mod g hl, sym (digits_div b lt) ∙ ap (λ x. x / 2 ^ k) e ∙ digits_div g hl)

entry-match : (w k p h : ℕ) → fingerprint_of w p ≡ hash_bits h k (length_of w p) → Matches h (entry w k (h % 2 ^ k) p)
entry-match w k p h e =
    mod-eq_of_lt (entry_lt w k (h % 2 ^ k) p (mod-lt h (pow_pos k))) ∙ ap (λ x. x * 2 ^ k + h % 2 ^ k) e ∙ sym (hash-low h k (length_of w p))

-- ---- every entry

pub all-run : (P : Item → Type 0) (Q : ℕ → Type 0) (w k c : ℕ) → ((p : ℕ) → Q p → has_bits w p ≡ true → P (entry w k c p)) → (r : List ℕ) → All Q r
    → All P (run_items w k c r)
unfolding run_items
all-run P Q w k c f [] a = tt
all-run P Q w k c f (p ∷ r) a = go (has_bits w p) refl (all-run P Q w k c f r a.1)
  where
    go : (b : Bool) → has_bits w p ≡ b → All P (run_items w k c r) → All P (cond b (entry w k c p ∷ run_items w k c r) (run_items w k c r))
    go true e rest = (f p a.0 e, rest)
    go false e rest = rest

from-address : (P : Item → Type 0) (w k c : ℕ) (rs : Runs) → ((j : ℕ) → j < length rs → All P (run_items w k (c + j) (get_or rs j []))) → All P (table_items w k c rs)
unfolding table_items
from-address P w k c [] h = tt
from-address P w k c (r ∷ rs) h =
    all_append P (run_items w k c r) (table_items w k (suc c) rs) (subst (λ m. All P (run_items w k m r)) (add-zero c) (h 0 (omega arith)))
    (from-address P w k (suc c) rs (λ j lt. subst (λ m. All P (run_items w k m (get_or rs j []))) (suc-right c j) (h (suc j) (omega arith))))

pub all-table : (P : Item → Type 0) (w k : ℕ) (rs : Runs) → ((j : ℕ) → j < length rs → All P (run_items w k j (get_or rs j []))) → All P (table_items w k 0 rs)
all-table P w k rs h = from-address P w k 0 rs (λ j l. subst (λ m. All P (run_items w k m (get_or rs j []))) (sym (zero-add j)) (h j l))

pub all_true : {A : Type 0} (l : List A) → All (λ (_ : A). Unit {0}) l
all_true [] = tt
all_true (x ∷ l) = (tt, all_true l)

-- an entry of another run does not match; one of the hash's run matches if its bits do
all-match : (R : Item → Type 0) (w k h : ℕ) (rs : Runs) → length rs ≡ 2 ^ k → All (λ q. Hit w k h q → R (entry w k (h % 2 ^ k) q)) (get_or rs (h % 2 ^ k) [])
    → All (λ i. Matches h i → R i) (table_items w k 0 rs)
all-match R w k h rs len a = all-table Q w k rs (λ j lt. go j lt (ℕ_discrete (h % 2 ^ k) j))
  where
    Q : Item → Type 0
    Q i = Matches h i → R i

    go : (j : ℕ) → j < length rs → Dec (h % 2 ^ k ≡ j) → All Q (run_items w k j (get_or rs j []))
    go j lt (no ne) =
        all-run Q (λ _. Unit {0}) w k j (λ p _ hb m. absurd (ne (sym (match-entry w k j p h (omega arith) m).0))) (get_or rs j []) (all_true (get_or rs j []))
    go j lt (yes e) =
        subst (λ x. All Q (run_items w k x (get_or rs x []))) e
        (all-run Q (λ q. Hit w k h q → R (entry w k (h % 2 ^ k) q)) w k (h % 2 ^ k)
        (λ p q hb m. q (record { some = hb; same = (match-entry w k (h % 2 ^ k) p h (mod-lt h (pow_pos k)) m).1 })) (get_or rs (h % 2 ^ k) []) a)

-- ---- the quick calls, from what they do to one run

abbrev pub view : ℕ → ℕ → Runs → List Item → List ℕ → State
view w k rs M Q = record { k = k; bits = table_items w k 0 rs; mothers = M; queue = Q }

module _ (w k h : ℕ) (rs : Runs) (len : length rs ≡ 2 ^ k) (r : List ℕ) (M : List Item) (Q : List ℕ) where
  abbrev c : ℕ
  c = h % 2 ^ k

  c_lt : c < length rs
  c_lt = omega (arith, mod-lt h (pow_pos k))

  module _ (p : ℕ) (x : Hit w k h p) (le : k + length_of w p ≤ 64) where
    pub inserted : Same r (p ∷ get_or rs (h % 2 ^ k) []) → Inserted h (view w k rs M Q) (view w k (set rs (h % 2 ^ k) r) M Q)
    unfolding Same
    inserted sm =
        record {
          size = refl;
          entry = entry w k c p;
          of = record { short = le; bits = entry-match w k p h x.same };
          bits = run-put w k c rs r p c_lt x.some sm;
          mothers = λ f. refl;
          queue = λ f. refl;
        }

    pub removed : 0 < length_of w p → Same (get_or rs (h % 2 ^ k) []) (p ∷ r) → All (λ q. Hit w k h q → k + length_of w q ≤ k + length_of w p) (get_or rs (h % 2 ^ k) [])
        → Removed h (view w k rs M Q) (view w k (set rs (h % 2 ^ k) r) M Q)
    unfolding Same
    removed pos sm lg =
        record {
          size = refl;
          entry = entry w k c p;
          of = record { short = le; bits = entry-match w k p h x.same };
          beyond = omega arith;
          longest = all-match (λ i. i.len ≤ k + length_of w p) w k h rs len lg;
          bits = run_drop w k c rs r p c_lt x.some sm;
          mothers = λ f. refl;
          queue = λ f. refl;
        }

  -- a void goes: no entry with bits of the run matches, and the run weighs the same
  pub queued : All (λ q. Hit w k h q → ⊥) (get_or rs (h % 2 ^ k) []) → ((f : Item → ℕ) → load f w k (h % 2 ^ k) r ≡ load f w k (h % 2 ^ k) (get_or rs (h % 2 ^ k) []))
      → Queued h (view w k rs M Q) (view w k (set rs (h % 2 ^ k) r) M (Q ++ (h % 2 ^ k) ∷ []))
  unfolding Same sum
  queued nn sm =
      record {
        size = refl;
        none = all-match (λ _. ⊥) w k h rs len nn;
        bits = λ f. omega (arith, run-set f w k rs c r c_lt, sm f);
        mothers = λ f. refl;
        queue = λ f. omega (arith, sum-append f Q (c ∷ []));
      }

-- ---- Query: what the strings that match a hash say of its run

-- 1 for an entry with bits whose bits are the hash's
abbrev pub hits : ℕ → ℕ → ℕ → ℕ → ℕ
hits w k h p = cond (has_bits w p) (bit (eqb (fingerprint_of w p) (hash_bits h k (length_of w p)))) 0

under-entry : (w k p h : ℕ) → k + length_of w p ≤ 64 → under 65 h (entry w k (h % 2 ^ k) p) ≡ bit (eqb (fingerprint_of w p) (hash_bits h k (length_of w p)))
under-entry w k p h le = go (ℕ_discrete (fingerprint_of w p) (hash_bits h k (length_of w p)))
  where
    i : Item
    i = entry w k (h % 2 ^ k) p

    go : Dec (fingerprint_of w p ≡ hash_bits h k (length_of w p)) → under 65 h i ≡ bit (eqb (fingerprint_of w p) (hash_bits h k (length_of w p)))
    go (yes e) = under-yes 65 h i (omega arith) (entry-match w k p h e) ∙ sym (ap bit (eq-eqb _ _ e))
    go (no e) = under-other 65 h i (λ m. e (match-entry w k (h % 2 ^ k) p h (mod-lt h (pow_pos k)) m).1) ∙ sym (ap bit (ne_eqb _ _ e))

pub run-hits : (w k h : ℕ) (rs : Runs) → length rs ≡ 2 ^ k → All (λ p. k + length_of w p ≤ 64) (get_or rs (h % 2 ^ k) [])
    → sum (under 65 h) (table_items w k 0 rs) ≡ sum (hits w k h) (get_or rs (h % 2 ^ k) [])
run-hits w k h rs len a =
    table_at (under 65 h) w k rs t (omega (arith, mod-lt h (pow_pos k))) (λ j lt ne. sum-zero (weight (under 65 h) w k j) (other j lt ne) (get_or rs j []))
    ∙ sum-all (λ p. k + length_of w p ≤ 64) (weight (under 65 h) w k t) (hits w k h) (λ p le. ap (λ x. cond (has_bits w p) x 0) (under-entry w k p h le)) (get_or rs t []) a
  where
    t : ℕ
    t = h % 2 ^ k

    cond-zero : (b : Bool) (x : ℕ) → x ≡ 0 → cond b x 0 ≡ 0
    cond-zero true x e = e
    cond-zero false x e = refl

    other : (j : ℕ) → j < length rs → (j ≡ t → ⊥) → (p : ℕ) → weight (under 65 h) w k j p ≡ 0
    other j lt ne p =
        cond-zero (has_bits w p) (under 65 h (entry w k j p)) (under-other 65 h (entry w k j p) (λ m. ne (match-entry w k j p h (omega arith) m).0))
