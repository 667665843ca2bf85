-- The stored mother hashes as strings of b bits: as many continue an address as the definitions count there, a table that loses or gains a mother hash loses or
-- gains its string, and the one that a queue word takes is the longest that matches.
use mathlib.Core.Path.{◌≡◌, refl, sym, ap, ap₂, ◌∙◌}
use mathlib.Core.Bool.{true, cond}
use mathlib.Core.List.{List, [], ◌∷◌, ◌++◌}
use Prim.Native.Nat.{ℕ, suc, ◌+◌, ◌-◌, ◌*◌, ◌/◌, ◌%◌, ◌^◌, ◌≤◌, ◌<◌}
use native.Mathlib.Omega.{arith}
use native.Mathlib.Nat.{mod-lt, mod-mod}
use native.Mathlib.Decide.{ℕ_discrete}
use lib.Dec.{ltb, eqb, T, ltb→lt, eqb→eq}
use lib.Pow.{pow_pos, field, split}
use lib.ListN.{get_or, set}
use borrow.Author.Tests.{eq-eqb, ne_eqb, lt-ltb}
use Rattle.lists.specs.Lists.{bit, sum}
use Rattle.lists.specs.Runs.{Runs, add, erase, count}
use Rattle.lists.proofs.Tests.{and_left, and_right, is, is-yes, is-no}
use Rattle.lists.proofs.Alls.{All, all_map, all_any}
use Rattle.lists.proofs.Sums.{Same, sum-append, sum-all}
use Rattle.lists.proofs.RunLaws.{count-sum, add_same, erase_same}
use Rattle.slots.specs.Payload.{pay, rest_of, length_of, fingerprint_of, hash_bits}
use Rattle.slots.proofs.PayloadLaws.{bits-pay, length-pay, pay-of, rest-pay}
use Rattle.rules.specs.Tables.{Table, hash_entry, matching, mothers_of}
use Rattle.rules.specs.Sound.{annex_entry}
use Rattle.rules.specs.Doubling.{table_of}
use Rattle.keeps.proofs.Halves.{all_append}
use Rattle.keeps.proofs.Annex.{TableFine, Tables}
use Rattle.keeps.proofs.Mothers.{mod_low, hash-fits}
use Rattle.keeps.proofs.Take.{table-inside, without, slot_lt}
use Rattle.keeps.proofs.NewTable.{made}
use Rattle.history.proofs.Strings.{Item, under, under-yes, under-other}
use Rattle.history.proofs.Abstract.{Takes, hit, all-le, under-cut}
use Rattle.history.proofs.Bridge.{entry, has_bits, table_items, run-put, run_drop, run-hits, hits, all-table, all-run, no_items}

-- mother hash m of b bits
abbrev pub item : ℕ → ℕ → Item
item b m = record { len = b; val = m }

unfoldable pub mothers : List Table → List Item
mothers [] = []
mothers (t ∷ ts) = table_items 18 t.s 0 t.runs ++ mothers ts

pub mothers-sum : (f : Item → ℕ) (ts us : List Table) → sum f (mothers (ts ++ us)) ≡ sum f (mothers ts) + sum f (mothers us)
unfolding mothers sum
mothers-sum f [] us = omega arith
mothers-sum f (t ∷ ts) us =
    omega (
      arith,
      sum-append f (table_items 18 t.s 0 t.runs) (mothers (ts ++ us)),
      sum-append f (table_items 18 t.s 0 t.runs) (mothers ts),
      mothers-sum f ts us,
    )

pub mothers-cons : (f : Item → ℕ) (t : Table) (ts : List Table) → sum f (mothers (t ∷ ts)) ≡ sum f (table_items 18 t.s 0 t.runs) + sum f (mothers ts)
unfolding mothers
mothers-cons f t ts = sum-append f (table_items 18 t.s 0 t.runs) (mothers ts)

-- ---- an entry of the annex: of length n, and no tombstone

pub record Plain (n p : ℕ) : Type 0 where
  pub small : p < 2 ^ 18
  pub rest : rest_of 18 p ≡ n + 1
  pub length : length_of 18 p ≡ n

pub plain : (n p : ℕ) → T (annex_entry n p) → Plain n p
unfolding annex_entry length_of
plain n p t =
    let A = ltb p (2 ^ 18) in
    let B = eqb (rest_of 18 p) (n + 1) in
    let r : rest_of 18 p ≡ n + 1 = eqb→eq (rest_of 18 p) (n + 1) (and_right A B t) in
    record { small = ltb→lt p (2 ^ 18) (and_left A B t); rest = r; length = omega arith }

-- at the slot that address a has there: it is the mother hash of a, or another
hit-is : (s n a p : ℕ) → 0 < n → n < 18 → Plain n p → hits 18 s a p ≡ is (pay 18 n (a / 2 ^ s % 2 ^ n)) p
unfolding hash_bits
hit-is s n a p pos lt pl = go (ℕ_discrete (fingerprint_of 18 p) (hash_bits a s (length_of 18 p)))
  where
    hb : has_bits 18 p ≡ true
    hb = lt-ltb 1 (rest_of 18 p) (omega (arith, pl.rest))

    g : ℕ
    g = a / 2 ^ s % 2 ^ n

    gl : g < 2 ^ n
    gl = mod-lt (a / 2 ^ s) (pow_pos n)

    d : (f : ℕ) × (f < 2 ^ n) × (p ≡ pay 18 n f)
    d = pay-of 18 p n pl.small pl.rest

    bp : fingerprint_of 18 p ≡ d.0
    bp = ap (fingerprint_of 18) d.2 ∙ bits-pay 18 n d.0 lt d.1

    hg : hash_bits a s (length_of 18 p) ≡ g
    hg = ap (λ l. a / 2 ^ s % 2 ^ l) pl.length

    go : Dec (fingerprint_of 18 p ≡ hash_bits a s (length_of 18 p))
        → cond (has_bits 18 p) (bit (eqb (fingerprint_of 18 p) (hash_bits a s (length_of 18 p)))) 0 ≡ is (pay 18 n g) p
    go (yes e) =
        rw (hb, eq-eqb (fingerprint_of 18 p) (hash_bits a s (length_of 18 p)) e)
        (sym (is-yes (pay 18 n g) p (ap (pay 18 n) (sym hg ∙ sym e ∙ bp) ∙ sym d.2)))
    go (no e) =
        rw (hb, ne_eqb (fingerprint_of 18 p) (hash_bits a s (length_of 18 p)) e)
        (sym (is-no (pay 18 n g) p (λ q. e (ap (fingerprint_of 18) (sym q) ∙ bits-pay 18 n g lt gl ∙ sym hg))))

-- ---- the strings of a table

-- strings of at most k bits: those below k + 1 are all
under_all : (k a : ℕ) (i : Item) → i.len ≤ k → k ≤ 64 → under (suc k) a i ≡ under 65 a i
under_all k a i l h = go (ℕ_discrete (i.val % 2 ^ i.len) (a % 2 ^ i.len))
  where
    go : Dec (i.val % 2 ^ i.len ≡ a % 2 ^ i.len) → under (suc k) a i ≡ under 65 a i
    go (yes e) = under-yes (suc k) a i (omega arith) e ∙ sym (under-yes 65 a i (omega arith) e)
    go (no e) = under-other (suc k) a i e ∙ sym (under-other 65 a i e)

-- they have b bits
table-lengths : (k last : ℕ) (t : Table) → TableFine k last t → All (λ i. i.len ≡ t.b) (table_items 18 t.s 0 t.runs)
table-lengths k last t f =
    let P : ℕ → Type 0 = λ p. T (annex_entry (t.b - t.s) p) in
    all-table (λ i. i.len ≡ t.b) 18 t.s t.runs
    (λ j lt. all-run (λ i. i.len ≡ t.b) P 18 t.s j (λ p q hb. omega (arith, (plain (t.b - t.s) p q).length, f.s_b)) (get_or t.runs j [])
    (all_any P t.runs j f.passes))

table-count : (k last a : ℕ) (t : Table) → TableFine k last t → k ≤ 20 → sum (under (suc k) a) (table_items 18 t.s 0 t.runs) ≡ matching a t
unfolding matching
table-count k last a t f h =
    let n = t.b - t.s in
    let rs = t.runs in
    let P : ℕ → Type 0 = λ p. T (annex_entry n p) in
    let run = get_or rs (a % 2 ^ t.s) [] in
    let fine : All P run = all_any P rs (a % 2 ^ t.s) f.passes in
    let back : t.b ≡ n + t.s = omega (arith, f.s_b) in
    let e : a % 2 ^ t.b / 2 ^ t.s ≡ a / 2 ^ t.s % 2 ^ n = ap (λ m. a % 2 ^ m / 2 ^ t.s) back ∙ field a n t.s in
    sum-all (λ (i : Item). i.len ≡ t.b) (under (suc k) a) (under 65 a) (λ i l. under_all k a i (omega (arith, f.short)) (omega arith)) (table_items 18 t.s 0 rs)
    (table-lengths k last t f)
    ∙ run-hits 18 t.s a rs f.size (all_map P (λ p. t.s + length_of 18 p ≤ 64) (λ p q. omega (arith, (plain n p q).length, f.short, f.s_b)) run fine)
    ∙ sum-all P (hits 18 t.s a) (is (pay 18 n (a / 2 ^ t.s % 2 ^ n)))
    (λ p q. hit-is t.s n a p (omega (arith, f.s_b)) (omega (arith, f.short, f.s_3)) (plain n p q)) run fine
    ∙ sym (count-sum (pay 18 n (a / 2 ^ t.s % 2 ^ n)) run)
    ∙ ap (λ x. count (pay 18 n x) run) (sym e)

-- the mother hashes that match an address
pub mothers-count : (k last a : ℕ) (ts : List Table) → Tables k last ts → k ≤ 20 → sum (under (suc k) a) (mothers ts) ≡ mothers_of a ts
unfolding mothers_of sum
mothers-count k last a [] v h = unfold mothers in refl
mothers-count k last a (t ∷ ts) v h = mothers-cons (under (suc k) a) t ts ∙ ap₂ ◌+◌ (table-count k last a t v.0 h) (mothers-count k t.b a ts v.1 h)

pub mothers-short : (k last : ℕ) (ts : List Table) → Tables k last ts → All (λ i. i.len ≤ k) (mothers ts)
unfolding mothers
mothers-short k last [] v = tt
mothers-short k last (t ∷ ts) v =
    all_append (λ i. i.len ≤ k) (table_items 18 t.s 0 t.runs) (mothers ts)
    (all_map (λ (i : Item). i.len ≡ t.b) (λ i. i.len ≤ k) (λ i e. omega (arith, v.0.short)) (table_items 18 t.s 0 t.runs) (table-lengths k last t v.0))
    (mothers-short k t.b ts v.1)

-- ---- a mother hash goes, or comes

entry-bits : (b s m : ℕ) → s < b → b - s < 18 → m < 2 ^ b → has_bits 18 (hash_entry b s m) ≡ true
entry-bits b s m lt l18 hm = lt-ltb 1 (rest_of 18 (hash_entry b s m)) (omega (arith, rest-pay 18 (b - s) (m / 2 ^ s) l18 (hash-fits b s m (omega arith) hm)))

-- its string is the mother hash
entry-item : (b s m : ℕ) → s < b → b - s < 18 → m < 2 ^ b → (g : Item → ℕ) → g (entry 18 s (m % 2 ^ s) (hash_entry b s m)) ≡ g (item b m)
entry-item b s m lt l18 hm g =
    let fit = hash-fits b s m (omega arith) hm in
    let e : s + (b - s) ≡ b = omega arith in
    ap₂ (λ l y. g (record { len = l; val = y }))
    (ap (λ l. s + l) (length-pay 18 (b - s) (m / 2 ^ s) l18 fit) ∙ e)
    (ap (λ y. y * 2 ^ s + m % 2 ^ s) (bits-pay 18 (b - s) (m / 2 ^ s) l18 fit) ∙ split m s)

table-lost : (k last c : ℕ) (t : Table) → k ≤ 20 → TableFine k last t → 0 < matching c t
    → Same (table_items 18 t.s 0 t.runs) (item t.b (c % 2 ^ t.b) ∷ table_items 18 t.s 0 (without t c).runs)
unfolding matching Same sum
table-lost k last c t k20 f mt g =
    let rs : Runs = t.runs in
    let a : ℕ = c % 2 ^ t.s in
    let m : ℕ = c % 2 ^ t.b in
    let p : ℕ = hash_entry t.b t.s m in
    let run : List ℕ = get_or rs a [] in
    let n18 : t.b - t.s < 18 = omega (arith, f.short, f.s_3) in
    let hm : m < 2 ^ t.b = mod-lt c (pow_pos t.b) in
    let slot : m % 2 ^ t.s ≡ a = mod_low c t.b t.s (omega (arith, f.s_b)) in
    run_drop 18 t.s a rs (erase p run) p (slot_lt k last c t f) (entry-bits t.b t.s m f.s_b n18 hm) (erase_same p run mt) g
    ∙ ap (λ x. x + sum g (table_items 18 t.s 0 (set rs a (erase p run))))
    (ap (λ x. g (entry 18 t.s x p)) (sym slot) ∙ entry-item t.b t.s m f.s_b n18 hm g)

-- the table that Double adds
pub table-new : (b s : ℕ) (ms : List ℕ) → s < b → b - s < 18 → All (λ m. m < 2 ^ b) ms → (g : Item → ℕ)
    → sum g (table_items 18 s 0 (table_of b s ms)) ≡ sum (λ m. g (item b m)) ms
unfolding table_of Same sum
table-new b s [] lt l18 a g = ap (sum g) (no_items 18 s 0 (2 ^ s))
table-new b s (m ∷ ms) lt l18 a g =
    let rs : Runs = table_of b s ms in
    let c : ℕ = m % 2 ^ s in
    let p : ℕ = hash_entry b s m in
    let run : List ℕ = get_or rs c [] in
    run-put 18 s c rs (add p run) p (omega (arith, (made b s ms lt l18 a.1).size, mod-lt m (pow_pos s))) (entry-bits b s m lt l18 a.0) (add_same p run) g
    ∙ ap₂ ◌+◌ (entry-item b s m lt l18 a.0 g) (table-new b s ms lt l18 a.1 g)

-- ---- the longest that matches is in the last table that has a match

-- the tables before one of b bits have fewer, those after it more
before-short : (k last : ℕ) (before : List Table) (t : Table) (after : List Table) → Tables k last (before ++ t ∷ after) → Tables t.b last before
before-short k last [] t after v = tt
before-short k last (u ∷ us) t after v =
    let f = v.0 in
    let l : u.b < t.b = (table-inside k u.b us t after v.1).above in (
      record { above = f.above; short = omega arith; s_3 = f.s_3; s_b = f.s_b; fits = f.fits; size = f.size; rises = f.rises; passes = f.passes },
      before-short k u.b us t after v.1,
    )

after-long : (k last : ℕ) (before : List Table) (t : Table) (after : List Table) → Tables k last (before ++ t ∷ after) → Tables k t.b after
after-long k last [] t after v = v.1
after-long k last (u ∷ us) t after v = after-long k u.b us t after v.1

module _ (k c : ℕ) (before : List Table) (t : Table) (after : List Table) (k20 : k ≤ 20) (v : Tables k 5 (before ++ t ∷ after)) (m : 0 < matching c t)
    (z : mothers_of c after ≡ 0) where
  f : TableFine k 5 t
  f = table-inside k 5 before t after v

  -- where all have at most b bits, none is beyond
  few : (l : List Item) → All (λ i. i.len ≤ t.b) l → sum (under (suc k) c) l ≤ sum (under (suc t.b) c) l
  few l a = all-le (λ i. i.len ≤ t.b) (under (suc k) c) (under (suc t.b) c) (λ i le. under-cut (suc k) t.b c i (λ _. le)) l a

  longest-first : sum (under (suc k) c) (mothers (before ++ t ∷ after)) ≤ sum (under (suc t.b) c) (mothers (before ++ t ∷ after))
  longest-first =
      let T : List Item = table_items 18 t.s 0 t.runs in
      omega (
        arith,
        mothers-sum (under (suc k) c) before (t ∷ after),
        mothers-cons (under (suc k) c) t after,
        mothers-sum (under (suc t.b) c) before (t ∷ after),
        mothers-cons (under (suc t.b) c) t after,
        few (mothers before) (mothers-short t.b 5 before (before-short k 5 before t after v)),
        few T (all_map (λ (i : Item). i.len ≡ t.b) (λ i. i.len ≤ t.b) (λ i e. omega arith) T (table-lengths k 5 t f)),
        mothers-count k t.b c after (after-long k 5 before t after v) k20,
      )

  pub taken : Takes k c (mothers (before ++ t ∷ after)) (mothers (before ++ without t c ∷ after))
  unfolding Same sum
  taken =
      hit (item t.b (c % 2 ^ t.b)) (record { short = f.short; bits = mod-mod c (2 ^ t.b) }) longest-first
      (λ g. omega (
        arith,
        mothers-sum g before (t ∷ after),
        mothers-cons g t after,
        mothers-sum g before (without t c ∷ after),
        mothers-cons g (without t c) after,
        table-lost k 5 c t k20 f m g,
      ))
