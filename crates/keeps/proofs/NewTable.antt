-- The annex table that Double adds: its size is the first that holds its hashes, and adding them one by one keeps it right and counts each at its address.
use mathlib.Core.Path.{◌≡◌, refl, sym, ap, ap₂, ◌∙◌, subst}
use mathlib.Core.Bool.{true, false}
use mathlib.Core.List.{List, [], ◌∷◌}
use Prim.Native.Nat.{ℕ, zero, suc, ◌+◌, ◌-◌, ◌/◌, ◌%◌, ◌^◌, ◌≤◌, ◌<◌}
use native.Mathlib.Omega.{arith}
use native.Mathlib.Nat.{mod-lt, mod-eq_of_lt}
use native.Mathlib.Decide.{dec_le, ℕ_discrete}
use lib.Dec.{leb, ltb, eqb, T, lt→ltb}
use lib.Pow.{pow_pos}
use lib.ListN.{length, get_or, length-set, length-replicate, get_or-replicate}
use borrow.Author.Tests.{le-leb, lt-leb}
use Rattle.lists.specs.Runs.{Runs, add, count, total}
use Rattle.lists.proofs.Tests.{and_both, eq_test, is}
use Rattle.lists.proofs.Alls.{All, all-get, all_set, all_same}
use Rattle.lists.proofs.RunLaws.{Rises, all-add, rises-add, length-add, total-set, total-none}
use Rattle.slots.specs.Numbers.{limit}
use Rattle.slots.specs.Payload.{rest_of}
use Rattle.slots.proofs.PayloadLaws.{rest-pay, pay-lt}
use Rattle.rules.specs.Tables.{hash_entry, matching}
use Rattle.rules.specs.Sound.{annex_entry}
use Rattle.rules.specs.Doubling.{size_from, size_for, table_of}
use Rattle.keeps.proofs.Mothers.{hash-fits, matching-added}

-- ---- the size

pub record Sized (k n s : ℕ) : Type 0 where
  pub low : 3 ≤ s
  pub high : s ≤ k
  pub fits : n ≤ limit s

size-from : (d s n k : ℕ) → 3 ≤ s → s ≤ k → k ≤ s + d → n ≤ limit k → Sized k n (size_from d s n)
unfolding size_from
size-from zero s n k a b c h = let e : k ≡ s = omega arith in record { low = a; high = b; fits = subst (λ x. n ≤ limit x) e h }
size-from (suc d) s n k a b c h = go (dec_le n (limit s)) (λ l. size-from d (suc s) n k (omega arith) l (omega arith) h)
  where
    go : Dec (n ≤ limit s) → (suc s ≤ k → Sized k n (size_from d (suc s) n)) → Sized k n (elim (leb n (limit s)) [ true ↦ s | false ↦ size_from d (suc s) n ])
    go (yes l) rec = rw (le-leb n (limit s) l) (record { low = a; high = b; fits = l })
    go (no l) rec = rw (lt-leb n (limit s) (omega arith)) (rec (below (ℕ_discrete s k)))
      where
        below : Dec (s ≡ k) → suc s ≤ k
        below (yes e) = absurd (l (subst (λ x. n ≤ limit x) (sym e) h))
        below (no e) = omega arith

pub size-for : (n k : ℕ) → 3 ≤ k → k ≤ 20 → n ≤ limit k → Sized k n (size_for n)
size-for n k a b h = size-from 20 3 n k (omega arith) a (omega arith) h

-- ---- what it holds

pub hash-passes : (b s m : ℕ) → s ≤ b → b - s < 18 → m < 2 ^ b → T (annex_entry (b - s) (hash_entry b s m))
unfolding annex_entry
hash-passes b s m h l hm =
    let p = hash_entry b s m in
    let f = hash-fits b s m h hm in
    and_both (ltb p (2 ^ 18)) (eqb (rest_of 18 p) (b - s + 1)) (lt→ltb p (2 ^ 18) (pay-lt 18 (b - s) (m / 2 ^ s) l f)) (eq_test (rest_of 18 p) (b - s + 1) (rest-pay 18 (b - s) (m / 2 ^ s) l f))

pub record Made (b s : ℕ) (ms : List ℕ) (rs : Runs) : Type 0 where
  pub size : length rs ≡ 2 ^ s
  pub rises : All Rises rs
  pub passes : All (All (λ p. T (annex_entry (b - s) p))) rs
  pub counted : total rs ≡ length ms
  pub matched : (a : ℕ) → a < 2 ^ b → matching a (record { b = b; s = s; runs = rs }) ≡ count a ms

pub made : (b s : ℕ) (ms : List ℕ) → s < b → b - s < 18 → All (λ m. m < 2 ^ b) ms → Made b s ms (table_of b s ms)
unfolding table_of
made b s [] lt l18 h =
    record {
      size = length-replicate (2 ^ s) [];
      rises = all_same Rises (2 ^ s) [] (unfold Rises in tt);
      passes = all_same (All (λ p. T (annex_entry (b - s) p))) (2 ^ s) [] tt;
      counted = total-none (2 ^ s);
      matched = λ a _. unfold matching count in ap (count (hash_entry b s (a % 2 ^ b))) (get_or-replicate (2 ^ s) (a % 2 ^ s) [] [] (mod-lt a (pow_pos s)));
    }
made b s (m ∷ ms) lt l18 h =
    let ih = made b s ms lt l18 h.1 in
    let rs : Runs = table_of b s ms in
    let c : ℕ = m % 2 ^ s in
    let p : ℕ = hash_entry b s m in
    let hc : c < length rs = omega (arith, ih.size, mod-lt m (pow_pos s)) in
    let run : List ℕ = get_or rs c [] in
    let P : ℕ → Type 0 = λ p. T (annex_entry (b - s) p) in
    record {
      size = length-set rs c (add p run) ∙ ih.size;
      rises = all_set Rises rs c (add p run) ih.rises (rises-add p run (all-get Rises rs [] ih.rises c hc));
      passes = all_set (All P) rs c (add p run) ih.passes (all-add P p run (hash-passes b s m (omega arith) l18 h.0) (all-get (All P) rs [] ih.passes c hc));
      counted = omega (arith, total-set rs c (add p run) hc, length-add p run, ih.counted);
      matched = λ a ha.
          matching-added (record { b = b; s = s; runs = rs }) c m a (omega arith) l18 hc h.0 refl
          ∙ ap₂ (λ (x y : ℕ). is x m + y) (mod-eq_of_lt ha) (ih.matched a ha) ∙ more a ms;
    }
  where
    more : (a : ℕ) (ms : List ℕ) → is a m + count a ms ≡ count a (m ∷ ms)
    more a ms = unfold count in refl
