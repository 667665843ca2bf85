-- Query and Insert: what the code knows on each way out gives the contract. On a sound state main is the layout of what it decodes to.
use mathlib.Core.Path.{◌≡◌, refl, sym, ap, ap₂, ◌∙◌, subst}
use mathlib.Core.Bool.{Bool, true, false}
use mathlib.Core.List.{List, [], ◌∷◌}
use Prim.Native.Nat.{ℕ, zero, suc, ◌+◌, ◌≤◌, ◌<◌, ◌^◌}
use native.Mathlib.Omega.{arith}
use native.Mathlib.Decide.{ℕ_discrete}
use lib.Dec.{T, eqb}
use lib.ListN.{length, get_or, set}
use borrow.Author.Tests.{eq-eqb, ne_eqb}
use Rattle.lists.specs.Lists.{bit}
use Rattle.lists.specs.Runs.{Runs, add, total}
use Rattle.slots.specs.Numbers.{limit}
use Rattle.slots.specs.Payload.{tombstone, matches}
use Rattle.layout.specs.Machine.{layout}
use Rattle.layout.specs.Decode.{decode, run_at}
use Rattle.lookup.specs.Spots.{First}
use Rattle.rules.specs.Record.{Filter, change, fresh, width}
use Rattle.rules.specs.Refusals.{refusal, record_right, slices_right}
use Rattle.rules.specs.Sound.{sound}
use Rattle.rules.specs.Calls.{give, asked}
use Rattle.rules.specs.Quick.{home, fresh_entry, matches_in, matched, best, query_number, query, insert_number, inserted, insert}
use Rattle.keeps.proofs.State.{Fine, fine}
use Rattle.keeps.proofs.Bounds.{Bounds, bounds}
use Rattle.keeps.proofs.Quick.{home-lt}
use Rattle.std.specs.Prelude.{Option, Some, None, Ok, is_some}
use Rattle.slots.proofs.PayloadLaws.{fresh-lt}
use Rattle.filter.specs.Promises.{first_number, Leaves, Quick, Chosen, Sought}
use Rattle.filter.proofs.Firsts.{any-hit, hit-is}
use Rattle.filter.proofs.Outcomes.{first-right, first-asked, given, refusal-quick, done-quick}

pub less : (a b : ℕ) → a ≤ b → (a ≡ b → ⊥) → a < b
less a b h ne = go (ℕ_discrete a b)
  where
    go : Dec (a ≡ b) → a < b
    go (yes e) = absurd (ne e)
    go (no n) = omega arith

-- a fresh payload fits a word
pub fresh-small : (r : Filter) (h : ℕ) → Bounds r → fresh_entry r h < 536870912
fresh-small r h b =
    omega (arith, fresh-lt (width r) (fresh r) r.k h b.fresh_width, lib.Pow.pow_mono {i = width r} {j = 26} b.width_26)

module _ (r : Filter) (main queue annex : List ℕ) where
  -- 2 and 3 are not given
  abbrev pub Lent : Type 0
  Lent = 0 ≡ first_number r (length main) (length queue) (length annex)

  pub right : Lent → T (record_right r)
  right z = (first-right r (length main) (length queue) (length annex) (sym z)).0

  pub first-query : first_number r (length main) (length queue) (length annex) ≡ query_number r main queue annex
  unfolding first_number query_number asked
  first-query = refl

  -- what 2 and 3 leave, and soundness, as facts
  pub fine-state : Lent → T (sound r main queue annex) → Fine r main queue annex (decode main)
  fine-state z s =
      let x = first-right r (length main) (length queue) (length annex) (sym z) in
      fine r main queue annex (record { record-right = x.0; slices-right = x.1; is_sound = s })

  pub bounds_of : Lent → Bounds r
  bounds_of z = bounds r (right z)

  pub main-length : Lent → length main ≡ 2 ^ r.k
  main-length z = (Rattle.keeps.proofs.State.long r main queue annex (first-right r (length main) (length queue) (length annex) (sym z)).1).main_long

  -- numbers that the walk asks for
  pub record Walk (c w k : ℕ) : Type 0 where
    pub inside : c < length main
    pub most : length main ≤ 1048576
    pub more : 1 < length main
    pub wide : w ≤ 26
    pub tall : k ≤ 20

  pub walk : Lent → (c w : ℕ) → c < 2 ^ r.k → w ≡ width r → Walk c w r.k
  walk z c w hc ew =
      let b = bounds_of z in
      let l = main-length z in
      let e : 2 ^ 1 ≤ 2 ^ r.k = lib.Pow.pow_mono {i = 1} {j = r.k} (omega (arith, b.k_3)) in
      record {
        inside = omega arith;
        most = omega (arith, b.slots);
        more = omega arith;
        wide = omega (arith, b.width_26);
        tall = b.k_20;
      }

  -- .. and at the canonical slot of h
  pub walk-home : Lent → (h c w : ℕ) → c ≡ home r h → w ≡ width r → Walk c w r.k
  walk-home z h c w ec ew = walk z c w (omega (arith, home-lt r h)) ew

  -- what the walk found
  module _ (h c w : ℕ) (ec : c ≡ home r h) (ew : w ≡ width r) (o : Option ℕ) (m : First (matches w r.k h) (run_at main c) o) where
    f-run : First (matches (width r) r.k h) (run_at main (home r h)) o
    f-run = subst (λ (x : ℕ). First (matches x r.k h) (run_at main (home r h)) o) ew (subst (λ (x : ℕ). First (matches w r.k h) (run_at main x) o) ec m)

    pub found-matched : is_some o ≡ matched r main h
    unfolding matches_in
    found-matched = any-hit (matches (width r) r.k h) (run_at main (home r h)) o f-run

    pub found-best : (p : ℕ) → o ≡ Some p → p ≡ best r main h
    unfolding best matches_in
    found-best p e = hit-is (matches (width r) r.k h) (run_at main (home r h)) o p (tombstone (width r)) f-run e

  -- ---- what was sought

  module _ (h : ℕ) where
    pub sought-lent : (o : Option ℕ) → Sought r main queue annex h (Ok o) → Lent
    sought-lent None s = s.0
    sought-lent (Some p) s = s.lent

    pub sought-matched : (o : Option ℕ) → Sought r main queue annex h (Ok o) → is_some o ≡ matched r main h
    sought-matched None s = sym s.1
    sought-matched (Some p) s = sym s.some

    pub sought-none : (o : Option ℕ) → o ≡ None → Sought r main queue annex h (Ok o) → matched r main h ≡ false
    sought-none None e s = s.1
    sought-none (Some p) e s = absurd cc

    pub sought-some : (o : Option ℕ) (p c : ℕ) → o ≡ Some p → c ≡ home r h → Sought r main queue annex h (Ok o) → Chosen r main queue annex h c p
    sought-some o p c e ec s =
        subst (λ (x : ℕ). Chosen r main queue annex h x p) (sym ec) (subst (λ (x : Option ℕ). Sought r main queue annex h (Ok x)) e s)

    -- the walk finds it
    pub sought : Lent → (c w : ℕ) → c ≡ home r h → w ≡ width r → (o : Option ℕ) → First (matches w r.k h) (run_at main c) o → Sought r main queue annex h (Ok o)
    sought z c w ec ew None m = (z, sym (found-matched h c w ec ew None m))
    sought z c w ec ew (Some p) m =
        record { lent = z; slot = refl; some = sym (found-matched h c w ec ew (Some p) m); entry = found-best h c w ec ew (Some p) m p refl }

  -- ---- QUERY

  answer : (n m : ℕ) → n ≡ m → (n ≡ 0 → ⊥) → (b : ℕ) → n ≡ elim m [ zero ↦ b | suc k ↦ suc k ]
  answer n zero e ne b = absurd (ne e)
  answer n (suc m) e ne b = e

  pub query-refused : (h n : ℕ) → n ≡ first_number r (length main) (length queue) (length annex) → (n ≡ 0 → ⊥) → n ≡ query r main queue annex h
  unfolding query
  query-refused h n e ne = answer n (query_number r main queue annex) (e ∙ first-query) ne (bit (matched r main h))

  asked-now : (m b : ℕ) → 0 ≡ m → b ≡ elim m [ zero ↦ b | suc k ↦ suc k ]
  asked-now zero b e = refl
  asked-now (suc m) b e = absurd (omega arith)

  pub query-answered : (h : ℕ) → Lent → (a : Bool) → a ≡ matched r main h → bit a ≡ query r main queue annex h
  unfolding query
  query-answered h z a e = ap bit e ∙ asked-now (query_number r main queue annex) (bit (matched r main h)) (z ∙ first-query)

  -- ---- INSERT

  abbrev pub InsertQuick : ℕ → ℕ → Filter → List ℕ → Type 0
  InsertQuick h n rec main' =
      Quick (insert r main queue annex h) (insert_number r main queue annex) (sound r main queue annex) r main queue annex n rec main' queue annex

  pub insert-refused : (h n : ℕ) → n ≡ first_number r (length main) (length queue) (length annex) → (n ≡ 0 → ⊥) → InsertQuick h n r main
  unfolding insert insert_number
  insert-refused h zero e ne = absurd (ne refl)
  insert-refused h (suc n) e ne =
      refusal-quick r main queue annex _ _ _ (suc n) (given r main queue annex _ n (inserted r main queue annex h) (first-asked r main queue annex n _ (sym e)))

  full : (a b : Bool) → a ≡ true → b ≡ true
      → refusal (record { right = a; number = 2 } ∷ record { right = b; number = 3 } ∷ record { right = false; number = 5 } ∷ []) ≡ 5
  unfolding refusal
  full true true e f = refl
  full true false e f = absurd (Rattle.lists.proofs.Tests.no_true f)
  full false b e f = absurd (Rattle.lists.proofs.Tests.no_true e)

  pub insert-full : (h l : ℕ) → Lent → l ≡ limit r.k → r.used ≡ l → InsertQuick h 5 r main
  unfolding insert insert_number asked
  insert-full h l z el eu =
      let x = first-right r (length main) (length queue) (length annex) (sym z) in
      refusal-quick r main queue annex _ _ _ 5
      (given r main queue annex _ 4 (inserted r main queue annex h)
      (ap (λ (b : Bool). refusal
      (record { right = record_right r; number = 2 } ∷ record { right = slices_right r (length main) (length queue) (length annex); number = 3 }
      ∷ record { right = mathlib.Core.Bool.not b; number = 5 } ∷ []))
      (eq-eqb r.used (limit r.k) (eu ∙ el)) ∙ full _ _ (Rattle.lists.proofs.Tests.test-true _ x.0) (Rattle.lists.proofs.Tests.test-true _ x.1)))

  open-to : (a b c : Bool) → T a → T b → c ≡ false
      → refusal (record { right = a; number = 2 } ∷ record { right = b; number = 3 } ∷ record { right = mathlib.Core.Bool.not c; number = 5 } ∷ []) ≡ 0
  unfolding refusal
  open-to true true true s t e = absurd (Rattle.lists.proofs.Tests.no_true (sym e))
  open-to true true false s t e = refl
  open-to true false c s t e = absurd t
  open-to false b c s t e = absurd s

  insert-open : (l : ℕ) → Lent → l ≡ limit r.k → (r.used ≡ l → ⊥) → insert_number r main queue annex ≡ 0
  unfolding insert_number asked
  insert-open l z el ne =
      let x = first-right r (length main) (length queue) (length annex) (sym z) in
      open-to _ _ (eqb r.used (limit r.k)) x.0 x.1 (ne_eqb _ _ (λ e. ne (e ∙ sym el)))

  -- what insert asks for, and that the used count fits
  pub insert-fits : (l : ℕ) → Lent → l ≡ limit r.k → (r.used ≡ l → ⊥) → (r.used < 2 ^ r.k) × (r.used < 1048576)
  insert-fits l z el ne =
      let b = bounds_of z in
      (omega (arith, b.used_limit, b.limit_slots), omega (arith, b.used_limit, b.limit_slots, b.slots))

  insert-left : (c p : ℕ) (h : ℕ) (main' : List ℕ) → Fine r main queue annex (decode main) → r.used < limit r.k → limit r.k < 2 ^ r.k → c ≡ home r h
      → p ≡ fresh_entry r h
      → ((runs : Runs) → main ≡ layout runs → suc (total runs) < length runs → main' ≡ layout (set runs c (add p (get_or runs c []))))
      → Leaves (inserted r main queue annex h) 0 (change r r.k (r.used + 1) r.queued r.dir) main' queue annex
  unfolding inserted
  insert-left c p h main' v few room ec ep t =
      record {
        number_is = refl;
        rec_is = refl;
        main_is = t (decode main) v.table.laid (omega (arith, v.table.counted, v.table.size))
            ∙ ap₂ (λ (a b : ℕ). layout (set (decode main) a (add b (get_or (decode main) a [])))) ec ep;
        queue_is = refl;
        annex_is = refl;
      }

  pub insert-done : (h l c p : ℕ) (main' : List ℕ) → Lent → l ≡ limit r.k → (r.used ≡ l → ⊥)
      → c ≡ home r h → p ≡ fresh_entry r h
      → ((runs : Runs) → main ≡ layout runs → suc (total runs) < length runs → main' ≡ layout (set runs c (add p (get_or runs c []))))
      → InsertQuick h 0 (change r r.k (r.used + 1) r.queued r.dir) main'
  unfolding insert give
  insert-done h l c p main' z el ne ec ep t =
      let b = bounds_of z in
      done-quick r main queue annex (insert r main queue annex h) (insert_number r main queue annex) (sound r main queue annex)
      (r.used + 1) r.queued main' queue (insert-open l z el ne)
      (λ s. rw (insert-open l z el ne, give)
      (insert-left c p h main' (fine-state z s) (less r.used (limit r.k) b.used_limit (λ e. ne (e ∙ sym el))) b.limit_slots ec ep t))
