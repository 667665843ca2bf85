-- Double keeps a good state good, with the second main as main: the halves are right runs, and each address gains as many voids as new mother hashes match it.
use mathlib.Core.Path.{◌≡◌, refl, sym, ap, ◌∙◌, subst}
use mathlib.Core.List.{List, [], ◌∷◌, ◌++◌, map}
use Prim.Native.Nat.{ℕ, suc, ◌+◌, ◌-◌, ◌*◌, ◌%◌, ◌^◌, ◌≤◌, ◌<◌}
use native.Mathlib.Omega.{arith}
use native.Mathlib.Nat.{add-mod_right, pow-suc, zero-add}
use native.Mathlib.Numerals.{add-one}
use native.Mathlib.Decide.{dec_lt}
use lib.Dec.{T}
use lib.Pow.{pow_mono}
use lib.ListN.{length, get_or, take, length-append, length-map, get_or-append}
use lib.Seq.{get_or-append-add}
use Rattle.lists.specs.Lists.{every}
use Rattle.lists.specs.Runs.{Runs, count, total}
use Rattle.lists.proofs.Alls.{All, all-get, all_map, all-maps}
use Rattle.lists.proofs.RunLaws.{Rises}
use Rattle.slots.specs.Numbers.{limit}
use Rattle.slots.specs.Payload.{void}
use Rattle.slots.proofs.NumberLaws.{limit-lt}
use Rattle.layout.specs.Machine.{layout}
use Rattle.layout.specs.Decode.{decode}
use Rattle.layout.proofs.Laws.{total-append}
use Rattle.directory.specs.declared.Place.{Place}
use Rattle.directory.specs.Places.{places_in_use, places_not_in_use, zero_place}
use Rattle.rules.specs.Record.{Filter, change, width, width_at, fresh_at, in_use}
use Rattle.rules.specs.Tables.{Table, mothers_of, tables, table_words, place_of}
use Rattle.rules.specs.Sound.{main_entry, naming}
use Rattle.rules.specs.Doubling.{doubled, half_run, become_void, new_hashes}
use Rattle.rules.specs.Slow.{doubled_runs}
use Rattle.keeps.proofs.Holds.{Holds, laid_out}
use Rattle.keeps.proofs.State.{Address, Fine}
use Rattle.keeps.proofs.Bounds.{Sizes, sizes, width-pos, width-rises}
use Rattle.keeps.proofs.Entries.{passes-lt}
use Rattle.keeps.proofs.Annex.{Tables}
use Rattle.keeps.proofs.Mothers.{mothers-low}
use Rattle.keeps.proofs.Parts.{Parts, tables-of}
use Rattle.keeps.proofs.Halves.{all_append, total-half, get_or-half, half-tombstones, half-rises, half-passes}
use Rattle.keeps.proofs.Hashes.{hashes-at, half-voids}

pub limit-double : (k : ℕ) → 3 ≤ k → limit (k + 1) ≡ limit k + limit k
unfolding limit
limit-double k h =
    let c : k + 1 - 3 ≡ suc (k - 3) = omega arith in
    let a : 2 ^ (k + 1) ≡ 2 ^ k * 2 = ap (λ x. 2 ^ x) (add-one k) ∙ pow-suc 2 k in
    let b : 2 ^ (k + 1 - 3) ≡ 2 ^ (k - 3) * 2 = ap (λ x. 2 ^ x) c ∙ pow-suc 2 (k - 3) in
    omega (arith, pow_mono {i = k - 3} {j = k} (omega arith))

both : {A : Type 0} (P Q : A → Type 0) → (l : List A) → All P l → All Q l → All (λ a. P a × Q a) l
both P Q [] a b = tt
both P Q (x ∷ l) a b = ((a.0, b.0), both P Q l a.1 b.1)

module _ (r : Filter) (main queue annex : List ℕ) (v : Fine r main queue annex (decode main)) (k19 : r.k < 20) (empty : r.queued ≡ 0) where
  abbrev w : ℕ
  w = width r

  abbrev w₂ : ℕ
  w₂ = width_at r (r.k + 1)

  abbrev runs : Runs
  runs = decode main

  abbrev pub runs₂ : Runs
  runs₂ = doubled_runs r main queue annex

  abbrev ts : List Table
  ts = tables (in_use r) annex

  z : Sizes r.start r.f r.regime
  z = sizes r.start r.f r.regime v.settings

  wp : 0 < w
  wp = width-pos r r.k

  wv : w ≤ w₂
  wv = width-rises r r.k z v.low_k k19

  small : All (All (λ p. p < 2 ^ w)) runs
  small = all_map (All (λ p. T (main_entry w r.k p))) (All (λ p. p < 2 ^ w)) (all_map (λ p. T (main_entry w r.k p)) (λ p. p < 2 ^ w) (passes-lt w r.k)) runs v.table.passes

  -- ---- the main table

  two : 2 ^ (r.k + 1) ≡ 2 ^ r.k + 2 ^ r.k
  two = ap (λ x. 2 ^ x) (add-one r.k) ∙ pow-suc 2 r.k ∙ omega arith

  halves : runs₂ ≡ map (half_run w w₂ 0) runs ++ map (half_run w w₂ 1) runs
  unfolding doubled_runs doubled
  halves = refl

  size₂ : length runs₂ ≡ 2 ^ (r.k + 1)
  size₂ =
      omega (arith, two, v.table.size, ap length halves, length-append (map (half_run w w₂ 0) runs) (map (half_run w w₂ 1) runs), length-map runs (half_run w w₂ 0), length-map runs (half_run w w₂ 1))

  pub few₂ : total runs₂ ≤ limit (r.k + 1)
  few₂ =
      omega (
        arith,
        limit-double r.k (omega (arith, z.start_3, v.low_k)),
        v.used_fits,
        v.table.counted,
        ap total halves,
        total-append (map (half_run w w₂ 0) runs) (map (half_run w w₂ 1) runs),
        total-half w w₂ 0 runs,
        total-half w w₂ 1 runs,
      )

  pub holds₂ : Holds (main_entry w₂ (r.k + 1)) (r.k + 1) (total runs₂) (layout runs₂) runs₂
  holds₂ =
      laid_out (main_entry w₂ (r.k + 1)) (r.k + 1) runs₂ size₂ (omega (arith, few₂, limit-lt (r.k + 1)))
      (rw halves (all_append Rises (map (half_run w w₂ 0) runs) (map (half_run w w₂ 1) runs) (rises 0) (rises 1)))
      (rw halves (all_append (All (λ p. T (main_entry w₂ (r.k + 1) p))) (map (half_run w w₂ 0) runs) (map (half_run w w₂ 1) runs) (passing 0) (passing 1)))
    where
      rises : (t : ℕ) → All Rises (map (half_run w w₂ t) runs)
      rises t =
          all-maps (λ x. All (λ p. p < 2 ^ w) x × Rises x) Rises (half_run w w₂ t) (λ x y. half-rises w w₂ wp wv t x y.0 y.1) runs
          (both (All (λ p. p < 2 ^ w)) Rises runs small v.table.rises)

      passing : (t : ℕ) → All (All (λ p. T (main_entry w₂ (r.k + 1) p))) (map (half_run w w₂ t) runs)
      passing t =
          all-maps (All (λ p. T (main_entry w r.k p))) (All (λ p. T (main_entry w₂ (r.k + 1) p))) (half_run w w₂ t) (λ x y. half-passes w w₂ wp wv t r.k x y) runs v.table.passes

  -- ---- each address, with any tables that have the new mother hashes besides

  abbrev pub Gains : List Table → Type 0
  Gains us = (a : ℕ) → a < 2 ^ (r.k + 1) → mothers_of a us ≡ mothers_of a ts + count a (new_hashes w r.k 0 runs)

  module _ (us : List Table) (gains : Gains us) where
    -- the half t of the run of c
    each : (t c a : ℕ) → t < 2 → c < 2 ^ r.k → a ≡ c + 2 ^ r.k * t → a < 2 ^ (r.k + 1) → a % 2 ^ r.k ≡ c % 2 ^ r.k → Address w₂ us [] a (half_run w w₂ t (get_or runs c []))
    each t c a ht hc ea ha em =
        let run : List ℕ = get_or runs c [] in
        let hl : c < length runs = omega (arith, v.table.size) in
        let old : count (void w) run ≡ mothers_of c ts = (v.address c hc).voids ∙ ap (λ (n : ℕ). mothers_of c ts - naming c (take n queue)) empty ∙ none_named c in
        let new : count (c + 2 ^ r.k * t) (new_hashes w r.k 0 runs) ≡ count (c + 2 ^ r.k * t) (become_void w r.k c run) =
        rw zero-add at (hashes-at w r.k t 0 runs c hl (omega (arith, v.table.size))) in
        record {
          tombstones = half-tombstones w w₂ wp wv t run ∙ (unfold count in refl);
          voids = half-voids w w₂ wp wv r.k c t ht run (all-get (All (λ p. p < 2 ^ w)) runs [] small c hl)
              ∙ omega (arith, old, new, ap (λ x. count x (new_hashes w r.k 0 runs)) ea, mothers-low r.k 5 a c ts (tables-of v).are em, gains a ha)
              ∙ sym (nothing a);
        }
      where
        none_named : (c : ℕ) → mothers_of c ts - naming c (take 0 queue) ≡ mothers_of c ts
        none_named c = unfold naming count in omega arith

        nothing : (a : ℕ) → mothers_of a us - naming a [] ≡ mothers_of a us
        nothing a = unfold naming count in omega arith

    pub address₂ : (a : ℕ) → a < 2 ^ (r.k + 1) → Address w₂ us [] a (get_or runs₂ a [])
    address₂ a h = subst (λ (l : Runs). Address w₂ us [] a (get_or l a [])) (sym halves) (go (dec_lt a (2 ^ r.k)))
      where
        len : length (map (half_run w w₂ 0) runs) ≡ 2 ^ r.k
        len = length-map runs (half_run w w₂ 0) ∙ v.table.size

        go : Dec (a < 2 ^ r.k) → Address w₂ us [] a (get_or (map (half_run w w₂ 0) runs ++ map (half_run w w₂ 1) runs) a [])
        go (yes l) =
            subst (Address w₂ us [] a) (sym (get_or-append (map (half_run w w₂ 0) runs) (map (half_run w w₂ 1) runs) [] a (omega (arith, len)) ∙ get_or-half w w₂ 0 runs a))
            (each 0 a a (omega arith) l (omega arith) h refl)
        go (no l) =
            let c : ℕ = a - 2 ^ r.k in
            let ea : a ≡ 2 ^ r.k + c = omega arith in
            let em : a % 2 ^ r.k ≡ c % 2 ^ r.k = ap (λ x. x % 2 ^ r.k) (ea ∙ omega arith) ∙ add-mod_right c (2 ^ r.k) in
            let eg : get_or (map (half_run w w₂ 0) runs ++ map (half_run w w₂ 1) runs) a [] ≡ half_run w w₂ 1 (get_or runs c []) =
            ap (λ x. get_or (map (half_run w w₂ 0) runs ++ map (half_run w w₂ 1) runs) x []) (ea ∙ omega (arith, len))
            ∙ get_or-append-add (map (half_run w w₂ 0) runs) (map (half_run w w₂ 1) runs) c [] ∙ get_or-half w w₂ 1 runs c in
            subst (Address w₂ us [] a) (sym eg) (each 1 c a (omega arith) (omega (arith, two)) (omega arith) h em)

  -- ---- the state

  abbrev pub Doubled : List Place → List ℕ → List ℕ → List Table → Type 0
  Doubled dir annex₂ rest us = Parts (change r (r.k + 1) (total runs₂) 0 dir) (layout runs₂) queue annex₂ rest runs₂ us

  pub from-tables : (us : List Table) (rest annex₂ : List ℕ) (dir : List Place) → Tables (r.k + 1) 5 us → Gains us → places_in_use dir ≡ map place_of us
      → T (every zero_place (places_not_in_use dir)) → annex₂ ≡ table_words us ++ rest
      → Doubled dir annex₂ rest us
  unfolding change fresh_at width_at
  from-tables us rest annex₂ dir tv gains fr be an =
      record {
        settings = v.settings;
        low_k = omega (arith, v.low_k);
        high_k = omega arith;
        used_fits = few₂;
        queue_fits = omega arith;
        queue_long = omega arith;
        are = tv;
        places = fr;
        zeros = be;
        words = an;
        table = holds₂;
        queue-right = tt;
        address = address₂ us gains;
      }
