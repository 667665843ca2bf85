-- What Settle does to the strings: each queue word takes the longest mother hash that matches it, and the voids and tombstones that go are no strings.
use mathlib.Core.Path.{◌≡◌, refl, sym, ap, ◌∙◌, subst}
use mathlib.Core.List.{List, [], ◌∷◌, ◌++◌, map}
use Prim.Native.Nat.{ℕ, zero, suc, ◌+◌, ◌/◌, ◌≤◌, ◌<◌}
use native.Mathlib.Omega.{arith}
use native.Mathlib.Decide.{ℕ_discrete}
use lib.ListN.{length, get_or, take, length-map}
use Rattle.lists.specs.Lists.{sum}
use Rattle.lists.specs.Runs.{Runs, erase, erase_all, count, total}
use Rattle.lists.proofs.Alls.{All}
use Rattle.lists.proofs.Sums.{Same}
use Rattle.lists.proofs.RunLaws.{erase_same, erase-none}
use Rattle.slots.specs.Payload.{void, tombstone, rest_of}
use Rattle.slots.proofs.PayloadLaws.{void-rest, tombstone-rest}
use Rattle.layout.specs.Decode.{decode}
use Rattle.rules.specs.Record.{Filter, change, fresh_at, width_at, width}
use Rattle.rules.specs.Tables.{Table}
use Rattle.rules.specs.Settling.{Held, longest, take_hash, take_voids, settle_found, settle_word, settle_all, no_tombstones}
use Rattle.rules.specs.Calls.{Outcome}
use Rattle.rules.specs.Slow.{held_after, settled, settle}
use Rattle.keeps.proofs.State.{Good, Fine, fine}
use Rattle.keeps.proofs.Bounds.{width-pos}
use Rattle.keeps.proofs.Annex.{Tables}
use Rattle.keeps.proofs.Parts.{parts-back, tables-of}
use Rattle.keeps.proofs.Take.{table-inside, without, Finding, missing, found, finding, no-runs}
use Rattle.keeps.proofs.Cuts.{cut-is, cut-length, cut_at, erase_all-sum, get_or-erase_all}
use Rattle.keeps.proofs.Settle.{Mid, word-done, first, last, tables-left, settled-parts, settled-fine, settle_is}
use Rattle.history.specs.History.{left}
use Rattle.history.proofs.Strings.{Item}
use Rattle.history.proofs.Abstract.{Takes, miss, TakesAll, none, more, Settled}
use Rattle.history.proofs.Bridge.{weight, weightless, table_items, table_same, no_items}
use Rattle.history.proofs.Hashes.{mothers, mothers-count, mothers-sum, mothers-cons, taken}
use Rattle.history.proofs.Seen.{seen_of, seen}

-- ---- the voids and the tombstones go

erase-weight : (f : Item → ℕ) (w k c p : ℕ) (run : List ℕ) → rest_of w p ≤ 1 → sum (weight f w k c) (erase p run) ≡ sum (weight f w k c) run
unfolding Same sum
erase-weight f w k c p run le = go (ℕ_discrete (count p run) 0)
  where
    go : Dec (count p run ≡ 0) → sum (weight f w k c) (erase p run) ≡ sum (weight f w k c) run
    go (yes e) = ap (sum (weight f w k c)) (erase-none p run e)
    go (no e) = omega (arith, erase_same p run (omega arith) (weight f w k c), weightless f w k c p le)

module _ (f : Item → ℕ) (w k : ℕ) (wpos : 0 < w) where
  voids-taken : (c b : ℕ) (runs : Runs) → sum f (table_items w k 0 (take_voids w c b runs)) ≡ sum f (table_items w k 0 runs)
  voids-taken c b runs =
      table_same f w k 0 runs (take_voids w c b runs) (cut-length w c b runs)
      (λ j h.
      let run : List ℕ = get_or runs j [] in
      subst (λ (l : List ℕ). sum (weight f w k (0 + j)) l ≡ sum (weight f w k (0 + j)) run) (sym (cut_at w c b runs j h))
      (cut-is (λ l. sum (weight f w k (0 + j)) l ≡ sum (weight f w k (0 + j)) run) w c b j run refl
      (erase-weight f w k (0 + j) (void w) run (omega (arith, void-rest w wpos)))))

  word_kept : (c : ℕ) (x : Held) → sum f (table_items w k 0 (settle_word w c x).main) ≡ sum f (table_items w k 0 x.main)
  unfolding settle_word
  word_kept c x = go (longest c x.annex)
    where
      go : (n : ℕ) → sum f (table_items w k 0 (settle_found w c n x).main) ≡ sum f (table_items w k 0 x.main)
      go zero = unfold settle_found in refl
      go (suc b) = unfold settle_found in voids-taken c (suc b) x.main

  words-kept : (ws : List ℕ) (x : Held) → sum f (table_items w k 0 (settle_all w ws x).main) ≡ sum f (table_items w k 0 x.main)
  unfolding settle_all
  words-kept [] x = refl
  words-kept (q ∷ ws) x = words-kept ws (settle_word w (q / 2) x) ∙ word_kept (q / 2) x

  tombstones-taken : (runs : Runs) → sum f (table_items w k 0 (no_tombstones w runs)) ≡ sum f (table_items w k 0 runs)
  unfolding no_tombstones
  tombstones-taken runs =
      table_same f w k 0 runs (map (erase_all (tombstone w)) runs) (length-map runs (erase_all (tombstone w)))
      (λ j h. ap (sum (weight f w k (0 + j))) (get_or-erase_all (tombstone w) runs j)
      ∙ erase_all-sum (weight f w k (0 + j)) (tombstone w) (get_or runs j []) (weightless f w k (0 + j) (tombstone w) (omega (arith, tombstone-rest w))))

-- ---- the mother hashes

module _ (w k : ℕ) (k20 : k ≤ 20) where
  word-takes : (c : ℕ) (x : Held) → Tables k 5 x.annex → Takes k c (mothers x.annex) (mothers (settle_word w c x).annex)
  unfolding settle_word Same
  word-takes c x v = go (longest c x.annex) (finding k 5 c x.annex v)
    where
      go : (n : ℕ) → Finding c x.annex n → Takes k c (mothers x.annex) (mothers (settle_found w c n x).annex)
      go n (missing e z) =
          subst (λ (n : ℕ). Takes k c (mothers x.annex) (mothers (settle_found w c n x).annex)) (sym e)
          (unfold settle_found in miss (mothers-count k 5 c x.annex v k20 ∙ z))
      go zero (found before t after e p s m z) = absurd (omega (arith, (table-inside k 5 before t after (subst (Tables k 5) p v)).above))
      go (suc n) (found before t after e p s m z) =
          unfold settle_found in
          subst (λ (b : ℕ). Takes k c (mothers x.annex) (mothers (take_hash b c x.annex))) (sym e)
          (subst (λ (ts : List Table). Takes k c (mothers x.annex) (mothers ts)) (sym s)
          (subst (λ (ts : List Table). Takes k c (mothers ts) (mothers (before ++ without t c ∷ after))) (sym p)
          (taken k c before t after k20 (subst (Tables k 5) p v) m z)))

  words_take : (ws : List ℕ) (x : Held) → Mid w k x ws → TakesAll k (map (λ q. q / 2) ws) (mothers x.annex) (mothers (settle_all w ws x).annex)
  unfolding settle_all
  words_take [] x m = none
  words_take (q ∷ ws) x m = more (word-takes (q / 2) x m.are) (words_take ws (settle_word w (q / 2) x) (word-done w k k20 x q ws m))

-- empty tables have no mother hashes
empty-mothers : (f : Item → ℕ) (ts : List Table) → All (λ (t : Table). total t.runs ≡ 0) ts → sum f (mothers ts) ≡ 0
unfolding sum
empty-mothers f [] a = unfold mothers in refl
empty-mothers f (t ∷ ts) a =
    omega (
      arith,
      mothers-cons f t ts,
      ap (λ (x : Runs). sum f (table_items 18 t.s 0 x)) (no-runs t.runs a.0),
      ap (sum f) (no_items 18 t.s 0 (length t.runs)),
      empty-mothers f ts a.1,
    )

-- ---- the call

module _ (r : Filter) (main queue annex : List ℕ) (g : Good r main queue annex) where
  v : Fine r main queue annex (decode main)
  v = fine r main queue annex g

  -- before the first word
  at_first : Mid (width r) r.k (first r main queue annex) (take r.queued queue)
  at_first =
      record {
        size = v.table.size;
        rises = v.table.rises;
        passes = v.table.passes;
        few = omega (arith, v.table.counted, v.used_fits);
        are = (tables-of v).are;
        voids = λ a h. (v.address a h).voids;
      }

  settled-step : Settled (seen_of r main queue annex) (seen (left (settled r main queue annex (last r main queue annex g))))
  unfolding settled change fresh_at width_at Same
  settled-step =
      let w = width r in
      let x : Held = last r main queue annex g in
      let tr = tables-left r main queue annex g in
      let wpos : 0 < w = width-pos r r.k in
      record {
        bits = λ f. ap (λ (rs : Runs). sum f (table_items w r.k 0 rs)) (settled-fine r main queue annex g).table.held
            ∙ tombstones-taken f w r.k wpos x.main ∙ words-kept f w r.k wpos (take r.queued queue) (first r main queue annex);
        left = mothers x.annex;
        taken = words_take w r.k v.high_k (take r.queued queue) (first r main queue annex) at_first;
        mothers = λ f. ap (λ (ts : List Table). sum f (mothers ts)) (parts-back (settled-parts r main queue annex g))
            ∙ omega (arith, ap (λ (ts : List Table). sum f (mothers ts)) tr.cut, mothers-sum f tr.left tr.dropped, empty-mothers f tr.dropped tr.empty);
        queue = refl;
      }

  pub settle_step : (settle r main queue annex).number ≡ 0 → Settled (seen_of r main queue annex) (seen (left (settle r main queue annex)))
  unfolding held_after
  settle_step z = subst (λ (o : Outcome). Settled (seen_of r main queue annex) (seen (left o))) (sym (settle_is r main queue annex z)) settled-step
