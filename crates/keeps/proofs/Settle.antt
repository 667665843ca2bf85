-- Settle keeps a good state good, and leaves each address with as many voids as stored mother hashes match it. The voids are those that match less the queue
-- words to come; each word takes one match and one void from the same addresses, or no match at all.
use mathlib.Core.Path.{◌≡◌, refl, sym, ap, ◌∙◌, subst}
use mathlib.Core.List.{List, [], ◌∷◌, ◌++◌, map, append_assoc}
use Prim.Native.Nat.{ℕ, zero, suc, ◌+◌, ◌-◌, ◌/◌, ◌%◌, ◌^◌, ◌≤◌, ◌<◌}
use native.Mathlib.Omega.{arith}
use native.Mathlib.Decide.{ℕ_discrete}
use lib.Dec.{T}
use lib.ListN.{length, get_or, take, drop, replicate, length-map}
use Rattle.lists.specs.Runs.{Runs, erase_all, count, total}
use Rattle.lists.proofs.Tests.{is, is-yes, is-no}
use Rattle.lists.proofs.Alls.{All, all-maps}
use Rattle.lists.proofs.RunLaws.{Rises, all-erase, rises-erase}
use Rattle.slots.specs.Numbers.{limit}
use Rattle.slots.specs.Payload.{void, tombstone}
use Rattle.slots.proofs.NumberLaws.{limit-lt}
use Rattle.slots.proofs.PayloadLaws.{void-tombstone}
use Rattle.layout.specs.Machine.{layout}
use Rattle.layout.specs.Decode.{decode}
use Rattle.directory.specs.declared.Place.{Place}
use Rattle.directory.specs.Places.{no_place, places_in_use, trim}
use Rattle.rules.specs.Record.{Filter, change, width, fresh_at, width_at, in_use, annex_used}
use Rattle.rules.specs.Tables.{Table, matching, mothers_of, tables, table_words, place_of}
use Rattle.rules.specs.Sound.{main_entry, naming}
use Rattle.rules.specs.Settling.{Held, longest, take_hash, take_voids, settle_found, settle_word, settle_all, no_tombstones}
use Rattle.rules.specs.Calls.{Outcome, refused}
use Rattle.rules.specs.Slow.{audit, held_after, settled, settle}
use Rattle.keeps.proofs.Refusals.{given-done}
use Rattle.keeps.proofs.Holds.{Holds, laid_out}
use Rattle.keeps.proofs.State.{Good, Address, Fine, fine, good}
use Rattle.keeps.proofs.Audits.{audit-good}
use Rattle.keeps.proofs.Bounds.{width-pos}
use Rattle.keeps.proofs.Quick.{GoodOutcome}
use Rattle.keeps.proofs.Annex.{Tables, words_append, places_in_use-tables, zeros, fifteen-places}
use Rattle.keeps.proofs.Parts.{Parts, parts-fine, tables-of}
use Rattle.keeps.proofs.Take.{table-inside, without, without-fine, tables-changed, Finding, missing, found, finding, lost-one, Trimmed, trimmed, trimmed-mothers}
use Rattle.keeps.proofs.Cuts.{cut, cut-length, cut_at, cut_all, cut-total, cut-other, cut-own, cut-far, all-erase_all, rises-erase_all, erase_all-none, erase_all-other, get_or-erase_all, total-erase_all}

-- ---- main and annex on the way, while the queue words ws are to come

pub record Mid (w k : ℕ) (x : Held) (ws : List ℕ) : Type 0 where
  pub size : length x.main ≡ 2 ^ k
  pub rises : All Rises x.main
  pub passes : All (All (λ p. T (main_entry w k p))) x.main
  pub few : total x.main ≤ limit k
  pub are : Tables k 5 x.annex
  pub voids : (a : ℕ) → a < 2 ^ k → count (void w) (get_or x.main a []) ≡ mothers_of a x.annex - naming a ws

module _ (w k : ℕ) (k20 : k ≤ 20) where
  -- one queue word q, which names c
  module _ (x : Held) (q : ℕ) (ws : List ℕ) (m : Mid w k x (q ∷ ws)) where
    abbrev c : ℕ
    c = q / 2

    named : (a : ℕ) → naming a (q ∷ ws) ≡ is a c + naming a ws
    unfolding naming count
    named a = refl

    missed : mothers_of c x.annex ≡ 0 → Mid w k x ws
    missed z = record { size = m.size; rises = m.rises; passes = m.passes; few = m.few; are = m.are; voids = λ a h. m.voids a h ∙ each a (ℕ_discrete a c) }
      where
        each : (a : ℕ) → Dec (a ≡ c) → mothers_of a x.annex - naming a (q ∷ ws) ≡ mothers_of a x.annex - naming a ws
        each a (yes e) = omega (arith, ap (λ y. mothers_of y x.annex) e)
        each a (no e) = omega (arith, named a, is-no a c e)

    -- the mother hash is in table t
    took : (before : List Table) (t : Table) (after : List Table) → x.annex ≡ before ++ t ∷ after → 0 < matching c t
        → Mid w k (record { main = take_voids w c t.b x.main; annex = before ++ without t c ∷ after }) ws
    took before t after e mt =
        let b = t.b in
        let runs = x.main in
        let tv : Tables k 5 (before ++ t ∷ after) = subst (Tables k 5) e m.are in
        record {
          size = cut-length w c b runs ∙ m.size;
          rises = cut_all w c b runs Rises (λ run r. rises-erase (void w) run r) m.rises;
          passes = cut_all w c b runs (All (λ p. T (main_entry w k p))) (λ run r. all-erase (λ p. T (main_entry w k p)) (void w) run r) m.passes;
          few = omega (arith, cut-total w c b runs, m.few);
          are = tables-changed k 5 before t (without t c) after refl (λ l f. without-fine k l c t f mt) tv;
          voids = λ a h. ap (count (void w)) (cut_at w c b runs a (omega (arith, m.size)))
              ∙ each a (m.voids a h) (one tv a) (ℕ_discrete a c) (ℕ_discrete (a % 2 ^ b) (c % 2 ^ b));
        }
      where
        one : Tables k 5 (before ++ t ∷ after) → (a : ℕ) → mothers_of a (before ++ without t c ∷ after) + is (a % 2 ^ t.b) (c % 2 ^ t.b) ≡ mothers_of a x.annex
        one tv a = lost-one k 5 c a before t after k20 tv mt ∙ ap (mothers_of a) (sym e)

        each : (a : ℕ) → count (void w) (get_or x.main a []) ≡ mothers_of a x.annex - naming a (q ∷ ws)
            → mothers_of a (before ++ without t c ∷ after) + is (a % 2 ^ t.b) (c % 2 ^ t.b) ≡ mothers_of a x.annex
            → Dec (a ≡ c) → Dec (a % 2 ^ t.b ≡ c % 2 ^ t.b)
            → count (void w) (cut w c t.b a (get_or x.main a [])) ≡ mothers_of a (before ++ without t c ∷ after) - naming a ws
        each a v l (yes s) d =
            cut-own w c t.b a (get_or x.main a []) s
            ∙ omega (arith, v, l, named a, is-yes a c s, is-yes (a % 2 ^ t.b) (c % 2 ^ t.b) (ap (λ y. y % 2 ^ t.b) s))
        each a v l (no s) (yes d) = cut-other w c t.b a (get_or x.main a []) s d ∙ omega (arith, v, l, named a, is-no a c s, is-yes (a % 2 ^ t.b) (c % 2 ^ t.b) d)
        each a v l (no s) (no d) = cut-far w c t.b a (get_or x.main a []) d ∙ omega (arith, v, l, named a, is-no a c s, is-no (a % 2 ^ t.b) (c % 2 ^ t.b) d)

    pub word-done : Mid w k (settle_word w c x) ws
    unfolding settle_word
    word-done = go (longest c x.annex) (finding k 5 c x.annex m.are)
      where
        go : (n : ℕ) → Finding c x.annex n → Mid w k (settle_found w c n x) ws
        go n (missing e z) = subst (λ (n : ℕ). Mid w k (settle_found w c n x) ws) (sym e) (unfold settle_found in missed z)
        go zero (found before t after e p s mt z) = absurd (omega (arith, (table-inside k 5 before t after (subst (Tables k 5) p m.are)).above))
        go (suc n) (found before t after e p s mt z) =
            unfold settle_found in
            subst (λ (b : ℕ). Mid w k (record { main = take_voids w c b x.main; annex = take_hash b c x.annex }) ws) (sym e)
            (subst (λ (ts : List Table). Mid w k (record { main = take_voids w c t.b x.main; annex = ts }) ws) (sym s) (took before t after p mt))

  -- all words
  pub words-done : (ws : List ℕ) (x : Held) → Mid w k x ws → Mid w k (settle_all w ws x) []
  unfolding settle_all
  words-done [] x m = m
  words-done (q ∷ ws) x m = words-done ws (settle_word w (q / 2) x) (word-done x q ws m)

-- ---- the call

module _ (r : Filter) (main queue annex : List ℕ) where
  abbrev pub first : Held
  first = record { main = decode main; annex = tables (in_use r) annex }

  -- an accepted Settle had a good state
  pub settle-had : (settle r main queue annex).number ≡ 0 → Good r main queue annex
  unfolding settle refused
  settle-had z = audit-good r main queue annex (given-done (audit r main queue annex) (settled r main queue annex (held_after r main queue annex)) (refused r main queue annex (audit r main queue annex)) refl z).0

  pub settle_is : (settle r main queue annex).number ≡ 0 → settle r main queue annex ≡ settled r main queue annex (held_after r main queue annex)
  unfolding settle refused
  settle_is z = (given-done (audit r main queue annex) (settled r main queue annex (held_after r main queue annex)) (refused r main queue annex (audit r main queue annex)) refl z).1

  module _ (g : Good r main queue annex) where
    abbrev pub last : Held
    last = settle_all (width r) (take r.queued queue) first

    abbrev pub runs-left : Runs
    runs-left = no_tombstones (width r) last.main

    v : Fine r main queue annex (decode main)
    v = fine r main queue annex g

    pub all_done : Mid (width r) r.k last []
    all_done =
        words-done (width r) r.k v.high_k (take r.queued queue) first
        (record {
          size = v.table.size;
          rises = v.table.rises;
          passes = v.table.passes;
          few = omega (arith, v.table.counted, v.used_fits);
          are = (tables-of v).are;
          voids = λ a h. (v.address a h).voids;
        })

    pub tables-left : Trimmed r.k 5 last.annex
    tables-left = trimmed r.k 5 last.annex all_done.are

    fewer : total runs-left ≤ total last.main
    unfolding no_tombstones
    fewer = total-erase_all (tombstone (width r)) last.main

    holds : Holds (main_entry (width r) r.k) r.k (total runs-left) (layout runs-left) runs-left
    unfolding no_tombstones
    holds =
        let P : ℕ → Type 0 = λ p. T (main_entry (width r) r.k p) in
        let t = tombstone (width r) in
        let m = all_done in
        laid_out (main_entry (width r) r.k) r.k runs-left (length-map last.main (erase_all t) ∙ m.size) (omega (arith, fewer, m.few, limit-lt r.k))
        (all-maps Rises Rises (erase_all t) (rises-erase_all t) last.main m.rises)
        (all-maps (All P) (All P) (erase_all t) (all-erase_all P t) last.main m.passes)

    each : (c : ℕ) → c < 2 ^ r.k → Address (width r) tables-left.left [] c (get_or runs-left c [])
    unfolding no_tombstones
    each c h =
        let w = width r in
        let t = tombstone w in
        let run : List ℕ = get_or last.main c [] in
        subst (λ (l : List ℕ). Address w tables-left.left [] c l) (sym (get_or-erase_all t last.main c))
        (record {
          tombstones = erase_all-none t run ∙ (unfold count in refl);
          voids = erase_all-other t (void w) run (void-tombstone w (width-pos r r.k)) ∙ all_done.voids c h
              ∙ ap (λ x. x - naming c []) (sym (trimmed-mothers r.k 5 last.annex tables-left c));
        })

    -- what it leaves, by parts
    pub settled-parts : Parts (settled r main queue annex last).rec (settled r main queue annex last).main queue (settled r main queue annex last).annex
        (table_words tables-left.dropped ++ drop (annex_used r) annex) runs-left tables-left.left
    unfolding settled change fresh_at width_at
    settled-parts =
        let tr = tables-left in
        let n : ℕ = 15 - length (trim (map place_of last.annex)) in
        record {
          settings = v.settings;
          low_k = v.low_k;
          high_k = v.high_k;
          used_fits = omega (arith, fewer, all_done.few);
          queue_fits = omega arith;
          queue_long = omega arith;
          are = tr.are;
          places = ap (λ (ps : List Place). places_in_use (ps ++ replicate n no_place)) tr.places ∙ places_in_use-tables r.k 5 n tr.left tr.are;
          zeros = rw tr.places (zeros r.k 5 (15 - length (map place_of tr.left)) tr.left tr.are);
          words = ap (λ (ts : List Table). table_words ts ++ drop (annex_used r) annex) tr.cut
              ∙ ap (λ (ws : List ℕ). ws ++ drop (annex_used r) annex) (words_append tr.left tr.dropped)
              ∙ append_assoc (table_words tr.left) (table_words tr.dropped) (drop (annex_used r) annex);
          table = holds;
          queue-right = tt;
          address = each;
        }

    pub settled-fine : Fine (settled r main queue annex last).rec (settled r main queue annex last).main queue (settled r main queue annex last).annex runs-left
    settled-fine = parts-fine settled-parts

    pub settled-good : GoodOutcome (settled r main queue annex (held_after r main queue annex))
    unfolding held_after settled
    settled-good = good _ _ _ _ _ settled-fine

    pub settled-places : length (settled r main queue annex (held_after r main queue annex)).rec.dir ≡ 15
    unfolding held_after settled change
    settled-places = fifteen-places r.k (trim (map place_of last.annex)) tables-left.left tables-left.places tables-left.are v.high_k

    settled-voids : (a : ℕ) → a < 2 ^ r.k
        → count (void (width r)) (get_or (decode (settled r main queue annex last).main) a []) ≡ mothers_of a (tables (in_use (settled r main queue annex last).rec) (settled r main queue annex last).annex)
    unfolding naming count settled change fresh_at width_at
    settled-voids a h = ap (λ (x : Runs). count (void (width r)) (get_or x a [])) settled-fine.table.held ∙ (settled-fine.address a h).voids ∙ omega arith

  pub settle-good : (settle r main queue annex).number ≡ 0 → GoodOutcome (settle r main queue annex)
  settle-good z = subst GoodOutcome (sym (settle_is z)) (settled-good (settle-had z))

  -- "after Settle each address holds as many voids as stored mother hashes match it", on any memory on which Settle is accepted
  pub settle-voids : (settle r main queue annex).number ≡ 0 → (a : ℕ) → a < 2 ^ r.k
      → count (void (width r)) (get_or (decode (settle r main queue annex).main) a []) ≡ mothers_of a (tables (in_use (settle r main queue annex).rec) (settle r main queue annex).annex)
  unfolding held_after
  settle-voids z a h =
      subst (λ (o : Outcome). count (void (width r)) (get_or (decode o.main) a []) ≡ mothers_of a (tables (in_use o.rec) o.annex)) (sym (settle_is z)) (settled-voids (settle-had z) a h)
