-- An accepted Start leaves a good state without strings; an accepted call, valid or not, leaves a good state and does to the strings what the abstract call does;
-- and where other queue and annex words are lent, in which those in use are the same, nothing is seen of it.
use mathlib.Core.Path.{◌≡◌, refl, sym, ap, ap₂, ◌∙◌, subst}
use mathlib.Core.Bool.{Bool, ◌&&◌}
use mathlib.Core.Logic.{◌⊎◌}
use mathlib.Core.List.{List, [], ◌∷◌, map}
use Prim.Native.Nat.{ℕ, ◌+◌, ◌-◌, ◌/◌, ◌^◌, ◌≤◌, ◌<◌}
use native.Mathlib.Omega.{arith}
use lib.Dec.{T}
use lib.ListN.{length, get_or, take, drop, replicate, length-take}
use lib.Seq.{take-take, take-add, drop_at, length-take-le}
use Rattle.lists.specs.Lists.{sum, front}
use Rattle.lists.proofs.Alls.{All}
use Rattle.lists.proofs.Sums.{Same}
use Rattle.layout.specs.Decode.{decode}
use Rattle.directory.specs.declared.Place.{Place}
use Rattle.directory.specs.Places.{words_taken}
use Rattle.rules.specs.Record.{Filter, width, in_use, annex_used}
use Rattle.rules.specs.Tables.{Table, tables}
use Rattle.rules.specs.Sound.{table_right, annex_entry, annex_right}
use Rattle.rules.specs.Calls.{Outcome, started}
use Rattle.keeps.proofs.State.{Good, Address, Fine, fine, good}
use Rattle.keeps.proofs.Done.{insert-good, delete-good, rejuvenate-good}
use Rattle.keeps.proofs.Settle.{settle-good}
use Rattle.keeps.proofs.Doubled.{double-good}
use Rattle.keeps.proofs.Start.{start-done, started-fine, start-good}
use Rattle.history.specs.History.{Call, Query, Insert, Delete, Rejuvenate, Audit, Settle, Double, Words, left, Started, Accepted, Lends}
use Rattle.history.proofs.Abstract.{State, Fresh, Step, Inserted, Removed, Queued, Kept, Settled, Doubled}
use Rattle.history.proofs.Bridge.{table_items, no_items, view}
use Rattle.history.proofs.Hashes.{mothers}
use Rattle.history.proofs.Seen.{seen_of, seen, GoodWords, insert-step, delete-step, rejuvenate-step}
use Rattle.history.proofs.Settles.{settle_step}
use Rattle.history.proofs.Doubles.{double-step}

-- ---- Start

fresh-state : (power f regime : ℕ) (queue annex : List ℕ) → Fine (started power f regime) (replicate (2 ^ power) 0) queue annex (replicate (2 ^ power) [])
    → Fresh (seen_of (started power f regime) (replicate (2 ^ power) 0) queue annex)
fresh-state power f regime queue annex v =
    let r = started power f regime in
    record {
      bits = ap (table_items (width r) r.k 0) v.table.held ∙ no_items (width r) r.k 0 (2 ^ power);
      mothers = unfold started front tables mothers in refl;
      queue = unfold started in refl;
    }

pub starts : (s : Words) → Started s → GoodWords s × Fresh (seen s)
starts s b =
    let d = start-done b.power b.f b.regime b.main b.queue b.annex b.accepted in
    subst (λ (x : Words). GoodWords x × Fresh (seen x)) (sym b.leaves) (
      start-good b.power b.f b.regime b.main b.queue b.annex b.accepted,
      subst (λ (o : Outcome). Fresh (seen (left o))) (sym d.out)
          (fresh-state b.power b.f b.regime b.queue b.annex (started-fine b.power b.f b.regime b.main b.queue b.annex d.settings)),
    )

-- ---- each call

unchanged : (s : State) → Kept s s
unfolding Same
unchanged s = record { size = refl; bits = λ f. refl; mothers = λ f. refl; queue = λ f. refl }

pub steps : (c : Call) (s t : Words) → GoodWords s → Accepted c s t → GoodWords t × Step c (seen s) (seen t)
unfolding Accepted Step
steps (Query h) s t g a = subst (λ (x : Words). GoodWords x × Kept (seen s) (seen x)) (sym a.1) (g, unchanged (seen s))
steps (Insert h) s t g a =
    subst (λ (x : Words). GoodWords x × Inserted h (seen s) (seen x)) (sym a.1)
    (insert-good s.rec s.main s.queue s.annex h g a.0, insert-step s.rec s.main s.queue s.annex h g a.0)
steps (Delete h) s t g a =
    subst (λ (x : Words). GoodWords x × (Removed h (seen s) (seen x) ⊎ Queued h (seen s) (seen x))) (sym a.1)
    (delete-good s.rec s.main s.queue s.annex h g a.0, delete-step s.rec s.main s.queue s.annex h g a.0)
steps (Rejuvenate h) s t g a =
    subst (λ (x : Words). GoodWords x × (Kept (seen s) (seen x) ⊎ ((m : State) × (Removed h (seen s) m ⊎ Queued h (seen s) m) × Inserted h m (seen x)))) (sym a.1)
    (rejuvenate-good s.rec s.main s.queue s.annex h g a.0, rejuvenate-step s.rec s.main s.queue s.annex h g a.0)
steps Audit s t g a = subst (λ (x : Words). GoodWords x × Kept (seen s) (seen x)) (sym a.1) (g, unchanged (seen s))
steps Settle s t g a =
    subst (λ (x : Words). GoodWords x × Settled (seen s) (seen x)) (sym a.1)
    (settle-good s.rec s.main s.queue s.annex a.0, settle_step s.rec s.main s.queue s.annex g a.0)
steps Double s t g a =
    subst (λ (x : Words). GoodWords x × Doubled (seen s) (seen x)) (sym a.leaves) (
      double-good s.rec s.main s.queue s.annex a.second a.accepted,
      double-step s.rec s.main s.queue s.annex a.second a.accepted,
    )

-- ---- other words are lent

-- lists that agree on n + m words agree on the first n, and on the m behind them
first-same : (n m : ℕ) (A B : List ℕ) → take (n + m) A ≡ take (n + m) B → take n A ≡ take n B
first-same n m A B e = sym (take-take n (n + m) A (omega arith)) ∙ ap (take n) e ∙ take-take n (n + m) B (omega arith)

rest-same : (n m : ℕ) (A B : List ℕ) → take (n + m) A ≡ take (n + m) B → take m (drop n A) ≡ take m (drop n B)
rest-same n m A B e =
    sym (drop_at (take n A) (take m (drop n A)) (length (take n A)) refl)
    ∙ ap₂ drop (ap length (first-same n m A B e)) (sym (take-add n m A) ∙ e ∙ take-add n m B)
    ∙ drop_at (take n B) (take m (drop n B)) (length (take n B)) refl

as_long : (n : ℕ) (A B : List ℕ) → take n A ≡ take n B → n ≤ length B → n ≤ length A
as_long n A B e h = omega (arith, length-take n A, ap length e, length-take-le n B h)

-- what is read of the annex lies in its words in use
pub tables-same : (ps : List Place) (A B : List ℕ) → take (words_taken ps) A ≡ take (words_taken ps) B → tables ps A ≡ tables ps B
unfolding words_taken sum tables
tables-same [] A B e = refl
tables-same (p ∷ ps) A B e =
    ap₂ (λ (x : List ℕ) (l : List Table). record { b = p.b; s = p.s; runs = decode x } ∷ l) (first-same (2 ^ p.s) (words_taken ps) A B e)
    (tables-same ps (drop (2 ^ p.s) A) (drop (2 ^ p.s) B) (rest-same (2 ^ p.s) (words_taken ps) A B e))

annex-same : (ps : List Place) (A B : List ℕ) → take (words_taken ps) A ≡ take (words_taken ps) B → annex_right ps A ≡ annex_right ps B
unfolding words_taken sum annex_right
annex-same [] A B e = refl
annex-same (p ∷ ps) A B e =
    ap₂ (λ (x : List ℕ) (b : Bool). table_right (annex_entry (p.b - p.s)) p.count x && b) (first-same (2 ^ p.s) (words_taken ps) A B e)
    (annex-same ps (drop (2 ^ p.s) A) (drop (2 ^ p.s) B) (rest-same (2 ^ p.s) (words_taken ps) A B e))

module _ (r : Filter) (main queue annex queue' annex' : List ℕ) (eq : take r.queued queue' ≡ take r.queued queue)
    (ea : take (annex_used r) annex' ≡ take (annex_used r) annex) where
  same_tables : tables (in_use r) annex' ≡ tables (in_use r) annex
  same_tables = tables-same (in_use r) annex' annex ea

  lent-fine : Fine r main queue annex (decode main) → Fine r main queue' annex' (decode main)
  lent-fine v =
      record {
        settings = v.settings;
        low_k = v.low_k;
        high_k = v.high_k;
        used_fits = v.used_fits;
        queue_fits = v.queue_fits;
        queue_long = as_long r.queued queue' queue eq v.queue_long;
        places = v.places;
        zeros = v.zeros;
        annex_long = as_long (annex_used r) annex' annex ea v.annex_long;
        annex-right = subst T (sym (annex-same (in_use r) annex' annex ea)) v.annex-right;
        table = v.table;
        queue-right = subst (All (λ w. w / 2 < 2 ^ r.k)) (sym eq) v.queue-right;
        address = λ c h.
            subst (λ (ts : List Table). Address (width r) ts (take r.queued queue') c (get_or (decode main) c [])) (sym same_tables)
            (subst (λ (ws : List ℕ). Address (width r) (tables (in_use r) annex) ws c (get_or (decode main) c [])) (sym eq) (v.address c h));
      }

  pub lent-good : Good r main queue annex → Good r main queue' annex'
  lent-good g = good r main queue' annex' (decode main) (lent-fine (fine r main queue annex g))

  pub lent_seen : seen_of r main queue' annex' ≡ seen_of r main queue annex
  lent_seen =
      ap₂ (λ (ts : List Table) (ws : List ℕ). view (width r) r.k (decode main) (mothers ts) (map (λ w. w / 2) ws)) same_tables eq

pub lends : (s t : Words) → Lends s t → GoodWords s → GoodWords t × (seen t ≡ seen s)
lends s t l g =
    subst (λ (r : Filter). Good r t.main t.queue t.annex × (seen_of r t.main t.queue t.annex ≡ seen s)) (sym l.same_record)
    (subst (λ (m : List ℕ). Good s.rec m t.queue t.annex × (seen_of s.rec m t.queue t.annex ≡ seen s)) (sym l.same_main) (
      lent-good s.rec s.main s.queue s.annex t.queue t.annex l.same_queue l.same_annex g,
      lent_seen s.rec s.main s.queue s.annex t.queue t.annex l.same_queue l.same_annex,
    ))
