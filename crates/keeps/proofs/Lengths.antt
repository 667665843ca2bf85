-- A call changes no length: the lent words keep theirs, and the directory has fifteen places. A refused call changes nothing, and an accepted one had a good
-- state where that is needed.
use mathlib.Core.Path.{◌≡◌, refl, sym, ap, ◌∙◌, subst}
use mathlib.Core.Bool.{Bool, true, false, ◌||◌}
use mathlib.Core.List.{List, [], ◌∷◌, ◌++◌, map}
use Prim.Native.Nat.{ℕ, zero, suc, ◌+◌, ◌*◌, ◌/◌, ◌%◌, ◌^◌, ◌≤◌, ◌<◌}
use native.Mathlib.Omega.{arith}
use native.Mathlib.Decide.{dec_lt, ℕ_discrete}
use lib.Dec.{leb, eqb, T, leb→le, eqb→eq}
use lib.ListN.{length, set, take, drop, replicate, length-append, length-set, length-drop, length-replicate}
use lib.Seq.{length-take-le}
use Rattle.lists.specs.Lists.{sum}
use Rattle.lists.specs.Runs.{erase, at}
use Rattle.slots.specs.Payload.{void, length_of}
use Rattle.layout.specs.Machine.{layout}
use Rattle.layout.specs.Decode.{decode}
use Rattle.layout.proofs.Puts.{layout-length}
use Rattle.directory.specs.Places.{words_taken}
use Rattle.rules.specs.Record.{Filter, all_zero, change, width, fresh, annex_used}
use Rattle.rules.specs.Tables.{Table, hash_entry, table_words, place_of}
use Rattle.rules.specs.Settling.{Held, longest, take_hash, settle_found, settle_word, settle_all}
use Rattle.rules.specs.Doubling.{size_for, table_of}
use Rattle.rules.specs.Calls.{Outcome, give, refused, start_number, started, start}
use Rattle.rules.specs.Quick.{home, insert_number, inserted, insert, take_number, deleted, delete, rejuvenated, rejuvenate, best_is_void, best}
use Rattle.rules.specs.Slow.{audit, held_after, settled, settle, hashes, room_for, double_number, doubled_runs, second_main, more_annex, doubled_outcome, double}
use Rattle.keeps.proofs.Refusals.{refusal-zero}
use Rattle.keeps.proofs.Holds.{length-decode, length-words}
use Rattle.keeps.proofs.State.{Good, fine}
use Rattle.keeps.proofs.Audits.{audit-good}
use Rattle.keeps.proofs.Done.{deleted-void, deleted-bits, renewed-kept, renewed, renewing}
use Rattle.keeps.proofs.Annex.{written}
use Rattle.keeps.proofs.Parts.{tables-of}
use Rattle.keeps.proofs.Settle.{first, last, all_done, settled-fine, settled-places}
use Rattle.keeps.proofs.Doubled.{DoubleHad, number-had, length-second, doubled-places}

pub record Lengths (main queue annex : List ℕ) (o : Outcome) : Type 0 where
  pub main_kept : length o.main ≡ length main
  pub queue_kept : length o.queue ≡ length queue
  pub annex_kept : length o.annex ≡ length annex

pub refused-lengths : (r : Filter) (main queue annex : List ℕ) (n : ℕ) → Lengths main queue annex (refused r main queue annex n)
unfolding refused
refused-lengths r main queue annex n = record { main_kept = refl; queue_kept = refl; annex_kept = refl }

-- what holds if the number is 0, and of the refusal otherwise
pub given-either : (P : Outcome → Type 0) (n : ℕ) (done other : Outcome) → (n ≡ 0 → P done) → P other → P (give n done other)
unfolding give
given-either P zero done other f g = f refl
given-either P (suc n) done other f g = g

-- ---- the quick calls, on any memory

run_length : (main : List ℕ) (c : ℕ) (run : List ℕ) → length (layout (set (decode main) c run)) ≡ length main
run_length main c run = layout-length (set (decode main) c run) ∙ length-set (decode main) c run ∙ length-decode main

module _ (r : Filter) (main queue annex : List ℕ) (h : ℕ) where
  pub insert-lengths : Lengths main queue annex (insert r main queue annex h)
  unfolding insert
  insert-lengths =
      given-either (Lengths main queue annex) (insert_number r main queue annex) (inserted r main queue annex h) (refused r main queue annex (insert_number r main queue annex))
      (λ _. unfold inserted in record { main_kept = run_length main (home r h) _; queue_kept = refl; annex_kept = refl })
      (refused-lengths r main queue annex (insert_number r main queue annex))

  deleted-lengths : Lengths main queue annex (deleted r main queue annex h)
  deleted-lengths = go (ℕ_discrete (best r main h) (void (width r)))
    where
      go : Dec (best r main h ≡ void (width r)) → Lengths main queue annex (deleted r main queue annex h)
      go (yes q) =
          subst (Lengths main queue annex) (sym (deleted-void r main queue annex h q))
          (record { main_kept = run_length main (home r h) _; queue_kept = length-set queue r.queued (home r h * 2); annex_kept = refl })
      go (no q) =
          subst (Lengths main queue annex) (sym (deleted-bits r main queue annex h q)) (record { main_kept = run_length main (home r h) _; queue_kept = refl; annex_kept = refl })

  pub delete-lengths : Lengths main queue annex (delete r main queue annex h)
  unfolding delete
  delete-lengths =
      given-either (Lengths main queue annex) (take_number r main queue annex h) (deleted r main queue annex h) (refused r main queue annex (take_number r main queue annex h))
      (λ _. deleted-lengths) (refused-lengths r main queue annex (take_number r main queue annex h))

  rejuvenated-lengths : Lengths main queue annex (rejuvenated r main queue annex h)
  rejuvenated-lengths = go (dec_lt (length_of (width r) (best r main h)) (fresh r))
    where
      voids : (b : Bool) → Lengths main queue annex (renewing r main queue annex h b)
      voids true = record { main_kept = run_length main (home r h) _; queue_kept = length-set queue r.queued (home r h * 2 + 1); annex_kept = refl }
      voids false = record { main_kept = run_length main (home r h) _; queue_kept = refl; annex_kept = refl }

      go : Dec (length_of (width r) (best r main h) < fresh r) → Lengths main queue annex (rejuvenated r main queue annex h)
      go (yes l) = subst (Lengths main queue annex) (sym (renewed r main queue annex h l)) (voids (best_is_void r main h))
      go (no l) = subst (Lengths main queue annex) (sym (renewed-kept r main queue annex h (omega arith))) (refused-lengths r main queue annex 0)

  pub rejuvenate-lengths : Lengths main queue annex (rejuvenate r main queue annex h)
  unfolding rejuvenate
  rejuvenate-lengths =
      given-either (Lengths main queue annex) (take_number r main queue annex h) (rejuvenated r main queue annex h) (refused r main queue annex (take_number r main queue annex h))
      (λ _. rejuvenated-lengths) (refused-lengths r main queue annex (take_number r main queue annex h))

-- ---- Start

pub start-lengths : (power f regime : ℕ) (main queue annex : List ℕ) → Lengths main queue annex (start power f regime main queue annex)
unfolding start
start-lengths power f regime main queue annex =
    let n = start_number power f regime (length main) in
    given-either (Lengths main queue annex) n (record { number = 0; rec = started power f regime; main = replicate (2 ^ power) 0; queue = queue; annex = annex }) (refused all_zero main queue annex n)
    (λ e. record { main_kept = length-replicate (2 ^ power) 0 ∙ sym (right e); queue_kept = refl; annex_kept = refl })
    (refused-lengths all_zero main queue annex n)
  where
    right : start_number power f regime (length main) ≡ 0 → length main ≡ 2 ^ power
    right e = unfold start_number in eqb→eq (length main) (2 ^ power) (refusal-zero _ 2 _ (refusal-zero _ 10 _ e).1).0

-- ---- Settle

taken-used : (b c : ℕ) (ts : List Table) → words_taken (map place_of (take_hash b c ts)) ≡ words_taken (map place_of ts)
unfolding take_hash place_of words_taken sum
taken-used b c [] = refl
taken-used b c (t ∷ ts) = go (eqb b t.b) (taken-used b c ts)
  where
    go : (x : Bool) → words_taken (map place_of (take_hash b c ts)) ≡ words_taken (map place_of ts)
        → words_taken (map place_of (elim x [
          | true ↦ record { b = t.b; s = t.s; runs = at (c % 2 ^ t.s) (erase (hash_entry b t.s (c % 2 ^ b))) t.runs } ∷ ts
          | false ↦ t ∷ take_hash b c ts
        ])) ≡ 2 ^ t.s + words_taken (map place_of ts)
    go true e = refl
    go false e = ap (λ n. 2 ^ t.s + n) e

settled-used : (w : ℕ) (ws : List ℕ) (x : Held) → words_taken (map place_of (settle_all w ws x).annex) ≡ words_taken (map place_of x.annex)
unfolding settle_all settle_word
settled-used w [] x = refl
settled-used w (q ∷ ws) x = settled-used w ws (settle_word w (q / 2) x) ∙ go (longest (q / 2) x.annex)
  where
    go : (n : ℕ) → words_taken (map place_of (settle_found w (q / 2) n x).annex) ≡ words_taken (map place_of x.annex)
    go zero = unfold settle_found in refl
    go (suc b) = unfold settle_found in taken-used (suc b) (q / 2) x.annex

module _ (r : Filter) (main queue annex : List ℕ) where
  settled-lengths : Good r main queue annex → Lengths main queue annex (settled r main queue annex (held_after r main queue annex))
  unfolding held_after settled change
  settled-lengths g =
      let v = fine r main queue annex g in
      let x = last r main queue annex g in
      let used : length (table_words x.annex) ≡ annex_used r =
      (written r.k 5 x.annex [] (all_done r main queue annex g).are).long ∙ settled-used (width r) (take r.queued queue) (first r main queue annex)
      ∙ ap words_taken (tables-of v).of in
      let many : length (table_words x.annex ++ drop (annex_used r) annex) ≡ length annex =
      length-append (table_words x.annex) (drop (annex_used r) annex) ∙ omega (arith, used, length-drop (annex_used r) annex, v.annex_long) in
      record { main_kept = length-words (settled-fine r main queue annex g).table ∙ sym (length-words v.table); queue_kept = refl; annex_kept = many }

  pub settle-lengths : Lengths main queue annex (settle r main queue annex)
  unfolding settle
  settle-lengths =
      given-either (Lengths main queue annex) (audit r main queue annex) (settled r main queue annex (held_after r main queue annex)) (refused r main queue annex (audit r main queue annex))
      (λ e. settled-lengths (audit-good r main queue annex e)) (refused-lengths r main queue annex (audit r main queue annex))

-- ---- Double

table-length : (b s : ℕ) (ms : List ℕ) → length (table_of b s ms) ≡ 2 ^ s
unfolding table_of
table-length b s [] = length-replicate (2 ^ s) []
table-length b s (m ∷ ms) = length-set (table_of b s ms) (m % 2 ^ s) _ ∙ table-length b s ms

or_right : (a b : Bool) → T (a || b) → (T a → ⊥) → T b
or_right true b t n = absurd (n tt)
or_right false b t n = t

module _ (r : Filter) (main queue annex : List ℕ) where
  -- number 10 does not hold: the new table fits
  pub room_fits : (m : ℕ) (l : List ℕ) → T (room_for r main queue annex (m ∷ l)) → annex_used r + 2 ^ size_for (length (m ∷ l)) ≤ length annex
  unfolding room_for
  room_fits m l t =
      leb→le _ _ (or_right (eqb (length (m ∷ l)) 0) (leb (annex_used r + 2 ^ size_for (length (m ∷ l))) (length annex)) t (λ e. absurd (omega (arith, eqb→eq (length (m ∷ l)) 0 e))))

  pub annex-length : (ms : List ℕ) → annex_used r ≤ length annex → T (room_for r main queue annex ms) → length (more_annex r main queue annex ms) ≡ length annex
  unfolding more_annex
  annex-length [] h room = refl
  annex-length (m ∷ ms) h room =
      let s = size_for (length (m ∷ ms)) in
      omega (
        arith,
        room_fits m ms room,
        length-append (take (annex_used r) annex ++ layout (table_of (r.k + 1) s (m ∷ ms))) (drop (annex_used r + 2 ^ s) annex),
        length-append (take (annex_used r) annex) (layout (table_of (r.k + 1) s (m ∷ ms))),
        length-take-le (annex_used r) annex h,
        layout-length (table_of (r.k + 1) s (m ∷ ms)),
        table-length (r.k + 1) s (m ∷ ms),
        length-drop (annex_used r + 2 ^ s) annex,
      )

  pub double-lengths : (second : List ℕ) → Lengths main queue annex (double r main queue annex (length second))
  unfolding double
  double-lengths second =
      let n = double_number r main queue annex (length second) in
      given-either (Lengths main queue annex) n (doubled_outcome r main queue annex) (refused r main queue annex n)
      (λ e. accepted (number-had r main queue annex second e)) (refused-lengths r main queue annex n)
    where
      accepted : DoubleHad r main queue annex second → Lengths main queue annex (doubled_outcome r main queue annex)
      accepted d =
          unfold doubled_outcome in
          record { main_kept = refl; queue_kept = refl; annex_kept = annex-length (hashes r main queue annex) (fine r main queue annex d.state).annex_long d.room }

  pub second-length : (second : List ℕ) → length (second_main r main queue annex second) ≡ length second
  unfolding second_main
  second-length second = go (double_number r main queue annex (length second)) (λ e. number-had r main queue annex second e)
    where
      go : (n : ℕ) → (n ≡ 0 → DoubleHad r main queue annex second) → length {A = ℕ} (elim n [ zero ↦ layout (doubled_runs r main queue annex) | suc n ↦ second ]) ≡ length second
      go (suc n) f = refl
      go zero f =
          let d = f refl in
          let l : length (layout (doubled_runs r main queue annex)) ≡ 2 ^ (r.k + 1) = length-second r main queue annex second d in
          l ∙ sym d.long

-- ---- the directory

module _ (r : Filter) (main queue annex : List ℕ) (h : length r.dir ≡ 15) where
  pub settle-places : length (settle r main queue annex).rec.dir ≡ 15
  unfolding settle refused
  settle-places =
      let n = audit r main queue annex in
      given-either (λ o. length o.rec.dir ≡ 15) n (settled r main queue annex (held_after r main queue annex)) (refused r main queue annex n)
      (λ e. settled-places r main queue annex (audit-good r main queue annex e)) h

  pub double-places : (second : List ℕ) → length (double r main queue annex (length second)).rec.dir ≡ 15
  unfolding double refused
  double-places second =
      let n = double_number r main queue annex (length second) in
      given-either (λ o. length o.rec.dir ≡ 15) n (doubled_outcome r main queue annex) (refused r main queue annex n)
      (λ e. doubled-places r main queue annex second (number-had r main queue annex second e) h) h
