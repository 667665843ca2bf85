-- A refused call changes nothing: what is done has number 0, so a number that is not 0 is the refusal's. And on a good state Audit and Settle are never refused.
use mathlib.Core.Path.{◌≡◌, refl, ap}
use mathlib.Core.List.{List}
use Prim.Native.Nat.{ℕ, zero, suc, ◌<◌}
use native.Mathlib.Omega.{arith}
use native.Mathlib.Decide.{dec_lt, ℕ_discrete}
use lib.ListN.{length}
use Rattle.slots.specs.Payload.{void, length_of}
use Rattle.rules.specs.Record.{Filter, width, fresh}
use Rattle.rules.specs.Calls.{Outcome, give, refused}
use Rattle.rules.specs.Quick.{best, insert_number, inserted, insert, take_number, deleted, delete, rejuvenated, rejuvenate}
use Rattle.rules.specs.Slow.{audit, held_after, settled, settle, double_number, doubled_runs, second_main, doubled_outcome, double}
use Rattle.layout.specs.Machine.{layout}
use Rattle.keeps.proofs.Refusals.{given-refused, Unchanged, unchanged}
use Rattle.keeps.proofs.State.{Good}
use Rattle.keeps.proofs.Audits.{good-audit}
use Rattle.keeps.proofs.Done.{deleted-void, deleted-bits, renewed-kept, renewed}

module _ (r : Filter) (main queue annex : List ℕ) where
  pub insert-refused : (h : ℕ) → ((insert r main queue annex h).number ≡ 0 → ⊥) → Unchanged r main queue annex (insert r main queue annex h)
  unfolding insert inserted
  insert-refused h ne =
      let n = insert_number r main queue annex in
      unchanged r main queue annex _ n (given-refused n (inserted r main queue annex h) (refused r main queue annex n) refl ne)

  deleted-zero : (h : ℕ) → (deleted r main queue annex h).number ≡ 0
  deleted-zero h = go (ℕ_discrete (best r main h) (void (width r)))
    where
      go : Dec (best r main h ≡ void (width r)) → (deleted r main queue annex h).number ≡ 0
      go (yes q) = ap (λ (o : Outcome). o.number) (deleted-void r main queue annex h q)
      go (no q) = ap (λ (o : Outcome). o.number) (deleted-bits r main queue annex h q)

  rejuvenated-zero : (h : ℕ) → (rejuvenated r main queue annex h).number ≡ 0
  unfolding refused
  rejuvenated-zero h = go (dec_lt (length_of (width r) (best r main h)) (fresh r))
    where
      go : Dec (length_of (width r) (best r main h) < fresh r) → (rejuvenated r main queue annex h).number ≡ 0
      go (yes l) = ap (λ (o : Outcome). o.number) (renewed r main queue annex h l)
      go (no l) = ap (λ (o : Outcome). o.number) (renewed-kept r main queue annex h (omega arith))

  pub delete-refused : (h : ℕ) → ((delete r main queue annex h).number ≡ 0 → ⊥) → Unchanged r main queue annex (delete r main queue annex h)
  unfolding delete
  delete-refused h ne =
      let n = take_number r main queue annex h in
      unchanged r main queue annex _ n (given-refused n (deleted r main queue annex h) (refused r main queue annex n) (deleted-zero h) ne)

  pub rejuvenate-refused : (h : ℕ) → ((rejuvenate r main queue annex h).number ≡ 0 → ⊥) → Unchanged r main queue annex (rejuvenate r main queue annex h)
  unfolding rejuvenate
  rejuvenate-refused h ne =
      let n = take_number r main queue annex h in
      unchanged r main queue annex _ n (given-refused n (rejuvenated r main queue annex h) (refused r main queue annex n) (rejuvenated-zero h) ne)

  pub settle-refused : ((settle r main queue annex).number ≡ 0 → ⊥) → Unchanged r main queue annex (settle r main queue annex)
  unfolding settle settled
  settle-refused ne =
      let n = audit r main queue annex in
      unchanged r main queue annex _ n (given-refused n (settled r main queue annex (held_after r main queue annex)) (refused r main queue annex n) refl ne)

  pub double-refused : (second : ℕ) → ((double r main queue annex second).number ≡ 0 → ⊥) → Unchanged r main queue annex (double r main queue annex second)
  unfolding double doubled_outcome
  double-refused second ne =
      let n = double_number r main queue annex second in
      unchanged r main queue annex _ n (given-refused n (doubled_outcome r main queue annex) (refused r main queue annex n) refl ne)

  -- .. and the second main keeps its words
  pub second-refused : (second : List ℕ) → ((double r main queue annex (length second)).number ≡ 0 → ⊥) → second_main r main queue annex second ≡ second
  unfolding double doubled_outcome second_main
  second-refused second ne = go (double_number r main queue annex (length second)) ne
    where
      go : (n : ℕ) → ((give n (doubled_outcome r main queue annex) (refused r main queue annex n)).number ≡ 0 → ⊥)
          → ◌≡◌ {A = List ℕ} (elim n [ zero ↦ layout (doubled_runs r main queue annex) | suc n ↦ second ]) second
      go zero ne = absurd (ne (unfold give in refl))
      go (suc n) ne = refl

  pub good-settles : Good r main queue annex → (settle r main queue annex).number ≡ 0
  unfolding settle settled
  good-settles g = go (audit r main queue annex) (good-audit r main queue annex g)
    where
      go : (n : ℕ) → n ≡ 0 → (give n (settled r main queue annex (held_after r main queue annex)) (refused r main queue annex n)).number ≡ 0
      go zero e = unfold give in refl
      go (suc n) e = absurd (omega arith)
