-- What an accepted quick call leaves: its number 0 says that every test held, so the entry to take is the run's longest match, and a void has room in the queue.
use mathlib.Core.Path.{◌≡◌, refl, sym, ap, ◌∙◌, subst}
use mathlib.Core.Bool.{Bool, true, false, not, ◌&&◌, ◌||◌}
use mathlib.Core.List.{List, []}
use Prim.Native.Nat.{ℕ, ◌+◌, ◌-◌, ◌*◌, ◌^◌, ◌≤◌, ◌<◌}
use native.Mathlib.Omega.{arith}
use native.Mathlib.Nat.{add-zero}
use native.Mathlib.Decide.{dec_lt, ℕ_discrete}
use lib.Dec.{eqb, T, ltb→lt, T_not}
use lib.ListN.{length, get_or, set}
use borrow.Author.Tests.{eq-eqb, ne_eqb, lt-ltb, le-ltb}
use Rattle.lists.specs.Lists.{bit}
use Rattle.lists.specs.Runs.{add, erase}
use Rattle.lists.proofs.Tests.{eq_test}
use Rattle.slots.specs.Numbers.{limit}
use Rattle.slots.specs.Payload.{void, tombstone, length_of}
use Rattle.layout.specs.Machine.{layout}
use Rattle.layout.specs.Decode.{decode}
use Rattle.rules.specs.Record.{Filter, change, width, fresh}
use Rattle.rules.specs.Calls.{Outcome, refused}
use Rattle.rules.specs.Quick.{home, fresh_entry, matches_in, matched, best, best_is_void, queue_full, insert_number, inserted, insert, take_number, deleted, delete, rejuvenated, rejuvenate}
use Rattle.keeps.proofs.Refusals.{refusal-zero, asked-zero, given-done}
use Rattle.keeps.proofs.State.{Good, Fine, fine, good}
use Rattle.keeps.proofs.Quick.{GoodOutcome, insert-fine, Found, found, removed-fine, void-fine, renewed-bits, renewed-void}

test-less : (a b : ℕ) → a ≤ b → T (not (eqb a b)) → a < b
test-less a b l t = go (ℕ_discrete a b)
  where
    go : Dec (a ≡ b) → a < b
    go (yes e) = absurd (T_not (eqb a b) t (eq_test a b e))
    go (no e) = omega arith

-- not (x and (a or b)), x: neither a nor b
neither : (x a b : Bool) → T (not (x && (a || b))) → T x → T (not a) × T (not b)
neither true true b t u = absurd t
neither true false true t u = absurd t
neither true false false t u = (tt, tt)
neither false a b t u = absurd u

module _ (r : Filter) (main queue annex : List ℕ) (h : ℕ) where
  -- the run of h
  abbrev pub run_of : List ℕ
  run_of = get_or (decode main) (home r h) []

  -- an outcome in which it has changed: u entries and n queue words count
  abbrev pub run-changed : List ℕ → ℕ → ℕ → List ℕ → Outcome
  run-changed run u n queue' =
      record { number = 0; rec = change r r.k u n r.dir; main = layout (set (decode main) (home r h) run); queue = queue'; annex = annex }

  -- what Delete leaves
  pub data Deletes (o : Outcome) : Type 0 where
    bits : (p : ℕ) → Found r h p run_of → (p ≡ void (width r) → ⊥) → o ≡ run-changed (erase p run_of) (r.used - 1) r.queued queue → Deletes o
    void-one : (p : ℕ) → Found r h p run_of → p ≡ void (width r) → r.queued < 2 ^ 20 → r.queued < length queue
        → o ≡ run-changed (add (tombstone (width r)) (erase p run_of)) r.used (r.queued + 1) (set queue r.queued (home r h * 2)) → Deletes o

  -- what Rejuvenate leaves
  pub data Renews (o : Outcome) : Type 0 where
    kept : (p : ℕ) → Found r h p run_of → fresh r ≤ length_of (width r) p → o ≡ refused r main queue annex 0 → Renews o
    bits : (p : ℕ) → Found r h p run_of → (p ≡ void (width r) → ⊥) → o ≡ run-changed (add (fresh_entry r h) (erase p run_of)) r.used r.queued queue → Renews o
    void-one : (p : ℕ) → Found r h p run_of → p ≡ void (width r) → r.queued < 2 ^ 20 → r.queued < length queue
        → o ≡ run-changed (add (fresh_entry r h) (erase p run_of)) r.used (r.queued + 1) (set queue r.queued (home r h * 2 + 1)) → Renews o

  -- the cases of the definitions
  pub deleted-void : best r main h ≡ void (width r)
      → deleted r main queue annex h ≡ run-changed (add (tombstone (width r)) (erase (best r main h) run_of)) r.used (r.queued + 1) (set queue r.queued (home r h * 2))
  unfolding deleted
  deleted-void q =
      rw (eq-eqb (best r main h) (void (width r)) q, deleted)
      (ap (λ (x : ℕ). run-changed (add (tombstone (width r)) (erase x run_of)) r.used (r.queued + 1) (set queue r.queued (home r h * 2))) (sym q))

  pub deleted-bits : (best r main h ≡ void (width r) → ⊥) → deleted r main queue annex h ≡ run-changed (erase (best r main h) run_of) (r.used - 1) r.queued queue
  unfolding deleted
  deleted-bits q = rw (ne_eqb (best r main h) (void (width r)) q, deleted)

  pub renewed-kept : fresh r ≤ length_of (width r) (best r main h) → rejuvenated r main queue annex h ≡ refused r main queue annex 0
  unfolding rejuvenated
  renewed-kept l = rw (le-ltb (length_of (width r) (best r main h)) (fresh r) l, rejuvenated)

  abbrev pub renewing : Bool → Outcome
  renewing b =
      run-changed (add (fresh_entry r h) (erase (best r main h) run_of)) r.used (r.queued + bit b) (elim b [ true ↦ set queue r.queued (home r h * 2 + 1) | false ↦ queue ])

  pub renewed : length_of (width r) (best r main h) < fresh r → rejuvenated r main queue annex h ≡ renewing (best_is_void r main h)
  unfolding rejuvenated
  renewed l = rw (lt-ltb (length_of (width r) (best r main h)) (fresh r) l, rejuvenated)

  module _ (g : Good r main queue annex) where
    v : Fine r main queue annex (decode main)
    v = fine r main queue annex g

    -- ---- INSERT

    pub insert-done : (insert r main queue annex h).number ≡ 0
        → (insert r main queue annex h ≡ inserted r main queue annex h)
        × Fine (inserted r main queue annex h).rec (inserted r main queue annex h).main queue annex (set (decode main) (home r h) (add (fresh_entry r h) run_of))
    unfolding insert refused insert_number
    insert-done z =
        let n = insert_number r main queue annex in
        let d = given-done n (inserted r main queue annex h) (refused r main queue annex n) refl z in
        let a = asked-zero r main queue annex _ d.0 in
        let b = refusal-zero (not (eqb r.used (limit r.k))) 4 [] a.2 in
        (d.1, insert-fine r main queue annex h (decode main) v (test-less r.used (limit r.k) v.used_fits b.0))

    pub insert-good : (insert r main queue annex h).number ≡ 0 → GoodOutcome (insert r main queue annex h)
    unfolding inserted
    insert-good z = let d = insert-done z in subst GoodOutcome (sym d.0) (good _ _ _ _ _ d.1)

    -- ---- DELETE and REJUVENATE: the longest match, and room in the queue if it is void

    pub record Taking (p : ℕ) : Type 0 where
      pub its : Found r h p run_of
      pub room : p ≡ void (width r) → (r.queued < 2 ^ 20) × (r.queued < length queue)

    pub taking : take_number r main queue annex h ≡ 0 → Taking (best r main h)
    unfolding take_number
    taking z =
        let a = asked-zero r main queue annex _ z in
        let b = refusal-zero (matched r main h) 5 _ a.2 in
        let c = refusal-zero (not (best_is_void r main h && queue_full r queue)) 6 [] b.1 in
        record {
          its = found r main queue annex h (decode main) v (ltb→lt 0 (length (matches_in r main h)) b.0);
          room = λ e.
              let n = neither (best_is_void r main h) (eqb r.queued (2 ^ 20)) (eqb r.queued (length queue)) c.0 (eq_test _ _ e) in
              (test-less r.queued (2 ^ 20) v.queue_fits n.0, test-less r.queued (length queue) v.queue_long n.1);
        }

    pub delete-done : (delete r main queue annex h).number ≡ 0 → Deletes (delete r main queue annex h)
    unfolding delete refused
    delete-done z =
        let n = take_number r main queue annex h in
        let d = given-done n (deleted r main queue annex h) (refused r main queue annex n) refl z in
        go (taking d.0) d.1 (ℕ_discrete (best r main h) (void (width r)))
      where
        go : Taking (best r main h) → delete r main queue annex h ≡ deleted r main queue annex h → Dec (best r main h ≡ void (width r)) → Deletes (delete r main queue annex h)
        go t e (yes q) = void-one (best r main h) t.its q (t.room q).0 (t.room q).1 (e ∙ deleted-void q)
        go t e (no q) = bits (best r main h) t.its q (e ∙ deleted-bits q)

    pub deletes-good : (o : Outcome) → Deletes o → GoodOutcome o
    deletes-good o (bits p f ne e) = subst GoodOutcome (sym e) (good _ _ _ _ _ (removed-fine r main queue annex h (decode main) v p f ne))
    deletes-good o (void-one p f q n1 n2 e) = subst GoodOutcome (sym e) (good _ _ _ _ _ (void-fine r main queue annex h (decode main) v p f q n1 n2))

    pub delete-good : (delete r main queue annex h).number ≡ 0 → GoodOutcome (delete r main queue annex h)
    delete-good z = deletes-good (delete r main queue annex h) (delete-done z)

    pub rejuvenate-done : (rejuvenate r main queue annex h).number ≡ 0 → Renews (rejuvenate r main queue annex h)
    unfolding rejuvenate refused
    rejuvenate-done z =
        let n = take_number r main queue annex h in
        let d = given-done n (rejuvenated r main queue annex h) (refused r main queue annex n) refl z in
        go (taking d.0) d.1 (dec_lt (length_of (width r) (best r main h)) (fresh r)) (ℕ_discrete (best r main h) (void (width r)))
      where
        go : Taking (best r main h) → rejuvenate r main queue annex h ≡ rejuvenated r main queue annex h → Dec (length_of (width r) (best r main h) < fresh r)
            → Dec (best r main h ≡ void (width r)) → Renews (rejuvenate r main queue annex h)
        go t e (no l) q = kept (best r main h) t.its (omega arith) (e ∙ renewed-kept (omega arith))
        go t e (yes l) (yes q) =
            void-one (best r main h) t.its q (t.room q).0 (t.room q).1 (e ∙ renewed l ∙ ap renewing (eq-eqb (best r main h) (void (width r)) q))
        go t e (yes l) (no q) =
            bits (best r main h) t.its q
            (e ∙ renewed l ∙ ap renewing (ne_eqb (best r main h) (void (width r)) q)
            ∙ ap (λ (n : ℕ). run-changed (add (fresh_entry r h) (erase (best r main h) run_of)) r.used n queue) (add-zero r.queued))

    pub renews-good : (o : Outcome) → Renews o → GoodOutcome o
    unfolding refused
    renews-good o (kept p f l e) = subst GoodOutcome (sym e) g
    renews-good o (bits p f ne e) = subst GoodOutcome (sym e) (good _ _ _ _ _ (renewed-bits r main queue annex h (decode main) v p f ne))
    renews-good o (void-one p f q n1 n2 e) = subst GoodOutcome (sym e) (good _ _ _ _ _ (renewed-void r main queue annex h (decode main) v p f q n1 n2))

    pub rejuvenate-good : (rejuvenate r main queue annex h).number ≡ 0 → GoodOutcome (rejuvenate r main queue annex h)
    rejuvenate-good z = renews-good (rejuvenate r main queue annex h) (rejuvenate-done z)
