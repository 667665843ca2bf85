-- What the words stand for, as strings, and what the quick calls do to it: each changes one run, so one entry with bits comes or goes, or a void goes and the queue
-- gains its address.
use mathlib.Core.Path.{◌≡◌, refl, sym, ap, ◌∙◌, subst}
use mathlib.Core.Bool.{true}
use mathlib.Core.Logic.{◌⊎◌, inl, inr}
use mathlib.Core.List.{List, [], ◌∷◌, ◌++◌, map}
use Prim.Native.Nat.{ℕ, ◌+◌, ◌-◌, ◌*◌, ◌/◌, ◌^◌, ◌≤◌, ◌<◌}
use native.Mathlib.Omega.{arith}
use native.Mathlib.Numerals.{add-one}
use lib.Dec.{T}
use lib.ListN.{length, get_or, set, take, length-set}
use lib.Seq.{get_or-set_same, set-set, take-suc-set}
use borrow.Author.Tests.{lt-ltb, ltb-true}
use Rattle.lists.specs.Lists.{sum}
use Rattle.lists.specs.Runs.{Runs, add, erase}
use Rattle.lists.proofs.Alls.{All, all_map}
use Rattle.lists.proofs.Sums.{Same}
use Rattle.lists.proofs.RunLaws.{add_same, erase_same}
use Rattle.slots.specs.Payload.{void, tombstone, rest_of, length_of, canonical_slot, matches}
use Rattle.slots.proofs.PayloadLaws.{rest_le, rising-rest, void-rest, tombstone-rest, true-match, fresh-match}
use Rattle.layout.specs.Machine.{layout}
use Rattle.layout.specs.Decode.{decode}
use Rattle.rules.specs.Record.{Filter, change, fresh_at, width_at, fresh, width, in_use}
use Rattle.rules.specs.Tables.{tables}
use Rattle.rules.specs.Sound.{main_entry}
use Rattle.rules.specs.Calls.{Outcome, refused}
use Rattle.rules.specs.Quick.{home, fresh_entry, inserted, insert, delete, rejuvenate}
use Rattle.keeps.proofs.State.{Good, Fine, fine}
use Rattle.keeps.proofs.Bounds.{sizes, width-fresh, width-pos, width_26}
use Rattle.keeps.proofs.Entries.{passes-lt}
use Rattle.keeps.proofs.Quick.{home-lt, is-fresh, Found, bits_of, removed-fine, void-fine, renewed-bits, renewed-void}
use Rattle.keeps.proofs.Done.{Deletes, Renews, insert-done, delete-done, rejuvenate-done}
use Rattle.keeps.proofs.Parts.{tables-of}
use Rattle.history.specs.History.{Words, left}
use Rattle.history.proofs.Strings.{Item}
use Rattle.history.proofs.Abstract.{State, Shape, Inserted, Removed, Queued, Kept}
use Rattle.history.proofs.Bridge.{length_rest, view, has_bits, weight, weightless, Hit, all-table, all-run, all_true, inserted as one_more, removed as one_less, queued as one-off}
use Rattle.history.proofs.Hashes.{mothers, mothers-short}

abbrev pub seen_of : Filter → List ℕ → List ℕ → List ℕ → State
seen_of r main queue annex = view (width r) r.k (decode main) (mothers (tables (in_use r) annex)) (map (λ w. w / 2) (take r.queued queue))

abbrev pub seen : Words → State
seen s = seen_of s.rec s.main s.queue s.annex

abbrev pub GoodWords : Words → Type 0
GoodWords s = Good s.rec s.main s.queue s.annex

-- ---- the shape

-- no entry is too long for a hash
pub short-64 : {r : Filter} {main queue annex : List ℕ} {runs : Runs} → Fine r main queue annex runs → (p : ℕ) → r.k + length_of (width r) p ≤ 64
short-64 {r} v p =
    omega (arith, v.high_k, width_26 r r.k (sizes r.start r.f r.regime v.settings) v.high_k, rest_le (width r) p, length_rest (width r) p)

pub shape : (s : Words) → GoodWords s → Shape (seen s)
shape s g =
    let r = s.rec in
    let w = width r in
    let v = fine r s.main s.queue s.annex g in
    let P : Item → Type 0 = λ i. (r.k < i.len) × (i.len ≤ 64) in
    record {
      wide = omega (arith, v.high_k);
      long = all-table P w r.k (decode s.main)
          (λ j lt. all-run P (λ _. Unit {0}) w r.k j (λ p _ hb. (omega (arith, ltb-true 1 (rest_of w p) hb, length_rest w p), short-64 v p)) (get_or (decode s.main) j [])
          (all_true (get_or (decode s.main) j [])));
      short = mothers-short r.k 5 (tables (in_use r) s.annex) (tables-of v).are;
    }

-- ---- the queue

queue-more : (queue : List ℕ) (n x c : ℕ) → n < length queue → x / 2 ≡ c → map (λ w. w / 2) (take (n + 1) (set queue n x)) ≡ map (λ w. w / 2) (take n queue) ++ c ∷ []
queue-more queue n x c h e =
    ap (map (λ w. w / 2)) (ap (λ m. take m (set queue n x)) (add-one n) ∙ take-suc-set queue n x h) ∙ snoc (take n queue)
  where
    snoc : (l : List ℕ) → map (λ w. w / 2) (l ++ x ∷ []) ≡ map (λ w. w / 2) l ++ c ∷ []
    snoc [] = ap (λ y. y ∷ []) e
    snoc (y ∷ l) = ap (λ z. (y / 2) ∷ z) (snoc l)

-- ---- one run changes

module _ (r : Filter) (main queue annex : List ℕ) (h : ℕ) (g : Good r main queue annex) where
  abbrev w : ℕ
  w = width r

  abbrev c : ℕ
  c = home r h

  abbrev runs : Runs
  runs = decode main

  abbrev run : List ℕ
  run = get_or runs c []

  -- the state with these runs and this queue
  abbrev state : Runs → List ℕ → State
  state rs Q = view w r.k rs (mothers (tables (in_use r) annex)) Q

  abbrev Q : List ℕ
  Q = map (λ w. w / 2) (take r.queued queue)

  v : Fine r main queue annex runs
  v = fine r main queue annex g

  hl : c < length runs
  hl = omega (arith, v.table.size, home-lt r h)

  has : (p : ℕ) → 1 < rest_of w p → has_bits w p ≡ true
  has p l = lt-ltb 1 (rest_of w p) l

  -- a changed record and table are seen so
  changed : (rs : Runs) (u n : ℕ) (queue' : List ℕ) → Fine (change r r.k u n r.dir) (layout rs) queue' annex rs
      → seen_of (change r r.k u n r.dir) (layout rs) queue' annex ≡ state rs (map (λ w. w / 2) (take n queue'))
  unfolding change fresh_at width_at
  changed rs u n queue' f = ap (λ (x : Runs). state x (map (λ w. w / 2) (take n queue'))) f.table.held

  -- a fresh entry comes into a table of this size
  put_in : (rs : Runs) (Q' : List ℕ) → length rs ≡ 2 ^ r.k → Inserted h (state rs Q') (state (set rs c (add (fresh_entry r h) (get_or rs c []))) Q')
  unfolding canonical_slot
  put_in rs Q' len =
      let p : ℕ = fresh_entry r h in
      one_more w r.k h rs len (add p (get_or rs c [])) (mothers (tables (in_use r) annex)) Q' p
      (record { some = has p (is-fresh r main queue annex runs v h).bits; same = (fresh-match w (fresh r) r.k h (width-fresh r r.k)).same }) (short-64 v p)
      (add_same p (get_or rs c []))

  module _ (p : ℕ) (f : Found r h p run) where
    -- what matches is no longer than the first match
    abbrev NoLonger : ℕ → Type 0
    NoLonger q = Hit w r.k h q → rest_of w q ≤ rest_of w p

    no_longer : All (λ q. Hit w r.k h q → rest_of w q ≤ rest_of w p) run
    no_longer = go run f.chosen.first f.passed
      where
        go : (l : List ℕ) → All (λ q. matches w r.k h q ≡ true → p ≤ q) l → All (λ q. T (main_entry w r.k q)) l → All NoLonger l
        go [] a b = tt
        go (q ∷ l) a b = (
          λ x.
              rising-rest w p q f.small (passes-lt w r.k q b.0)
              (a.0 (true-match w r.k h q (record { some = omega (arith, ltb-true 1 (rest_of w q) x.some); same = x.same }))),
          go l a.1 b.1,
        )

    take_out : (p ≡ void w → ⊥) → Removed h (state runs Q) (state (set runs c (erase p run)) Q)
    unfolding canonical_slot
    take_out ne =
        let b : 1 < rest_of w p = bits_of r h p run f ne in
        one_less w r.k h runs v.table.size (erase p run) (mothers (tables (in_use r) annex)) Q p (record { some = has p b; same = f.match.same }) (short-64 v p)
        (omega (arith, length_rest w p)) (erase_same p run f.chosen.inside)
        (all_map NoLonger (λ q. Hit w r.k h q → r.k + length_of w q ≤ r.k + length_of w p)
        (λ q l x. omega (arith, l x, length_rest w q, length_rest w p)) run no_longer)

    -- a void goes, or becomes what has no bits
    put-off : (run' : List ℕ) → p ≡ void w → ((g : ℕ → ℕ) → g (void w) ≡ 0 → g (tombstone w) ≡ 0 → sum g run' ≡ sum g run)
        → Queued h (state runs Q) (state (set runs c run') (Q ++ c ∷ []))
    unfolding canonical_slot
    put-off run' e s =
        let one : rest_of w (void w) ≡ 1 = void-rest w (width-pos r r.k) in
        one-off w r.k h runs v.table.size run' (mothers (tables (in_use r) annex)) Q
        (all_map NoLonger (λ q. Hit w r.k h q → ⊥) (λ q l x. omega (arith, l x, ltb-true 1 (rest_of w q) x.some, ap (rest_of w) e, one)) run no_longer)
        (λ f. s (weight f w r.k c) (weightless f w r.k c (void w) (omega arith)) (weightless f w r.k c (tombstone w) (omega (arith, tombstone-rest w))))

    erased : p ≡ void w → (f : ℕ → ℕ) → f (void w) ≡ 0 → sum f (erase p run) ≡ sum f run
    unfolding Same sum
    erased e g z = omega (arith, erase_same p run f.chosen.inside g, ap g e)

    buried : p ≡ void w → (f : ℕ → ℕ) → f (void w) ≡ 0 → f (tombstone w) ≡ 0 → sum f (add (tombstone w) (erase p run)) ≡ sum f run
    unfolding Same sum
    buried e g z y = omega (arith, add_same (tombstone w) (erase p run) g, erased e g z)

    -- a fresh entry in the place of another
    put_back : (Q' : List ℕ) → Inserted h (state (set runs c (erase p run)) Q') (state (set runs c (add (fresh_entry r h) (erase p run))) Q')
    put_back Q' =
        let rs : Runs = set runs c (erase p run) in
        subst (λ (x : Runs). Inserted h (state rs Q') (state x Q'))
        (ap (λ (l : List ℕ). set rs c (add (fresh_entry r h) l)) (get_or-set_same runs c (erase p run) [] hl) ∙ set-set runs c (erase p run) (add (fresh_entry r h) (erase p run)))
        (put_in rs Q' (length-set runs c (erase p run) ∙ v.table.size))

  -- ---- the calls

  pub insert-step : (insert r main queue annex h).number ≡ 0 → Inserted h (seen_of r main queue annex) (seen (left (insert r main queue annex h)))
  unfolding inserted
  insert-step z =
      let d = insert-done r main queue annex h g z in
      let rs : Runs = set runs c (add (fresh_entry r h) run) in
      subst (λ (t : State). Inserted h (state runs Q) t) (sym (ap (λ (o : Outcome). seen (left o)) d.0 ∙ changed rs (r.used + 1) r.queued queue d.1))
      (put_in runs Q v.table.size)

  abbrev Lost : State → Type 0
  Lost t = Removed h (seen_of r main queue annex) t ⊎ Queued h (seen_of r main queue annex) t

  lost : (o : Outcome) → Deletes r main queue annex h o → Lost (seen (left o))
  lost o (Deletes.bits p f ne e) =
      let rs : Runs = set runs c (erase p run) in
      subst Lost (sym (ap (λ (o : Outcome). seen (left o)) e ∙ changed rs (r.used - 1) r.queued queue (removed-fine r main queue annex h runs v p f ne)))
      (inl (take_out p f ne))
  lost o (Deletes.void-one p f q n1 n2 e) =
      let rs : Runs = set runs c (add (tombstone w) (erase p run)) in
      let queue' : List ℕ = set queue r.queued (c * 2) in
      subst Lost (sym (ap (λ (o : Outcome). seen (left o)) e ∙ changed rs r.used (r.queued + 1) queue' (void-fine r main queue annex h runs v p f q n1 n2)
      ∙ ap (state rs) (queue-more queue r.queued (c * 2) c n2 (omega arith))))
      (inr (put-off p f (add (tombstone w) (erase p run)) q (buried p f q)))

  pub delete-step : (delete r main queue annex h).number ≡ 0 → Lost (seen (left (delete r main queue annex h)))
  delete-step z = lost (delete r main queue annex h) (delete-done r main queue annex h g z)

  abbrev Renewed : State → Type 0
  Renewed t = Kept (seen_of r main queue annex) t ⊎ ((m : State) × Lost m × Inserted h m t)

  renewed : (o : Outcome) → Renews r main queue annex h o → Renewed (seen (left o))
  unfolding refused Same
  renewed o (Renews.kept p f l e) =
      subst Renewed (sym (ap (λ (o : Outcome). seen (left o)) e)) (inl (record { size = refl; bits = λ f. refl; mothers = λ f. refl; queue = λ f. refl }))
  renewed o (Renews.bits p f ne e) =
      let rs : Runs = set runs c (add (fresh_entry r h) (erase p run)) in
      subst Renewed (sym (ap (λ (o : Outcome). seen (left o)) e ∙ changed rs r.used r.queued queue (renewed-bits r main queue annex h runs v p f ne)))
      (inr (state (set runs c (erase p run)) Q, inl (take_out p f ne), put_back p f Q))
  renewed o (Renews.void-one p f q n1 n2 e) =
      let rs : Runs = set runs c (add (fresh_entry r h) (erase p run)) in
      let queue' : List ℕ = set queue r.queued (c * 2 + 1) in
      subst Renewed (sym (ap (λ (o : Outcome). seen (left o)) e ∙ changed rs r.used (r.queued + 1) queue' (renewed-void r main queue annex h runs v p f q n1 n2)
      ∙ ap (state rs) (queue-more queue r.queued (c * 2 + 1) c n2 (omega arith))))
      (inr (state (set runs c (erase p run)) (Q ++ c ∷ []), inr (put-off p f (erase p run) q (λ x z _. erased p f q x z)), put_back p f (Q ++ c ∷ [])))

  pub rejuvenate-step : (rejuvenate r main queue annex h).number ≡ 0 → Renewed (seen (left (rejuvenate r main queue annex h)))
  rejuvenate-step z = renewed (rejuvenate r main queue annex h) (rejuvenate-done r main queue annex h g z)
