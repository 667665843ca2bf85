-- A lap is good exactly if the words are those that the machine writes from nothing to nothing: soundness by induction on the words, completeness by induction
-- on the runs.
use mathlib.Core.Path.{◌≡◌, refl, sym, ap, ap₂, ◌∙◌}
use mathlib.Core.Bool.{Bool, true, false, ◌&&◌}
use mathlib.Core.List.{List, [], ◌∷◌, ◌++◌, map, append_assoc, append-nil}
use Prim.Native.Nat.{ℕ, zero, suc, ◌+◌, ◌*◌, ◌-◌, ◌/◌, ◌%◌, ◌≤◌, ◌<◌}
use native.Mathlib.Omega.{arith}
use borrow.Author.Tests.{eqb-true, ltb-true, leb-true, eq-eqb, lt-ltb, le-leb}
use lib.Dec.{ltb, eqb}
use lib.ListN.{length, length-append, length-map}
use Rattle.lists.specs.Runs.{Runs, total}
use Rattle.lists.proofs.Tests.{no_true, test-true, true-test, and_left, and_right}
use Rattle.lists.proofs.Alls.{All}
use Rattle.layout.specs.Machine.{Entry, more, occupied, mark, emit, rest, scan, left}
use Rattle.layout.proofs.Laws.{mark-length, total-append}
use Rattle.layout.proofs.Round.{marks}
use Rattle.std.specs.Prelude.{Option, Some, None}
use Rattle.std.specs.Bool.{then_some}
use Rattle.std.specs.Option.{option_map_or}
use Rattle.sound.specs.declared.Lap.{Lap}
use Rattle.sound.specs.Lap.{no_entry, an_entry, empty, home, moved, goes_on, next, arm, step, fits}

pub and-true : (a b : Bool) → (a && b) ≡ true → (a ≡ true) × (b ≡ true)
and-true a b e = (test-true a (and_left a b (true-test (a && b) e)), test-true b (and_right a b (true-test (a && b) e)))

pub true-and : (a b : Bool) → a ≡ true → b ≡ true → (a && b) ≡ true
true-and true b e h = h
true-and false b e h = e

-- ---- what is to come of the lap

-- entries that pass the test and rise from x
unfoldable pub Rises : (ℕ → Bool) → ℕ → List ℕ → Type 0
Rises f x [] = Unit {0}
Rises f x (y ∷ ys) = (x ≤ y) × (f y ≡ true) × Rises f y ys

unfoldable pub Run : (ℕ → Bool) → List ℕ → Type 0
Run f [] = Unit {0}
Run f (x ∷ xs) = (f x ≡ true) × Rises f x xs

-- a run that waits has an entry
abbrev pub Waiting : (ℕ → Bool) → List ℕ → Type 0
Waiting f r = (1 ≤ length r) × Run f r

-- the later entries of the run of the slot before, none where that holds no entry
unfoldable pub After : (ℕ → Bool) → Option ℕ → List ℕ → Type 0
After f None xs = xs ≡ []
After f (Some x) xs = Rises f x xs

abbrev pub queue : List ℕ → Runs → List Entry
queue xs us = map more xs ++ marks us

-- the words are those of runs rs, where xs goes on and us wait
pub record Rest (f : ℕ → Bool) (n : ℕ) (s : Lap) (ws : List ℕ) : Type 0 where
  pub xs : List ℕ
  pub us : Runs
  pub rs : Runs
  pub going : After f s.last xs
  pub held : All (Waiting f) us
  pub waits : s.begun + length us ≡ s.opened
  pub good : All (Run f) rs
  pub words : scan rs (queue xs us) ≡ ws
  pub none : left rs (queue xs us) ≡ []
  pub count : s.count + (length xs + total us + total rs) ≡ n

after-nil : (f : ℕ → Bool) (o : Option ℕ) → After f o []
unfolding After Rises
after-nil f (Some x) = tt
after-nil f None = refl

after-cons : (f : ℕ → Bool) (o : Option ℕ) (p : ℕ) (xs : List ℕ) → After f o (p ∷ xs) → (goes_on o p ≡ true) × (f p ≡ true) × Rises f p xs
unfolding After Rises
after-cons f (Some x) p xs h = (le-leb x p h.0, h.1, h.2)
after-cons f None p xs h = absurd (omega (arith, ap length h))

after_on : (f : ℕ → Bool) (o : Option ℕ) (p : ℕ) (xs : List ℕ) → goes_on o p ≡ true → f p ≡ true → Rises f p xs → After f o (p ∷ xs)
unfolding After Rises
after_on f (Some x) p xs e g h = (leb-true x p e, g, h)
after_on f None p xs e g h = absurd (no_true e)

marks-append : (a b : Runs) → marks (a ++ b) ≡ marks a ++ marks b
unfolding marks
marks-append [] b = refl
marks-append (r ∷ a) b = ap (λ (l : List Entry). mark r ++ l) (marks-append a b) ∙ sym (append_assoc (mark r) (marks a) (marks b))

marks-length : (us : Runs) → length (marks us) ≡ total us
unfolding marks total
marks-length [] = refl
marks-length (r ∷ us) = omega (arith, length-append (mark r) (marks us), mark-length r, marks-length us)

held-total : (f : ℕ → Bool) (us : Runs) → All (Waiting f) us → length us ≤ total us
unfolding total
held-total f [] h = omega arith
held-total f (r ∷ us) h = omega (arith, held-total f us h.1, h.0.0)

pub all_append : {A : Type 0} (P : A → Type 0) (a b : List A) → All P a → All P b → All P (a ++ b)
all_append P [] b h k = k
all_append P (x ∷ a) b h k = (h.0, all_append P a b h.1 k)

-- ---- an address whose run waits behind the others

unfoldable pub joined : Runs → List ℕ → Runs
joined us [] = us
joined us (x ∷ xs) = us ++ ((x ∷ xs) ∷ [])

pub joined-queue : (xs : List ℕ) (us : Runs) (r : List ℕ) → queue xs us ++ mark r ≡ queue xs (joined us r)
unfolding joined mark marks
joined-queue xs us [] = append-nil (queue xs us)
joined-queue xs us (x ∷ ys) =
    append_assoc (map more xs) (marks us) (mark (x ∷ ys))
    ∙ ap (λ (l : List Entry). map more xs ++ l)
    (ap (λ (l : List Entry). marks us ++ l) (sym (append-nil (mark (x ∷ ys)))) ∙ sym (marks-append us ((x ∷ ys) ∷ [])))

joined_length : (us : Runs) (r : List ℕ) → length (joined us r) ≡ length us + occupied r
unfolding joined
joined_length us [] = omega arith
joined_length us (x ∷ ys) = length-append us ((x ∷ ys) ∷ [])

joined-total : (us : Runs) (r : List ℕ) → total (joined us r) ≡ total us + length r
unfolding joined total
joined-total us [] = omega arith
joined-total us (x ∷ ys) = omega (arith, total-append us ((x ∷ ys) ∷ []))

joined-held : (f : ℕ → Bool) (us : Runs) (r : List ℕ) → All (Waiting f) us → Run f r → All (Waiting f) (joined us r)
unfolding joined
joined-held f us [] h k = h
joined-held f us (x ∷ ys) h k = all_append (Waiting f) us ((x ∷ ys) ∷ []) h ((omega arith, k), tt)

-- k runs and, if o is 1, a last one
pub record Split (f : ℕ → Bool) (us : Runs) (k o : ℕ) : Type 0 where
  pub init : Runs
  pub run : List ℕ
  pub is : us ≡ joined init run
  pub size : length init ≡ k
  pub bit : occupied run ≡ o
  pub held : All (Waiting f) init
  pub fine : Run f run

joined-cons : (r : List ℕ) (us : Runs) (u : List ℕ) → r ∷ joined us u ≡ joined (r ∷ us) u
unfolding joined
joined-cons r us [] = refl
joined-cons r us (x ∷ xs) = refl

split_one : (f : ℕ → Bool) (us : Runs) (k : ℕ) → length us ≡ suc k → All (Waiting f) us → Split f us k 1
unfolding joined
split_one f [] k e h = absurd (omega arith)
split_one f ([] ∷ []) k e h = absurd (omega (arith, h.0.0))
split_one f ((x ∷ xs) ∷ []) k e h = record { init = []; run = x ∷ xs; is = refl; size = omega arith; bit = refl; held = tt; fine = h.0.1 }
split_one f (r ∷ t ∷ us) zero e h = absurd (omega arith)
split_one f (r ∷ t ∷ us) (suc k) e h =
    let s = split_one f (t ∷ us) k (omega arith) h.1 in
    record {
      init = r ∷ s.init;
      run = s.run;
      is = ap (λ (l : Runs). r ∷ l) s.is ∙ joined-cons r s.init s.run;
      size = ap suc s.size;
      bit = s.bit;
      held = (h.0, s.held);
      fine = s.fine;
    }

pub split : (f : ℕ → Bool) (us : Runs) (k o : ℕ) → o ≤ 1 → length us ≡ k + o → All (Waiting f) us → Split f us k o
unfolding joined Run
split f us k zero l e h = record { init = us; run = []; is = refl; size = omega arith; bit = refl; held = h; fine = tt }
split f us k (suc zero) l e h = split_one f us k (omega arith) h
split f us k (suc (suc o)) l e h = absurd (omega arith)

-- ---- a good lap is the machine's

module _ (f : ℕ → Bool) (n : ℕ) (s : Lap) (w : ℕ) (ws : List ℕ) where
  from_empty : (eqb w 0 && eqb s.begun s.opened) ≡ true → Rest f n (no_entry s) ws → Rest f n s (w ∷ ws)
  unfolding After Run scan left emit rest marks total
  from_empty g r =
      let t = and-true (eqb w 0) (eqb s.begun s.opened) g in
      let z : w ≡ 0 = eqb-true w 0 t.0 in
      let b : s.begun ≡ s.opened = eqb-true s.begun s.opened t.1 in
      let ex : r.xs ≡ [] = r.going in
      let eu : r.us ≡ [] = Rattle.layout.proofs.Laws.empty r.us (omega (arith, r.waits)) in
      let q : queue r.xs r.us ≡ [] = ap₂ queue ex eu in
      record {
        xs = [];
        us = [];
        rs = [] ∷ r.rs;
        going = after-nil f s.last;
        held = tt;
        waits = omega arith;
        good = (tt, r.good);
        words = ap₂ (λ (a : ℕ) (l : List ℕ). a ∷ l) (sym z) (ap (scan r.rs) (sym q) ∙ r.words);
        none = ap (left r.rs) (sym q) ∙ r.none;
        count = omega (arith, r.count, ap length ex, ap total eu);
      }

  from-home : w % 8 ≡ 1 → (eqb s.begun s.opened && f (w / 8)) ≡ true → Rest f n (an_entry s (w / 8) 1 1) ws
      → Rest f n s (w ∷ ws)
  unfolding After Run scan left emit rest marks total
  from-home a g r =
      let t = and-true (eqb s.begun s.opened) (f (w / 8)) g in
      let b : s.begun ≡ s.opened = eqb-true s.begun s.opened t.0 in
      let eu : r.us ≡ [] = Rattle.layout.proofs.Laws.empty r.us (omega (arith, r.waits)) in
      let q : queue r.xs r.us ≡ map more r.xs = ap (queue r.xs) eu ∙ append-nil (map more r.xs) in
      let v : w / 8 * 8 + 1 ≡ w = omega arith in
      record {
        xs = [];
        us = [];
        rs = (w / 8 ∷ r.xs) ∷ r.rs;
        going = after-nil f s.last;
        held = tt;
        waits = omega arith;
        good = ((t.1, r.going), r.good);
        words = ap₂ (λ (a : ℕ) (l : List ℕ). a ∷ l) v (ap (scan r.rs) (sym q) ∙ r.words);
        none = ap (left r.rs) (sym q) ∙ r.none;
        count = omega (arith, r.count, ap total eu);
      }

  split-moved : s.begun < s.opened → 4 ≤ w % 8 → w % 8 < 6 → f (w / 8) ≡ true
      → (r : Rest f n (an_entry s (w / 8) (w % 2) 1) ws) → Split f r.us (s.opened - suc s.begun) (w % 2) → Rest f n s (w ∷ ws)
  unfolding After Run scan left emit rest marks total mark
  split-moved b a a' t r d =
      let q : queue r.xs r.us ≡ queue r.xs d.init ++ mark d.run = ap (queue r.xs) d.is ∙ sym (joined-queue r.xs d.init d.run) in
      let v : w / 8 * 8 + 4 + occupied d.run ≡ w = omega (arith, d.bit) in
      record {
        xs = [];
        us = (w / 8 ∷ r.xs) ∷ d.init;
        rs = d.run ∷ r.rs;
        going = after-nil f s.last;
        held = ((omega arith, (t, r.going)), d.held);
        waits = omega (arith, d.size);
        good = (d.fine, r.good);
        words = ap₂ (λ (a : ℕ) (l : List ℕ). a ∷ l) v (ap (scan r.rs) (sym q) ∙ r.words);
        none = ap (left r.rs) (sym q) ∙ r.none;
        count = omega (arith, r.count, ap total d.is, joined-total d.init d.run);
      }

  from-moved : 4 ≤ w % 8 → w % 8 < 6 → (ltb s.begun s.opened && f (w / 8)) ≡ true
      → Rest f n (an_entry s (w / 8) (w % 2) 1) ws → Rest f n s (w ∷ ws)
  from-moved a a' g r =
      let t = and-true (ltb s.begun s.opened) (f (w / 8)) g in
      let b : s.begun < s.opened = ltb-true s.begun s.opened t.0 in
      split-moved b a a' t.1 r (split f r.us (s.opened - suc s.begun) (w % 2) (omega arith) (omega (arith, r.waits)) r.held)

  split-next : s.begun ≤ s.opened → 6 ≤ w % 8 → ((xs : List ℕ) → Rises f (w / 8) xs → After f s.last (w / 8 ∷ xs))
      → (r : Rest f n (an_entry s (w / 8) (w % 2) 0) ws) → Split f r.us (s.opened - s.begun) (w % 2) → Rest f n s (w ∷ ws)
  unfolding After Run scan left emit rest marks total mark
  split-next k a t r d =
      let q : queue r.xs r.us ≡ queue r.xs d.init ++ mark d.run = ap (queue r.xs) d.is ∙ sym (joined-queue r.xs d.init d.run) in
      let v : w / 8 * 8 + 2 + 4 + occupied d.run ≡ w = omega (arith, d.bit) in
      record {
        xs = w / 8 ∷ r.xs;
        us = d.init;
        rs = d.run ∷ r.rs;
        going = t r.xs r.going;
        held = d.held;
        waits = omega (arith, d.size);
        good = (d.fine, r.good);
        words = ap₂ (λ (a : ℕ) (l : List ℕ). a ∷ l) v (ap (scan r.rs) (sym q) ∙ r.words);
        none = ap (left r.rs) (sym q) ∙ r.none;
        count = omega (arith, r.count, ap total d.is, joined-total d.init d.run);
      }

  from_next : s.begun ≤ s.opened → 6 ≤ w % 8 → (goes_on s.last (w / 8) && f (w / 8)) ≡ true → Rest f n (an_entry s (w / 8) (w % 2) 0) ws
      → Rest f n s (w ∷ ws)
  from_next k a g r =
      let t = and-true (goes_on s.last (w / 8)) (f (w / 8)) g in
      split-next k a (λ xs h. after_on f s.last (w / 8) xs t.0 t.1 h) r
      (split f r.us (s.opened - s.begun) (w % 2) (omega arith) (omega (arith, r.waits)) r.held)

-- what is true of a lap that is there only where a test passes
passes : (g : Lap → Bool) (b : Bool) (v : Lap) → option_map_or g (then_some b v) false ≡ true → (b ≡ true) × (g v ≡ true)
passes g true v e = (refl, e)
passes g false v e = absurd (no_true e)

pub sound : (f : ℕ → Bool) (n : ℕ) (ws : List ℕ) (s : Lap) → s.begun ≤ s.opened → fits f n s ws ≡ true → Rest f n s ws
unfolding fits step scan left marks total
sound f n [] s k e =
    let t = and-true (eqb s.begun s.opened) (eqb s.count n) e in
    let b : s.begun ≡ s.opened = eqb-true s.begun s.opened t.0 in
    let c : s.count ≡ n = eqb-true s.count n t.1 in
    record {
      xs = [];
      us = [];
      rs = [];
      going = after-nil f s.last;
      held = tt;
      waits = omega arith;
      good = tt;
      words = refl;
      none = refl;
      count = omega arith;
    }
sound f n (w ∷ ws) s k e = go (w % 8) refl e (λ v h g. sound f n ws v h g)
  where
    behind : (ltb s.begun s.opened && f (w / 8)) ≡ true → s.begun + 1 ≤ s.opened + w % 2
    behind g = omega (arith, ltb-true s.begun s.opened (and-true (ltb s.begun s.opened) (f (w / 8)) g).0)

    go : (b : ℕ) → w % 8 ≡ b
        → option_map_or (λ v. fits f n v ws) (arm b (empty s w) (home f s (w / 8)) (moved f s (w / 8) (w % 2)) (next f s (w / 8) (w % 2))) false ≡ true
        → ((v : Lap) → v.begun ≤ v.opened → fits f n v ws ≡ true → Rest f n v ws) → Rest f n s (w ∷ ws)
    go zero a g r =
        let t = passes (λ v. fits f n v ws) (eqb w 0 && eqb s.begun s.opened) (no_entry s) g in
        from_empty f n s w ws t.0 (r (no_entry s) k t.1)
    go (suc zero) a g r =
        let v = an_entry s (w / 8) 1 1 in
        let t = passes (λ v. fits f n v ws) (eqb s.begun s.opened && f (w / 8)) v g in
        from-home f n s w ws a t.0 (r v (omega arith) t.1)
    go (suc (suc zero)) a g r = absurd (no_true g)
    go (suc (suc (suc zero))) a g r = absurd (no_true g)
    go (suc (suc (suc (suc zero)))) a g r =
        let v = an_entry s (w / 8) (w % 2) 1 in
        let t = passes (λ v. fits f n v ws) (ltb s.begun s.opened && f (w / 8)) v g in
        from-moved f n s w ws (omega arith) (omega arith) t.0 (r v (behind t.0) t.1)
    go (suc (suc (suc (suc (suc zero))))) a g r =
        let v = an_entry s (w / 8) (w % 2) 1 in
        let t = passes (λ v. fits f n v ws) (ltb s.begun s.opened && f (w / 8)) v g in
        from-moved f n s w ws (omega arith) (omega arith) t.0 (r v (behind t.0) t.1)
    go (suc (suc (suc (suc (suc (suc b)))))) a g r =
        let v = an_entry s (w / 8) (w % 2) 0 in
        let t = passes (λ v. fits f n v ws) (goes_on s.last (w / 8) && f (w / 8)) v g in
        from_next f n s w ws k (omega arith) t.0 (r v (omega arith) t.1)

-- ---- and what the machine writes makes a good lap

module _ (f : ℕ → Bool) (n : ℕ) (s v : Lap) (b : Bool) (w : ℕ) (ws : List ℕ) where
  on : step f s w ≡ then_some b v → b ≡ true → fits f n v ws ≡ true → fits f n s (w ∷ ws) ≡ true
  unfolding fits
  on e g h =
      ap (λ (o : Option Lap). option_map_or (λ x. fits f n x ws) o false) (e ∙ ap (λ (c : Bool). then_some c v) g) ∙ h

module _ (f : ℕ → Bool) (s : Lap) (w p o : ℕ) where
  pub is_home : w ≡ p * 8 + 1 → step f s w ≡ home f s p
  unfolding step
  is_home e =
      let a : w % 8 ≡ 1 = omega arith in
      let b : w / 8 ≡ p = omega arith in
      rw (a, b)

  pub is-moved : o ≤ 1 → w ≡ p * 8 + 4 + o → step f s w ≡ moved f s p o
  unfolding step
  is-moved l e =
      let b : w / 8 ≡ p = omega arith in
      let d : w % 2 ≡ o = omega arith in
      rw (b, d) (go (w % 8) (omega arith) (omega arith))
    where
      go : (k : ℕ) → 4 ≤ k → k ≤ 5 → arm k (empty s w) (home f s p) (moved f s p o) (next f s p o) ≡ moved f s p o
      go zero x y = absurd (omega arith)
      go (suc zero) x y = absurd (omega arith)
      go (suc (suc zero)) x y = absurd (omega arith)
      go (suc (suc (suc zero))) x y = absurd (omega arith)
      go (suc (suc (suc (suc zero)))) x y = refl
      go (suc (suc (suc (suc (suc zero))))) x y = refl
      go (suc (suc (suc (suc (suc (suc k)))))) x y = absurd (omega arith)

  pub is-next : o ≤ 1 → w ≡ p * 8 + 2 + 4 + o → step f s w ≡ next f s p o
  unfolding step
  is-next l e =
      let b : w / 8 ≡ p = omega arith in
      let d : w % 2 ≡ o = omega arith in
      rw (b, d) (go (w % 8) (omega arith))
    where
      go : (k : ℕ) → 6 ≤ k → arm k (empty s w) (home f s p) (moved f s p o) (next f s p o) ≡ next f s p o
      go zero x = absurd (omega arith)
      go (suc zero) x = absurd (omega arith)
      go (suc (suc zero)) x = absurd (omega arith)
      go (suc (suc (suc zero))) x = absurd (omega arith)
      go (suc (suc (suc (suc zero)))) x = absurd (omega arith)
      go (suc (suc (suc (suc (suc zero))))) x = absurd (omega arith)
      go (suc (suc (suc (suc (suc (suc k)))))) x = refl

pub occupied-le : (r : List ℕ) → occupied r ≤ 1
occupied-le [] = omega arith
occupied-le (x ∷ r) = omega arith

pub complete : (f : ℕ → Bool) (n : ℕ) (rs : Runs) (xs : List ℕ) (us : Runs) (s : Lap)
    → After f s.last xs → All (Waiting f) us → s.begun + length us ≡ s.opened → All (Run f) rs
    → left rs (queue xs us) ≡ [] → s.count + (length xs + total us + total rs) ≡ n → fits f n s (scan rs (queue xs us)) ≡ true
unfolding fits scan left emit rest mark marks total
complete f n [] xs us s a h b g z c =
    let q : length xs + total us ≡ 0 = omega (arith, ap length z, length-append (map more xs) (marks us), length-map xs more, marks-length us) in
    true-and (eqb s.begun s.opened) (eqb s.count n)
    (eq-eqb s.begun s.opened (omega (arith, held-total f us h))) (eq-eqb s.count n (omega arith))
complete f n ([] ∷ rs) [] [] s a h b g z c =
    on f n s (no_entry s) (eqb s.begun s.opened) 0 (scan rs []) (unfold step in refl)
    (eq-eqb s.begun s.opened (omega arith))
    (complete f n rs [] [] (no_entry s) (after-nil f None) tt b g.1 z (omega arith))
complete f n ((x ∷ ys) ∷ rs) [] [] s a h b g z c =
    let q : map more ys ≡ queue ys [] = sym (append-nil (map more ys)) in
    let v = an_entry s x 1 1 in
    on f n s v (eqb s.begun s.opened && f x) (x * 8 + 1) (scan rs (map more ys)) (is_home f s (x * 8 + 1) x 0 refl)
    (true-and (eqb s.begun s.opened) (f x) (eq-eqb s.begun s.opened (omega arith)) (unfold Run in g.0.0))
    (ap (λ (l : List Entry). fits f n v (scan rs l)) q
    ∙ complete f n rs ys [] v (unfold After Run in g.0.1) tt (omega arith) g.1 (ap (left rs) (sym q) ∙ z) (omega arith))
complete f n (r ∷ rs) [] ([] ∷ us) s a h b g z c = absurd (omega (arith, h.0.0))
complete f n (r ∷ rs) [] ((p ∷ ys) ∷ us) s a h b g z c =
    let w = p * 8 + 4 + occupied r in
    let v = an_entry s p (occupied r) 1 in
    let q : queue ys us ++ mark r ≡ queue ys (joined us r) = joined-queue ys us r in
    on f n s v (ltb s.begun s.opened && f p) w (scan rs (queue ys us ++ mark r)) (is-moved f s w p (occupied r) (occupied-le r) refl)
    (true-and (ltb s.begun s.opened) (f p) (lt-ltb s.begun s.opened (omega arith)) (unfold Run in h.0.1.0))
    (ap (λ (l : List Entry). fits f n v (scan rs l)) q
    ∙ complete f n rs ys (joined us r) v (unfold After Run in h.0.1.1) (joined-held f us r h.1 g.0) (omega (arith, joined_length us r)) g.1
    (ap (left rs) (sym q) ∙ z) (omega (arith, joined-total us r)))
complete f n (r ∷ rs) (p ∷ xs) us s a h b g z c =
    let w = p * 8 + 2 + 4 + occupied r in
    let v = an_entry s p (occupied r) 0 in
    let q : queue xs us ++ mark r ≡ queue xs (joined us r) = joined-queue xs us r in
    let t = after-cons f s.last p xs a in
    on f n s v (goes_on s.last p && f p) w (scan rs (queue xs us ++ mark r)) (is-next f s w p (occupied r) (occupied-le r) refl)
    (true-and (goes_on s.last p) (f p) t.0 t.1)
    (ap (λ (l : List Entry). fits f n v (scan rs l)) q
    ∙ complete f n rs xs (joined us r) v (unfold After in t.2) (joined-held f us r h g.0) (omega (arith, joined_length us r)) g.1
    (ap (left rs) (sym q) ∙ z) (omega (arith, joined-total us r)))
