-- Reading the run of an address from the place where it begins: the loop passes its later entries one by one, and on a layout they are those of the run, since
-- what waits is stored in order.
use mathlib.Core.Path.{◌≡◌, refl, sym, ap, ap₂, ◌∙◌}
use mathlib.Core.Bool.{◌&&◌}
use mathlib.Core.List.{List, [], ◌∷◌, ◌++◌, map, append-nil}
use Prim.Native.Nat.{ℕ, zero, suc, ◌+◌, ◌*◌, ◌-◌, ◌/◌, ◌%◌, ◌≤◌, ◌<◌}
use native.Mathlib.Omega.{arith}
use native.Mathlib.Numerals.{add-one}
use lib.Dec.{eqb}
use lib.ListN.{length, take, drop, get_or, length-append, length-drop, length-map}
use lib.Seq.{drop-cons}
use Rattle.lists.specs.Runs.{Runs, count, total}
use Rattle.lists.proofs.Tests.{is}
use Rattle.slots.specs.Payload.{tombstone, void}
use Rattle.layout.specs.Machine.{Entry, start, more, occupied, mark, emit, rest, scan, pend, layout}
use Rattle.layout.specs.Decode.{turn, entry, entry_of, mores, stop'}
use Rattle.layout.specs.Document.{carry}
use Rattle.layout.specs.Moves.{wrap}
use Rattle.layout.proofs.Laws.{rest-length}
use Rattle.layout.proofs.Round.{marks, entry-home, entry-moved, turn-layout}
use Rattle.layout.proofs.Same.{turn-length, total-turn, carry-pend}
use Rattle.layout.proofs.Insert.{pend-others, layout-from, splice-drop}
use Rattle.layout.proofs.Bridge.{get-wrap}
use Rattle.layout.proofs.Calls.{others, turn-own}
use Rattle.layout.proofs.Puts.{layout-length, run_room, run-bit}
use Rattle.sound.proofs.Laps.{queue, joined, joined-queue, occupied-le}
use Rattle.sound.specs.Reading.{later, read_at, Read}

-- ---- the later entries

cut : (l : List ℕ) (j : ℕ) → j < length l → later l j ≡ mores (entry_of (get_or l j 0 / 2 % 2) (get_or l j 0 / 8) ∷ map entry (drop (suc j) l))
unfolding later entry
cut l j h = ap (λ (x : List ℕ). mores (map entry x)) (drop-cons l j 0 h)

pub later-stop : (l : List ℕ) (j : ℕ) → j < length l → get_or l j 0 / 2 % 2 ≡ 0 → later l j ≡ []
unfolding mores
later-stop l j h z = cut l j h ∙ ap (λ (b : ℕ). mores (entry_of b (get_or l j 0 / 8) ∷ map entry (drop (suc j) l))) z

pub later-on : (l : List ℕ) (j : ℕ) → j < length l → (get_or l j 0 / 2 % 2 ≡ 0 → ⊥) → later l j ≡ get_or l j 0 / 8 ∷ later l (j + 1)
unfolding mores later
later-on l j h nz = rw (add-one j) (cut l j h ∙ go (get_or l j 0 / 2 % 2) nz)
  where
    go : (b : ℕ) → (b ≡ 0 → ⊥) → mores (entry_of b (get_or l j 0 / 8) ∷ map entry (drop (suc j) l)) ≡ get_or l j 0 / 8 ∷ mores (map entry (drop (suc j) l))
    go zero n = absurd (n refl)
    go (suc b) n = refl

pub later-end : (l : List ℕ) (j : ℕ) → length l ≤ j → later l j ≡ []
unfolding mores later
later-end l j h = ap (λ (x : List ℕ). mores (map entry x)) (lib.ListN.drop_of_length-le l {i = j} h)

-- ---- the loop: at place j, a and b counted

pub record Going (words : List ℕ) (c k t v j a b : ℕ) : Type 0 where
  pub ahead : k ≤ j
  pub few : a ≤ j
  pub few_voids : b ≤ j
  pub len : length (read_at words c k) + k ≡ j + length (later (turn c words) j)
  pub tombstones : count t (read_at words c k) ≡ a + count t (later (turn c words) j)
  pub voids : count v (read_at words c k) ≡ b + count v (later (turn c words) j)

pub read_none : (words : List ℕ) (c k t v : ℕ) → get_or words c 0 % 2 ≡ 0 → Read words c k t v 0 0 0
unfolding read_at count
read_none words c k t v z =
    let e : read_at words c k ≡ [] = ap (λ (x : ℕ). stop' x (get_or (turn c words) k 0 / 8 ∷ later (turn c words) (k + 1))) z in
    record { size = sym (ap length e); fits = omega arith; tombstones = sym (ap (count t) e); voids = sym (ap (count v) e) }

module _ (words : List ℕ) (c k t v i a b : ℕ) (hc : c < length words) (hk : k < length words) (nz : get_or words c 0 % 2 ≡ 0 → ⊥)
    (ei : i ≡ wrap (length words) c k)
    (ea : (a ≡ is t (get_or words i 0 / 8)) × (a ≤ 1)) (eb : (b ≡ is v (get_or words i 0 / 8)) × (b ≤ 1)) where
  first : read_at words c k ≡ get_or words i 0 / 8 ∷ later (turn c words) (k + 1)
  unfolding read_at
  first =
      go (get_or words c 0 % 2) nz
      ∙ ap (λ (x : ℕ). x / 8 ∷ later (turn c words) (k + 1)) (sym (ap (λ (j : ℕ). get_or words j 0) ei ∙ get-wrap words c k (omega arith) hk 0))
    where
      go : (x : ℕ) → (x ≡ 0 → ⊥) → stop' x (get_or (turn c words) k 0 / 8 ∷ later (turn c words) (k + 1))
          ≡ get_or (turn c words) k 0 / 8 ∷ later (turn c words) (k + 1)
      go zero n = absurd (n refl)
      go (suc x) n = refl

  pub going_start : Going words c k t v (k + 1) a b
  unfolding count
  going_start =
      let l = later (turn c words) (k + 1) in
      record {
        ahead = omega arith;
        few = omega arith;
        few_voids = omega arith;
        len = omega (arith, ap length first);
        tombstones = ap (count t) first ∙ ap (λ (x : ℕ). x + count t l) (sym ea.0);
        voids = ap (count v) first ∙ ap (λ (x : ℕ). x + count v l) (sym eb.0);
      }

module _ (words : List ℕ) (c k t v j i a b : ℕ) (hc : c < length words) (hj : j < length words) (ei : i ≡ wrap (length words) c j)
    (g : Going words c k t v j a b) where
  same : get_or (turn c words) j 0 ≡ get_or words i 0
  same = sym (ap (λ (x : ℕ). get_or words x 0) ei ∙ get-wrap words c j (omega arith) hj 0)

  pub going-stop : get_or words i 0 / 2 % 2 ≡ 0 → Read words c k t v (j - k) a b
  unfolding count
  going-stop z =
      let e : later (turn c words) j ≡ [] = later-stop (turn c words) j (omega (arith, turn-length c words)) (ap (λ (x : ℕ). x / 2 % 2) same ∙ z) in
      record {
        size = omega (arith, g.len, ap length e);
        fits = omega arith;
        tombstones = omega (arith, g.tombstones, ap (count t) e);
        voids = omega (arith, g.voids, ap (count v) e);
      }

  pub going_on : (get_or words i 0 / 2 % 2 ≡ 0 → ⊥) → (x y : ℕ) → (x ≡ is t (get_or words i 0 / 8)) × (x ≤ 1) → (y ≡ is v (get_or words i 0 / 8)) × (y ≤ 1)
      → Going words c k t v (j + 1) (a + x) (b + y)
  unfolding count
  going_on nz x y ex ey =
      let l = later (turn c words) (j + 1) in
      let e : later (turn c words) j ≡ get_or words i 0 / 8 ∷ l =
      later-on (turn c words) j (omega (arith, turn-length c words)) (λ z. nz (ap (λ (u : ℕ). u / 2 % 2) (sym same) ∙ z)) ∙ ap (λ (u : ℕ). u / 8 ∷ l) same in
      let p : count t (later (turn c words) j) ≡ x + count t l = ap (count t) e ∙ ap (λ (u : ℕ). u + count t l) (sym ex.0) in
      let q : count v (later (turn c words) j) ≡ y + count v l = ap (count v) e ∙ ap (λ (u : ℕ). u + count v l) (sym ey.0) in
      record {
        ahead = omega (arith, g.ahead);
        few = omega (arith, g.few);
        few_voids = omega (arith, g.few_voids);
        len = omega (arith, g.len, ap length e);
        tombstones = omega (arith, g.tombstones);
        voids = omega (arith, g.voids);
      }

pub going_end : (words : List ℕ) (c k t v j a b : ℕ) → length words ≤ j → j ≤ length words → Going words c k t v j a b
    → Read words c k t v (length words - k) a b
unfolding count
going_end words c k t v j a b h h' g =
    let e : later (turn c words) j ≡ [] = later-end (turn c words) j (omega (arith, turn-length c words)) in
    record {
      size = omega (arith, g.len, ap length e);
      fits = omega arith;
      tombstones = omega (arith, g.tombstones, ap (count t) e);
      voids = omega (arith, g.voids, ap (count v) e);
    }

-- the code's comparison
pub agree : (words : List ℕ) (c k w t v len a b evens want m m' named : ℕ) → t ≡ tombstone w → v ≡ void w → Read words c k t v len a b → m' ≡ m
    → want ≡ m' - named
    → (eqb a evens && eqb b want) ≡ (eqb (count (tombstone w) (read_at words c k)) evens && eqb (count (void w) (read_at words c k)) (m - named))
agree words c k w t v len a b evens want m m' named et ev r f e = rw (r.tombstones, r.voids, e, f, et, ev)

-- ---- on a layout the code reads the run

-- the run that begins at the first of these words
unfoldable first_run : List ℕ → List ℕ
first_run [] = []
first_run (w ∷ ws) = w / 8 ∷ mores (map entry ws)

first-run-at : (l : List ℕ) (k : ℕ) → k < length l → get_or l k 0 / 8 ∷ later l (k + 1) ≡ first_run (drop k l)
unfolding first_run later
first-run-at l k h = rw (add-one k) (sym (ap first_run (drop-cons l k 0 h)))

-- no run goes on where only runs wait
fresh : (us rs : Runs) → mores (map entry (scan rs (marks us))) ≡ []
unfolding mores scan marks mark emit entry
fresh us [] = refl
fresh [] ([] ∷ rs) = refl
fresh [] ((x ∷ xs) ∷ rs) = rw (entry-home x)
fresh ([] ∷ us) (r ∷ rs) = fresh us (r ∷ rs)
fresh ((y ∷ ys) ∷ us) (r ∷ rs) = rw (entry-moved (start y) r)

-- what goes on is stored first
goes_on : (xs : List ℕ) (us rs : Runs) → length xs ≤ length rs → mores (map entry (scan rs (queue xs us))) ≡ xs
unfolding mores scan emit rest
goes_on [] us rs h = fresh us rs
goes_on (x ∷ xs) us [] h = absurd (omega arith)
goes_on (x ∷ xs) us (r ∷ rs) h =
    rw (entry-moved (more x) r)
    (ap (λ (l : List ℕ). x ∷ l)
    (ap (λ (q : List Entry). mores (map entry (scan rs q))) (joined-queue xs us r) ∙ goes_on xs (joined us r) rs (omega arith)))

-- a run that is the first to wait
waits-first : (x : ℕ) (xs : List ℕ) (us rs : Runs) → length xs < length rs → first_run (scan rs (start x ∷ queue xs us)) ≡ x ∷ xs
unfolding first_run scan emit rest
waits-first x xs us [] h = absurd (omega arith)
waits-first x xs us (r ∷ rs) h =
    let p : (x * 8 + 4 + occupied r) / 8 ≡ x = omega (arith, occupied-le r) in
    ap₂ (λ (a : ℕ) (l : List ℕ). a ∷ l) p
    (ap (λ (q : List Entry). mores (map entry (scan rs q))) (joined-queue xs us r) ∙ goes_on xs (joined us r) rs (omega arith))

-- the run of the first address, where q waits
own-run : (q : List Entry) (x : ℕ) (xs : List ℕ) (rs : Runs) → length (rest q (x ∷ xs)) ≤ length rs
    → first_run (drop (length q) (emit q (x ∷ xs) ∷ scan rs (rest q (x ∷ xs)))) ≡ x ∷ xs
unfolding emit rest first_run mark marks
own-run [] x xs rs h =
    let p : (x * 8 + 1) / 8 ≡ x = omega arith in
    ap₂ (λ (a : ℕ) (l : List ℕ). a ∷ l) p
    (ap (λ (q : List Entry). mores (map entry (scan rs q))) (sym (append-nil (map more xs))) ∙ goes_on xs [] rs (omega (arith, length-map xs more)))
own-run (g ∷ q) x xs rs h =
    let n : length (q ++ mark (x ∷ xs)) ≡ length q + length (mark (x ∷ xs)) = length-append q (mark (x ∷ xs)) in
    let m : length (mark (x ∷ xs)) ≡ suc (length xs) = ap suc (length-map xs more) in
    ap first_run (splice-drop rs q (omega arith) (mark (x ∷ xs)))
    ∙ waits-first x xs (take (length q) rs) (drop (length q) rs) (omega (arith, length-drop (length q) rs))

module _ (runs : Runs) (c : ℕ) (hc : c < length runs) (small : total runs < length runs) where
  -- the circle begun at c, by its own run r
  circle : (r : List ℕ) → get_or runs c [] ≡ r
      → turn c (layout runs) ≡ emit (pend (turn c runs)) r ∷ scan (others runs c) (rest (pend (turn c runs)) r)
  circle r e =
      let o : turn c runs ≡ r ∷ others runs c = turn-own runs c hc ∙ ap (λ (l : List ℕ). l ∷ others runs c) e in
      let h : total (r ∷ others runs c) < length (r ∷ others runs c) = omega (arith, ap total o, ap length o, total-turn c runs, turn-length c runs) in
      turn-layout c runs (omega arith) small ∙ ap layout o ∙ layout-from r (others runs c) h
      ∙ ap (λ (q : List Entry). emit q r ∷ scan (others runs c) (rest q r)) (sym (pend-others r (others runs c) h) ∙ ap pend (sym o))

  pub run-read : (k : ℕ) → k ≡ carry runs c → read_at (layout runs) c k ≡ get_or runs c []
  unfolding read_at
  run-read k ek = ap (λ (b : ℕ). stop' b (get_or l k 0 / 8 ∷ later l (k + 1))) (run-bit runs c hc small) ∙ go (get_or runs c []) refl
    where
      l : List ℕ
      l = turn c (layout runs)

      go : (r : List ℕ) → get_or runs c [] ≡ r → stop' (occupied r) (get_or l k 0 / 8 ∷ later l (k + 1)) ≡ r
      go [] e = refl
      go (x ∷ xs) e =
          let q = pend (turn c runs) in
          let eq : k ≡ length q = ek ∙ carry-pend runs c hc small in
          let room = run_room runs c hc small in
          let n : length (others runs c) + 1 ≡ length runs = omega (arith, ap length (turn-own runs c hc), turn-length c runs) in
          let hl : k < length l = omega (arith, turn-length c (layout runs), layout-length runs) in
          first-run-at l k hl ∙ ap₂ (λ (j : ℕ) (ws : List ℕ). first_run (drop j ws)) eq (circle (x ∷ xs) e)
          ∙ own-run q x xs (others runs c) (omega (arith, rest-length q (x ∷ xs), ap length e))
