-- What is decoded of a layout is what was laid out.
use mathlib.Core.Path.{◌≡◌, refl, sym, ap, ap₂, ◌∙◌}
use mathlib.Core.Logic.{◌⊎◌, inl, inr}
use mathlib.Core.List.{List, [], ◌∷◌, ◌++◌, map, reverse, reverse_aux, append_assoc, append-nil, reverse_aux-append}
use Prim.Native.Nat.{ℕ, zero, suc, ◌+◌, ◌*◌, ◌-◌, ◌/◌, ◌%◌, ◌≤◌, ◌<◌}
use native.Mathlib.Omega.{arith}
use lib.ListN.{length, take, drop, get_or, length-append, take-append-drop}
use lib.Seq.{take_at, drop_at, length-take-le, split_at}
use Rattle.layout.specs.Machine.{Entry, start, more, code, occupied, mark, emit, rest, scan, left, pend, layout}
use Rattle.lists.specs.Runs.{total}
use Rattle.layout.proofs.Laws.{rest-length, scan-length, left-append, scan-append, layout-split, total-append, seam, left-room}
use Rattle.layout.specs.Decode.{turn, entry_of, entry, stop, stop', steps, passed, mores, nth, first_mark, skip, ahead, last_place, reading, last_run, run_at, runs_from, decode}
use Rattle.layout.specs.Moves.{occs}

pub map-append : (a b : List ℕ) → map entry (a ++ b) ≡ map entry a ++ map entry b
map-append [] b = refl
map-append (x ∷ a) b = ap (λ (l : List Entry). entry x ∷ l) (map-append a b)

-- ---- the bits of a word

occupied-le : (r : List ℕ) → occupied r ≤ 1
occupied-le [] = omega arith
occupied-le (x ∷ r) = omega arith

entry-eq : (w k p : ℕ) → w / 2 % 2 ≡ k → w / 8 ≡ p → entry w ≡ entry_of k p
unfolding entry
entry-eq w k p a b = ap₂ entry_of a b

pub entry-moved : (e : Entry) (r : List ℕ) → entry (code e + 4 + occupied r) ≡ e
entry-moved (start p) r = entry-eq (p * 8 + 4 + occupied r) 0 p (omega (arith, occupied-le r)) (omega (arith, occupied-le r))
entry-moved (more p) r = entry-eq (p * 8 + 2 + 4 + occupied r) 1 p (omega (arith, occupied-le r)) (omega (arith, occupied-le r))

pub entry-home : (p : ℕ) → entry (p * 8 + 1) ≡ start p
entry-home p = entry-eq (p * 8 + 1) 0 p (omega arith) (omega arith)

pub occupied-bit : (q : List Entry) (r : List ℕ) → emit q r % 2 ≡ occupied r
unfolding emit
occupied-bit [] [] = refl
occupied-bit [] (x ∷ xs) = omega arith
occupied-bit (start p ∷ q) r = omega (arith, occupied-le r)
occupied-bit (more p ∷ q) r = omega (arith, occupied-le r)

pub shifted-bit : (h : Entry) (q : List Entry) (r : List ℕ) → emit (h ∷ q) r / 4 % 2 ≡ 1
unfolding emit
shifted-bit (start p) q r = omega (arith, occupied-le r)
shifted-bit (more p) q r = omega (arith, occupied-le r)

pub home-bit : (r : List ℕ) → emit [] r / 4 % 2 ≡ 0
unfolding emit
home-bit [] = refl
home-bit (x ∷ xs) = omega arith

-- ---- what is stored, in order

unfoldable pub marks : List (List ℕ) → List Entry
marks [] = []
marks (r ∷ rs) = mark r ++ marks rs

-- each slot of the stretch is used
unfoldable pub Full : List (List ℕ) → List Entry → Type 0
Full [] q = Unit {0}
Full (r ∷ rs) q = (1 ≤ length q + length r) × Full rs (rest q r)

-- first in, first out: what a full stretch stores, and then what waits, is what waited and what came
pub fifo : (rs : List (List ℕ)) (q : List Entry) → Full rs q → map entry (scan rs q) ++ left rs q ≡ q ++ marks rs
unfolding scan left marks Full rest emit mark
fifo [] q f = sym (append-nil q)
fifo ([] ∷ rs) [] f = absurd (omega arith)
fifo ((x ∷ xs) ∷ rs) [] f = ap₂ (λ (e : Entry) (l : List Entry). e ∷ l) (entry-home x) (fifo rs (map more xs) f.1)
fifo (r ∷ rs) (h ∷ q) f = ap₂ (λ (e : Entry) (l : List Entry). e ∷ l) (entry-moved h r) (fifo rs (q ++ mark r) f.1 ∙ append_assoc q (mark r) (marks rs))

-- what waits is stored in the slots that follow
pub drain : (q t : List Entry) (rs : List (List ℕ)) → length rs ≡ length q → map entry (scan rs (q ++ t)) ≡ q
unfolding scan rest emit
drain [] t [] e = refl
drain [] t (r ∷ rs) e = absurd (omega arith)
drain (h ∷ q) t [] e = absurd (omega arith)
drain (h ∷ q) t (r ∷ rs) e =
    ap₂ (λ (e : Entry) (l : List Entry). e ∷ l) (entry-moved h r)
    (ap (λ (l : List Entry). map entry (scan rs l)) (append_assoc q t (mark r)) ∙ drain q (t ++ mark r) rs (omega arith))

pub drained : (q t : List Entry) (rs : List (List ℕ)) → length rs ≡ length q → left rs (q ++ t) ≡ t ++ marks rs
unfolding left rest marks
drained [] t [] e = sym (append-nil t)
drained [] t (r ∷ rs) e = absurd (omega arith)
drained (h ∷ q) t [] e = absurd (omega arith)
drained (h ∷ q) t (r ∷ rs) e =
    ap (λ (l : List Entry). left rs l) (append_assoc q t (mark r))
    ∙ drained q (t ++ mark r) rs (omega arith)
    ∙ append_assoc t (mark r) (marks rs)

-- ---- reading runs off a list of entries

-- no run goes on here
pub Fresh : List Entry → Type 0
Fresh l = mores l ≡ []

mores-map : (xs : List ℕ) (t : List Entry) → Fresh t → mores (map more xs ++ t) ≡ xs
unfolding mores Fresh
mores-map [] t f = f
mores-map (x ∷ xs) t f = ap (λ (l : List ℕ). x ∷ l) (mores-map xs t f)

nth-skip : (m : ℕ) (xs : List ℕ) (t : List Entry) → nth m (map more xs ++ t) ≡ nth m t
unfolding nth
nth-skip m [] t = refl
nth-skip m (x ∷ xs) t = nth-skip m xs t

-- how many runs have an entry
unfoldable pub filled : List (List ℕ) → ℕ
filled [] = 0
filled (r ∷ rs) = occupied r + filled rs

nth-marks : (us : List (List ℕ)) (x : ℕ) (xs : List ℕ) (t : List Entry) → Fresh t → nth (filled us) (marks us ++ (mark (x ∷ xs) ++ t)) ≡ x ∷ xs
unfolding nth marks mark filled
nth-marks [] x xs t f = ap (λ (l : List ℕ). x ∷ l) (mores-map xs t f)
nth-marks ([] ∷ us) x xs t f = rw (native.Mathlib.Nat.zero-add (filled us)) (nth-marks us x xs t f)
nth-marks ((y ∷ ys) ∷ us) x xs t f =
    rw (native.Mathlib.Nat.add_comm 1 (filled us), native.Mathlib.Numerals.add-one (filled us), append_assoc (map more ys) (marks us) (start x ∷ (map more xs ++ t)))
    (nth-skip (filled us) ys (marks us ++ (start x ∷ (map more xs ++ t))) ∙ nth-marks us x xs t f)

fresh-scan : (rs us : List (List ℕ)) → Fresh (map entry (scan rs (marks us)))
unfolding Fresh mores scan marks mark emit entry
fresh-scan [] us = refl
fresh-scan ([] ∷ rs) [] = refl
fresh-scan ((x ∷ xs) ∷ rs) [] = rw (entry-home x)
fresh-scan (r ∷ rs) ([] ∷ us) = fresh-scan (r ∷ rs) us
fresh-scan (r ∷ rs) ((y ∷ ys) ∷ us) = rw (entry-moved (start y) r)

skip-mores : (m : ℕ) (xs : List ℕ) (t : List Entry) → skip m (map more xs ++ t) ≡ length xs + skip m t
unfolding skip
skip-mores m [] t = omega arith
skip-mores m (x ∷ xs) t = omega (arith, skip-mores m xs t)

skip-none : (l : List Entry) → Fresh l → skip 0 l ≡ 0
unfolding skip Fresh mores
skip-none [] f = refl
skip-none (start p ∷ l) f = refl
skip-none (more p ∷ l) f = absurd (omega (arith, ap length f))

skip-marks : (us : List (List ℕ)) (l : List Entry) → Fresh l → skip (filled us) (marks us ++ l) ≡ total us
unfolding skip marks mark filled total
skip-marks [] l f = skip-none l f
skip-marks ([] ∷ us) l f = rw (native.Mathlib.Nat.zero-add (filled us), native.Mathlib.Nat.zero-add (total us)) (skip-marks us l f)
skip-marks ((y ∷ ys) ∷ us) l f =
    rw (native.Mathlib.Nat.add_comm 1 (filled us), native.Mathlib.Numerals.add-one (filled us), append_assoc (map more ys) (marks us) l)
    (omega (arith, skip-mores (filled us) ys (marks us ++ l), skip-marks us l f))

-- ---- the cluster of the last address

-- each slot of the stretch is met with something waiting
unfoldable pub Busy : List (List ℕ) → List Entry → Type 0
Busy [] q = Unit {0}
Busy (r ∷ rs) q = (1 ≤ length q) × Busy rs (rest q r)

-- a stretch that begins with nothing waiting, and from then on always something
unfoldable pub Cluster : List (List ℕ) → Type 0
Cluster [] = Unit {0}
Cluster (r ∷ rs) = Busy rs (rest [] r)

pub record Found (ys : List (List ℕ)) (r : List ℕ) (q : List Entry) : Type 0 where
  pub pre : List (List ℕ)
  pub own : List (List ℕ)
  pub split : ys ≡ pre ++ own
  pub none : left pre q ≡ []
  pub busy : Cluster (own ++ (r ∷ []))

pub find : (ys : List (List ℕ)) (r : List ℕ) (q : List Entry) → Found ys r q ⊎ Busy (ys ++ (r ∷ [])) q
unfolding Busy Cluster left
find [] r [] = inl (record { pre = []; own = []; split = refl; none = refl; busy = tt })
find [] r (h ∷ q) = inr (omega arith, tt)
find (y ∷ ys) r q = go q (find ys r (rest q y))
  where
    go : (q : List Entry) → Found ys r (rest q y) ⊎ Busy (ys ++ (r ∷ [])) (rest q y) → Found (y ∷ ys) r q ⊎ Busy ((y ∷ ys) ++ (r ∷ [])) q
    go q (inl f) = inl (record { pre = y ∷ f.pre; own = f.own; split = ap (λ (l : List (List ℕ)). y ∷ l) f.split; none = f.none; busy = f.busy })
    go [] (inr b) = inl (record { pre = []; own = y ∷ ys; split = refl; none = refl; busy = b })
    go (h ∷ q) (inr b) = inr (omega arith, b)

-- a lap that is always busy takes an entry a slot
busy-count : (rs : List (List ℕ)) (q : List Entry) → Busy rs q → length (left rs q) + length rs ≡ length q + total rs
unfolding Busy left total
busy-count [] q b = refl
busy-count (r ∷ rs) q b = omega (arith, busy-count rs (rest q r) b.1, rest-length q r)

busy-full : (rs : List (List ℕ)) (q : List Entry) → Busy rs q → Full rs q
unfolding Busy Full
busy-full [] q b = tt
busy-full (r ∷ rs) q b = (omega arith, busy-full rs (rest q r) b.1)

busy-front : (rs ts : List (List ℕ)) (q : List Entry) → Busy (rs ++ ts) q → Busy rs q
unfolding Busy
busy-front [] ts q b = tt
busy-front (r ∷ rs) ts q b = (b.0, busy-front rs ts (rest q r) b.1)

-- the run that begins a cluster of more than one slot has an entry
cluster-head : (s : List ℕ) (rs : List (List ℕ)) (r : List ℕ) → Cluster ((s ∷ rs) ++ (r ∷ [])) → 1 ≤ length s
unfolding Cluster Busy
cluster-head s [] r b = omega (arith, rest-length [] s)
cluster-head s (t ∷ rs) r b = omega (arith, rest-length [] s)

cluster-full : (own : List (List ℕ)) (r : List ℕ) → Cluster (own ++ (r ∷ [])) → Full own []
unfolding Cluster Full
cluster-full [] r b = tt
cluster-full (s ∷ rs) r b = (omega (arith, cluster-head s rs r b), busy-full rs (rest [] s) (busy-front rs (r ∷ []) (rest [] s) b))

-- ---- the walk to the left

unfoldable pub Shifted : List ℕ → Type 0
Shifted [] = Unit {0}
Shifted (w ∷ ws) = (w / 4 % 2 ≡ 1) × Shifted ws

pub busy-shifted : (rs : List (List ℕ)) (q : List Entry) → Busy rs q → Shifted (scan rs q)
unfolding Busy Shifted scan
busy-shifted [] q b = tt
busy-shifted (r ∷ rs) [] b = absurd (omega arith)
busy-shifted (r ∷ rs) (h ∷ q) b = (shifted-bit h q r, busy-shifted rs (rest (h ∷ q) r) b.1)

pub occs-scan : (rs : List (List ℕ)) (q : List Entry) → occs (scan rs q) ≡ filled rs
unfolding occs scan filled
occs-scan [] q = refl
occs-scan (r ∷ rs) q = ap₂ ◌+◌ (occupied-bit q r) (occs-scan rs (rest q r))

steps_back : (x acc : List ℕ) → Shifted x → steps (reverse_aux x acc) ≡ length x + steps acc
unfolding Shifted steps
steps_back [] acc s = omega arith
steps_back (w ∷ x) acc s =
    steps_back x (w ∷ acc) s.1 ∙ ap (λ (k : ℕ). length x + stop k (suc (steps acc))) s.0 ∙ (omega arith)

-- the occupied bits of all but the last
unfoldable pub fronts : List ℕ → ℕ
fronts [] = 0
fronts (w ∷ []) = 0
fronts (w ∷ v ∷ ws) = w % 2 + fronts (v ∷ ws)

passed-back : (x : List ℕ) (a : ℕ) (acc : List ℕ) → Shifted x → passed (reverse_aux x (a ∷ acc)) ≡ fronts (a ∷ x) + passed (a ∷ acc)
unfolding Shifted passed fronts
passed-back [] a acc s = omega arith
passed-back (w ∷ x) a acc s =
    passed-back x w (a ∷ acc) s.1 ∙ ap (λ (k : ℕ). fronts (w ∷ x) + stop k (a % 2 + passed (a ∷ acc))) s.0 ∙ (omega arith)

fronts-snoc : (u : List ℕ) (w : ℕ) → fronts (u ++ (w ∷ [])) ≡ occs u
unfolding fronts occs
fronts-snoc [] w = refl
fronts-snoc (a ∷ []) w = refl
fronts-snoc (a ∷ b ∷ u) w = ap (λ (k : ℕ). a % 2 + k) (fronts-snoc (b ∷ u) w)

steps_of : (p x : List ℕ) (w : ℕ) → w / 4 % 2 ≡ 0 → Shifted x → steps (reverse (p ++ (w ∷ x))) ≡ length x
unfolding steps
steps_of p x w z s =
    ap steps (reverse_aux-append p (w ∷ x) [])
    ∙ steps_back x (w ∷ reverse_aux p []) s
    ∙ ap (λ (k : ℕ). length x + stop k (suc (steps (reverse_aux p [])))) z
    ∙ (omega arith)

passed-of : (p x : List ℕ) (w : ℕ) → w / 4 % 2 ≡ 0 → Shifted x → passed (reverse (p ++ (w ∷ x))) ≡ fronts (w ∷ x)
unfolding passed
passed-of p x w z s =
    ap passed (reverse_aux-append p (w ∷ x) [])
    ∙ passed-back x w (reverse_aux p []) s
    ∙ ap (λ (k : ℕ). fronts (w ∷ x) + stop k (first_mark (reverse_aux p []) + passed (reverse_aux p []))) z
    ∙ (omega arith)

-- ---- the words from a cluster's start on

Reads : List ℕ → List Entry → Type 0
Reads ws es = (t : List Entry) × Fresh t × (map entry ws ≡ es ++ t)

pre-reads : (q : List Entry) (pre : List (List ℕ)) → length q ≤ length pre → Reads (scan pre q) q
unfolding Reads
pre-reads q pre h =
    let u = take (length q) pre in
    let v = drop (length q) pre in
    let n : length u ≡ length q = length-take-le (length q) pre h in (
      map entry (scan v (marks u)),
      fresh-scan v u,
      ap (λ (l : List (List ℕ)). map entry (scan l q)) (sym (take-append-drop (length q) pre))
          ∙ ap (λ (l : List Entry). map entry (scan (u ++ v) l)) (sym (append-nil q))
          ∙ ap (map entry) (scan-append u v (q ++ []))
          ∙ map-append (scan u (q ++ [])) (scan v (left u (q ++ [])))
          ∙ ap₂ (λ (a : List Entry) (b : List Entry). a ++ map entry (scan v b)) (drain q [] u n) (drained q [] u n),
    )

tail-reads : (q : List Entry) (r : List ℕ) (pre : List (List ℕ)) → length (rest q r) ≤ length pre → Reads (scan (r ∷ pre) q) (q ++ mark r)
unfolding Reads scan rest emit mark Fresh mores entry
tail-reads [] [] pre h = (map entry (0 ∷ scan pre []), refl, refl)
tail-reads [] (x ∷ xs) pre h =
    let (t, f, e) = pre-reads (map more xs) pre h in
    (t, f, ap₂ (λ (a : Entry) (b : List Entry). a ∷ b) (entry-home x) e)
tail-reads (k ∷ q) r pre h =
    let (t, f, e) = pre-reads (q ++ mark r) pre h in
    (t, f, ap₂ (λ (a : Entry) (b : List Entry). a ∷ b) (entry-moved k r) e)

cluster-reads : (own : List (List ℕ)) (r : List ℕ) (pre : List (List ℕ)) → Full own [] → left pre (left (own ++ (r ∷ [])) []) ≡ []
    → (t : List Entry) × Fresh t × (map entry (scan (own ++ (r ∷ pre)) []) ≡ marks own ++ (mark r ++ t))
unfolding Reads left
cluster-reads own r pre f z =
    let q = left own [] in
    let e₁ : left pre (rest q r) ≡ [] = rw (left-append own (r ∷ []) []) at z in
    let room : length (rest q r) ≤ length pre = omega (arith, left-room pre (rest q r), ap length e₁) in
    let (t, fr, e) = tail-reads q r pre room in (
      t,
      fr,
      ap (map entry) (scan-append own (r ∷ pre) [])
          ∙ map-append (scan own []) (scan (r ∷ pre) q)
          ∙ ap (λ (l : List Entry). map entry (scan own []) ++ l) (e ∙ append_assoc q (mark r) t)
          ∙ sym (append_assoc (map entry (scan own [])) q (mark r ++ t))
          ∙ ap (λ (l : List Entry). l ++ (mark r ++ t)) (fifo own [] f),
    )

-- the words of a cluster: one that is not shifted, and then shifted ones
pub record Words (own : List (List ℕ)) (r : List ℕ) : Type 0 where
  pub head : ℕ
  pub tail : List ℕ
  pub are : scan (own ++ (r ∷ [])) [] ≡ head ∷ tail
  pub home : head / 4 % 2 ≡ 0
  pub shifted : Shifted tail
  pub count : length tail ≡ length own

words : (own : List (List ℕ)) (r : List ℕ) → Cluster (own ++ (r ∷ [])) → Words own r
unfolding scan Cluster Shifted
words [] r c = record { head = emit [] r; tail = []; are = refl; home = home-bit r; shifted = tt; count = refl }
words (s ∷ rs) r c =
    let ts = rs ++ (r ∷ []) in
    record {
      head = emit [] s;
      tail = scan ts (rest [] s);
      are = refl;
      home = home-bit s;
      shifted = busy-shifted ts (rest [] s) c;
      count = omega (arith, scan-length ts (rest [] s), length-append rs (r ∷ []));
    }

words_runs : (own : List (List ℕ)) (r : List ℕ) (w : Words own r) → fronts (w.head ∷ w.tail) ≡ filled own
unfolding scan
words_runs own r w =
    ap fronts (sym w.are ∙ scan-append own (r ∷ []) []) ∙ fronts-snoc (scan own []) (emit (left own []) r) ∙ occs-scan own []

full-count : (rs : List (List ℕ)) (q : List Entry) → Full rs q → length (left rs q) + length rs ≡ length q + total rs
unfolding Full left total
full-count [] q b = refl
full-count (r ∷ rs) q b = omega (arith, full-count rs (rest q r) b.1, rest-length q r)

found : (ys : List (List ℕ)) (r : List ℕ) → total (ys ++ (r ∷ [])) < length (ys ++ (r ∷ [])) → Found ys r (pend (ys ++ (r ∷ [])))
found ys r h = go (find ys r (pend (ys ++ (r ∷ []))))
  where
    go : Found ys r (pend (ys ++ (r ∷ []))) ⊎ Busy (ys ++ (r ∷ [])) (pend (ys ++ (r ∷ []))) → Found ys r (pend (ys ++ (r ∷ [])))
    go (inl f) = f
    go (inr b) = absurd (omega (arith, busy-count (ys ++ (r ∷ [])) (pend (ys ++ (r ∷ []))) b, ap length (seam (ys ++ (r ∷ [])) h)))

-- ---- decode ∘ layout

last_bit : (p : List ℕ) (w : ℕ) → get_or (reverse (p ++ (w ∷ []))) 0 0 ≡ w
last_bit p w = ap (λ (l : List ℕ). get_or l 0 0) (reverse_aux-append p (w ∷ []) [])

-- what the walks find in words that are a stretch p and then a cluster
ahead-at : (p x : List ℕ) (w : ℕ) → w / 4 % 2 ≡ 0 → Shifted x → ahead (p ++ (w ∷ x)) ≡ map entry ((w ∷ x) ++ p)
ahead-at p x w z s =
    let ws = p ++ (w ∷ x) in
    let n : length p ≡ length ws - suc (steps (reverse ws)) = omega (arith, steps_of p x w z s, length-append p (w ∷ x)) in
    ap (map entry) (ap₂ (λ (a : List ℕ) (b : List ℕ). a ++ b) (drop_at p (w ∷ x) _ n) (take_at p (w ∷ x) _ n))

-- all that the walks find of the last address of a circle
pub record Walked (ys : List (List ℕ)) (r : List ℕ) : Type 0 where
  pub own : List (List ℕ)
  pub after : List Entry
  pub fresh : Fresh after
  pub stepped : steps (reverse (layout (ys ++ (r ∷ [])))) ≡ length own
  pub met : passed (reverse (layout (ys ++ (r ∷ [])))) ≡ filled own
  pub seen : ahead (layout (ys ++ (r ∷ []))) ≡ marks own ++ (mark r ++ after)
  pub full : Full own []
  pub short : length own ≤ length ys
  pub waiting : left own [] ≡ left ys (pend (ys ++ (r ∷ [])))

pub walked : (ys : List (List ℕ)) (r : List ℕ) → total (ys ++ (r ∷ [])) < length (ys ++ (r ∷ [])) → Walked ys r
unfolding layout
walked ys r h =
    let zs = ys ++ (r ∷ []) in
    let q = pend zs in
    let f = found ys r h in
    let pre = f.pre in
    let own = f.own in
    let k = own ++ (r ∷ []) in
    let wd = words own r f.busy in
    let sp : zs ≡ pre ++ k = ap (λ (l : List (List ℕ)). l ++ (r ∷ [])) f.split ∙ append_assoc pre own (r ∷ []) in
    let qk : left k [] ≡ q =
    ap (left k) (sym f.none) ∙ sym (left-append pre k q) ∙ ap (λ (l : List (List ℕ)). left l q) (sym sp) ∙ seam zs h in
    let e₁ : layout zs ≡ scan pre q ++ (wd.head ∷ wd.tail) =
    ap (λ (l : List (List ℕ)). scan l q) sp ∙ scan-append pre k q
    ∙ ap (λ (l : List Entry). scan pre q ++ scan k l) f.none ∙ ap (λ (l : List ℕ). scan pre q ++ l) wd.are in
    let z : left pre (left k []) ≡ [] = ap (left pre) qk ∙ f.none in
    let fl = cluster-full own r f.busy in
    let (t, fr, rd) = cluster-reads own r pre fl z in
    let e₂ : (wd.head ∷ wd.tail) ++ scan pre q ≡ scan (own ++ (r ∷ pre)) [] =
    ap₂ (λ (a : List ℕ) (b : List Entry). a ++ scan pre b) (sym wd.are) (sym qk) ∙ sym (scan-append k pre [])
    ∙ ap (λ (l : List (List ℕ)). scan l []) (append_assoc own (r ∷ []) pre) in
    record {
      own = own;
      after = t;
      fresh = fr;
      stepped = ap (λ (l : List ℕ). steps (reverse l)) e₁ ∙ steps_of (scan pre q) wd.tail wd.head wd.home wd.shifted ∙ wd.count;
      met = ap (λ (l : List ℕ). passed (reverse l)) e₁ ∙ passed-of (scan pre q) wd.tail wd.head wd.home wd.shifted ∙ words_runs own r wd;
      seen = ap ahead e₁ ∙ ahead-at (scan pre q) wd.tail wd.head wd.home wd.shifted ∙ ap (map entry) e₂ ∙ rd;
      full = fl;
      short = omega (arith, ap length f.split, length-append pre own);
      waiting = ap (left own) (sym f.none) ∙ sym (left-append pre own q) ∙ ap (λ (l : List (List ℕ)). left l q) (sym f.split);
    }

run-found : (ys : List (List ℕ)) (x : ℕ) (xs : List ℕ) → total (ys ++ ((x ∷ xs) ∷ [])) < length (ys ++ ((x ∷ xs) ∷ [])) → reading (layout (ys ++ ((x ∷ xs) ∷ []))) ≡ x ∷ xs
run-found ys x xs h =
    let w = walked ys (x ∷ xs) h in
    ap₂ nth w.met w.seen ∙ nth-marks w.own x xs w.after w.fresh

fresh-run : (r : List ℕ) (t : List Entry) → Fresh t → Fresh (mark r ++ t)
unfolding Fresh mores mark
fresh-run [] t f = f
fresh-run (x ∷ xs) t f = refl

-- the run begins, or would begin, as many slots on as wait on arrival
pub last-place : (ys : List (List ℕ)) (r : List ℕ) → total (ys ++ (r ∷ [])) < length (ys ++ (r ∷ [])) → last_place (layout (ys ++ (r ∷ []))) ≡ length (left ys (pend (ys ++ (r ∷ []))))
unfolding last_place
last-place ys r h =
    let w = walked ys r h in
    let a : skip (passed (reverse (layout (ys ++ (r ∷ []))))) (ahead (layout (ys ++ (r ∷ [])))) ≡ total w.own =
    ap₂ skip w.met w.seen ∙ skip-marks w.own (mark r ++ w.after) (fresh-run r w.after w.fresh) in
    ap₂ ◌-◌ a w.stepped ∙ (omega (arith, full-count w.own [] w.full, ap length w.waiting))

layout-last : (ys : List (List ℕ)) (r : List ℕ) → get_or (reverse (layout (ys ++ (r ∷ [])))) 0 0 % 2 ≡ occupied r
unfolding layout scan
layout-last ys r =
    let q = pend (ys ++ (r ∷ [])) in
    ap (λ (l : List ℕ). get_or (reverse l) 0 0 % 2) (scan-append ys (r ∷ []) q)
    ∙ ap (λ (k : ℕ). k % 2) (last_bit (scan ys q) (emit (left ys q) r))
    ∙ occupied-bit (left ys q) r

pub last-run : (ys : List (List ℕ)) (r : List ℕ) → total (ys ++ (r ∷ [])) < length (ys ++ (r ∷ [])) → last_run (layout (ys ++ (r ∷ []))) ≡ r
unfolding last_run
last-run ys [] h = ap (λ (k : ℕ). stop' k (reading (layout (ys ++ ([] ∷ []))))) (layout-last ys [])
last-run ys (x ∷ xs) h =
    ap (λ (k : ℕ). stop' k (reading (layout (ys ++ ((x ∷ xs) ∷ []))))) (layout-last ys (x ∷ xs)) ∙ run-found ys x xs h

-- the layout of a circle that is begun at c is the layout begun at c
pub turn-layout : (c : ℕ) (runs : List (List ℕ)) → c ≤ length runs → total runs < length runs → turn c (layout runs) ≡ layout (turn c runs)
turn-layout c runs hc h =
    let a = take c runs in
    let b = drop c runs in
    let sp : a ++ b ≡ runs = take-append-drop c runs in
    let h₁ : total (a ++ b) < length (a ++ b) = rw sp h in
    let n : length (scan a (pend (a ++ b))) ≡ c = scan-length a (pend (a ++ b)) ∙ length-take-le c runs hc in
    ap (λ (l : List (List ℕ)). turn c (layout l)) (sym sp)
    ∙ ap (turn c) (layout-split a b h₁)
    ∙ ap₂ (λ (u : List ℕ) (v : List ℕ). u ++ v) (drop_at (scan a (pend (a ++ b))) (scan b (pend (b ++ a))) c n) (take_at (scan a (pend (a ++ b))) (scan b (pend (b ++ a))) c n)
    ∙ sym (layout-split b a (omega (arith, total-append a b, total-append b a, length-append a b, length-append b a)))

-- THE KEY: the run of each address is read back
pub run-at : (runs : List (List ℕ)) (c : ℕ) → c < length runs → total runs < length runs → run_at (layout runs) c ≡ get_or runs c []
unfolding run_at
run-at runs c hc h =
    let r = get_or runs c [] in
    let a = take c runs in
    let b = drop (suc c) runs in
    let sp : runs ≡ a ++ (r ∷ b) = split_at runs c [] hc in
    let tk : take (suc c) runs ≡ a ++ (r ∷ []) = lib.Seq.take-suc runs c [] hc in
    let e : turn (suc c) runs ≡ (b ++ a) ++ (r ∷ []) = ap (λ (l : List (List ℕ)). b ++ l) tk ∙ sym (append_assoc b a (r ∷ [])) in
    let hl : length (take (suc c) runs ++ b) ≡ length runs = ap length (take-append-drop (suc c) runs) in
    let ht : total (take (suc c) runs ++ b) ≡ total runs = ap total (take-append-drop (suc c) runs) in
    let h₁ : total (turn (suc c) runs) < length (turn (suc c) runs) =
    omega (arith, hl, ht, total-append (take (suc c) runs) b, total-append b (take (suc c) runs), length-append (take (suc c) runs) b, length-append b (take (suc c) runs)) in
    ap last_run (turn-layout (suc c) runs hc h ∙ ap layout e) ∙ last-run (b ++ a) r (rw e at h₁)

-- decode ∘ layout is the identity
runs-from : (runs : List (List ℕ)) → total runs < length runs → (n c : ℕ) → c + n ≡ length runs → runs_from (layout runs) c n ≡ drop c runs
unfolding runs_from
runs-from runs h zero c e = sym (lib.ListN.drop_of_length-le runs {i = c} (omega arith))
runs-from runs h (suc n) c e =
    ap₂ (λ (r : List ℕ) (l : List (List ℕ)). r ∷ l) (run-at runs c (omega arith) h) (runs-from runs h n (suc c) (omega arith))
    ∙ sym (lib.Seq.drop-cons runs c [] (omega arith))

pub decode-layout : (runs : List (List ℕ)) → total runs < length runs → decode (layout runs) ≡ runs
unfolding decode layout
decode-layout runs h =
    ap (runs_from (layout runs) 0) (scan-length runs (pend runs)) ∙ runs-from runs h (length runs) 0 (omega arith)

-- so two layouts that are the same are of the same runs
pub layout-injective : (a b : List (List ℕ)) → total a < length a → total b < length b → layout a ≡ layout b → a ≡ b
layout-injective a b ha hb e = sym (decode-layout a ha) ∙ ap decode e ∙ decode-layout b hb

-- the walk to the left ends within the circle
pub steps-small : (runs : List (List ℕ)) (c : ℕ) → c < length runs → total runs < length runs → steps (reverse (turn (suc c) (layout runs))) < length runs
steps-small runs c hc h =
    let r = get_or runs c [] in
    let a = take c runs in
    let b = drop (suc c) runs in
    let tk : take (suc c) runs ≡ a ++ (r ∷ []) = lib.Seq.take-suc runs c [] hc in
    let e : turn (suc c) runs ≡ (b ++ a) ++ (r ∷ []) = ap (λ (l : List (List ℕ)). b ++ l) tk ∙ sym (append_assoc b a (r ∷ [])) in
    let hl : length (take (suc c) runs ++ b) ≡ length runs = ap length (take-append-drop (suc c) runs) in
    let ht : total (take (suc c) runs ++ b) ≡ total runs = ap total (take-append-drop (suc c) runs) in
    let n : length (turn (suc c) runs) ≡ length runs = omega (arith, hl, length-append (take (suc c) runs) b, length-append b (take (suc c) runs)) in
    let h₁ : total (turn (suc c) runs) < length (turn (suc c) runs) =
    omega (arith, ht, total-append (take (suc c) runs) b, total-append b (take (suc c) runs)) in
    let w = walked (b ++ a) r (rw e at h₁) in
    let q : steps (reverse (turn (suc c) (layout runs))) ≡ length w.own =
    ap (λ (l : List ℕ). steps (reverse l)) (turn-layout (suc c) runs hc h ∙ ap layout e) ∙ w.stepped in
    let s = w.short in
    omega (arith, ap length e, length-append (b ++ a) (r ∷ []))
