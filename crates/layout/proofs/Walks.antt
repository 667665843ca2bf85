-- The steps of the loops that only read.
use mathlib.Core.Path.{◌≡◌, refl, sym, ap, ap₂, ◌∙◌}
use mathlib.Core.List.{List, [], ◌∷◌, map, reverse}
use Prim.Native.Nat.{ℕ, zero, suc, ◌+◌, ◌-◌, ◌/◌, ◌%◌, ◌≤◌, ◌<◌}
use native.Mathlib.Omega.{arith}
use lib.ListN.{length, drop, get_or, length-reverse, length-map}
use lib.Seq.{drop-cons}
use Rattle.layout.specs.Machine.{Entry, start}
use Rattle.layout.specs.Decode.{turn, entry, entry_of, stop, steps, first_mark, passed, skip, ahead, last_place, place_of}
use Rattle.layout.proofs.Same.{turn-length}
use Rattle.layout.proofs.Bridge.{get-wrap, get-back, turn-home}
use Rattle.layout.specs.Moves.{back, lefts, rights, wrap}

pub lefts-length : (ws : List ℕ) (c : ℕ) → length (lefts ws c) ≡ length ws
lefts-length ws c = length-reverse (turn (suc c) ws) ∙ turn-length (suc c) ws

-- k slots are passed, with m occupied bits: what is still to come
pub record Left (l : List ℕ) (k m : ℕ) : Type 0 where
  pub walk : steps l ≡ k + steps (drop k l)
  pub runs : passed l ≡ m + passed (drop k l)

pub left-start : (l : List ℕ) → Left l 0 0
left-start l = record { walk = omega arith; runs = omega arith }

module _ (l : List ℕ) (k m : ℕ) (w : ℕ) (h : k < length l) (e : w ≡ get_or l k 0) (p : Left l k m) where
  cut : drop k l ≡ w ∷ drop (suc k) l
  cut = drop-cons l k 0 h ∙ ap (λ (x : ℕ). x ∷ drop (suc k) l) (sym e)

  pub left-stop : w / 4 % 2 ≡ 0 → (steps l ≡ k) × (passed l ≡ m)
  unfolding steps passed
  left-stop z = (
    p.walk ∙ ap (λ (t : List ℕ). k + steps t) cut ∙ ap (λ (b : ℕ). k + stop b (suc (steps (drop (suc k) l)))) z ∙ (omega arith),
    p.runs ∙ ap (λ (t : List ℕ). m + passed t) cut ∙ ap (λ (b : ℕ). m + stop b (first_mark (drop (suc k) l) + passed (drop (suc k) l))) z ∙ (omega arith),
  )

  shifted-is : (b : ℕ) → b < 2 → (b ≡ 0 → ⊥) → b ≡ 1
  shifted-is b x y = omega arith

  pub left-on : (w / 4 % 2 ≡ 0 → ⊥) → (m' : ℕ) → m' ≡ m + first_mark (drop (k + 1) l) → Left l (k + 1) m'
  unfolding steps passed
  left-on nz m' em =
      let o : w / 4 % 2 ≡ 1 = shifted-is (w / 4 % 2) (omega arith) nz in
      let s : suc k ≡ k + 1 = omega arith in
      record {
        walk =
            p.walk ∙ ap (λ (t : List ℕ). k + steps t) cut ∙ ap (λ (b : ℕ). k + stop b (suc (steps (drop (suc k) l)))) o
            ∙ ap (λ (j : ℕ). k + suc (steps (drop j l))) s ∙ (omega arith);
        runs =
            p.runs ∙ ap (λ (t : List ℕ). m + passed t) cut ∙ ap (λ (b : ℕ). m + stop b (first_mark (drop (suc k) l) + passed (drop (suc k) l))) o
            ∙ ap (λ (j : ℕ). m + (first_mark (drop j l) + passed (drop j l))) s ∙ (omega arith);
      }

pub left_end : (l : List ℕ) (k m : ℕ) → length l ≤ k → Left l k m → (steps l ≡ k) × (passed l ≡ m)
unfolding steps passed
left_end l k m h p =
    let z : drop k l ≡ [] = lib.ListN.drop_of_length-le l {i = k} h in
    (p.walk ∙ ap (λ (t : List ℕ). k + steps t) z ∙ (omega arith), p.runs ∙ ap (λ (t : List ℕ). m + passed t) z ∙ (omega arith))

pub first_mark-in : (l : List ℕ) (k : ℕ) → k < length l → first_mark (drop k l) ≡ get_or l k 0 % 2
first_mark-in l k h = ap first_mark (drop-cons l k 0 h)

pub first_mark-out : (l : List ℕ) (k : ℕ) → length l ≤ k → first_mark (drop k l) ≡ 0
first_mark-out l k h = ap first_mark (lib.ListN.drop_of_length-le l {i = k} h)

-- the word that the code reads
pub seen : (ws : List ℕ) (c k n i : ℕ) → c < n → k < n → length ws ≡ n → i ≡ back n c k → get_or ws i 0 ≡ get_or (lefts ws c) k 0
seen ws c k n i hc hk hn e =
    ap (λ (j : ℕ). get_or ws j 0) (e ∙ ap (λ (m : ℕ). back m c k) (sym hn)) ∙ get-back ws c k (omega arith) (omega arith) 0

-- ---- to the right

-- k slots are passed, and m runs are still to be skipped
pub Right : List Entry → ℕ → ℕ → ℕ → Type 0
Right l goal k m = skip goal l ≡ k + skip m (drop k l)

pub right-start : (l : List Entry) (goal : ℕ) → Right l goal 0 goal
unfolding Right
right-start l goal = omega arith

module _ (l : List Entry) (goal k m : ℕ) (f p : ℕ) (h : k < length l) (e : get_or l k (start 0) ≡ entry_of f p) (r : Right l goal k m) where
  cut' : drop k l ≡ entry_of f p ∷ drop (suc k) l
  cut' = drop-cons l k (start 0) h ∙ ap (λ (x : Entry). x ∷ drop (suc k) l) e

  pub right-found : f ≡ 0 → m ≡ 0 → skip goal l ≡ k
  unfolding Right skip
  right-found z y =
      r ∙ ap (λ (t : List Entry). k + skip m t) cut' ∙ ap₂ (λ (b j : ℕ). k + skip j (entry_of b p ∷ drop (suc k) l)) z y ∙ (omega arith)

  pub right-run : f ≡ 0 → (m' : ℕ) → m ≡ suc m' → Right l goal (k + 1) m'
  unfolding Right skip
  right-run z m' y =
      let s : suc k ≡ k + 1 = omega arith in
      r ∙ ap (λ (t : List Entry). k + skip m t) cut' ∙ ap₂ (λ (b j : ℕ). k + skip j (entry_of b p ∷ drop (suc k) l)) z y
      ∙ ap (λ (j : ℕ). k + suc (skip m' (drop j l))) s ∙ (omega arith)

  pub right-more : (f ≡ 0 → ⊥) → Right l goal (k + 1) m
  unfolding Right skip
  right-more nz =
      let s : suc k ≡ k + 1 = omega arith in
      r ∙ ap (λ (t : List Entry). k + skip m t) cut' ∙ go f nz ∙ ap (λ (j : ℕ). k + suc (skip m (drop j l))) s ∙ (omega arith)
    where
      go : (b : ℕ) → (b ≡ 0 → ⊥) → k + skip m (entry_of b p ∷ drop (suc k) l) ≡ k + suc (skip m (drop (suc k) l))
      go zero n = absurd (n refl)
      go (suc b) n = refl

pub right_end : (l : List Entry) (goal k m : ℕ) → length l ≤ k → Right l goal k m → skip goal l ≡ k
unfolding Right skip
right_end l goal k m h r = r ∙ ap (λ (t : List Entry). k + skip m t) (lib.ListN.drop_of_length-le l {i = k} h) ∙ (omega arith)

pub rights-length : (ws : List ℕ) (b : ℕ) → length (rights ws b) ≡ length ws
rights-length ws b = length-map (turn b ws) entry ∙ turn-length b ws

pub read : (ws : List ℕ) (b k n i : ℕ) → b < n → k < n → length ws ≡ n → i ≡ wrap n b k → get_or (rights ws b) k (start 0) ≡ entry_of (get_or ws i 0 / 2 % 2) (get_or ws i 0 / 8)
unfolding entry
read ws b k n i hb hk hn e =
    lib.ListN.get_or-map entry (turn b ws) k 0
    ∙ ap entry (sym (get-wrap ws b k (omega arith) (omega arith) 0) ∙ ap (λ (m : ℕ). get_or ws (wrap m b k) 0) hn ∙ ap (λ (j : ℕ). get_or ws j 0) (sym e))

-- from the walks to the place
pub placed : (ws : List ℕ) (c k m b s : ℕ) → c < length ws → k < length ws → steps (lefts ws c) ≡ k → passed (lefts ws c) ≡ m → b ≡ back (length ws) c k → skip m (rights ws b) ≡ s
    → place_of ws c ≡ s - k
unfolding place_of last_place
placed ws c k m b s hc hk ek em eb es =
    let t = turn (suc c) ws in
    let i : length t - suc (steps (reverse t)) ≡ length ws - suc k = ap₂ (λ (x y : ℕ). x - suc y) (turn-length (suc c) ws) ek in
    let a : ahead t ≡ rights ws b =
    ap (λ (x : ℕ). map entry (turn x t)) i ∙ ap (map entry) (turn-home ws c k hc hk) ∙ ap (rights ws) (sym eb) in
    ap₂ ◌-◌ (ap₂ skip em a ∙ es) ek
