-- A circle is walked in two straight parts, before and behind the seam. Each part is a plain list, walked by its own loop; a walk that comes to the end of the
-- first part goes on in the second with what it has counted.
use mathlib.Core.Path.{◌≡◌, refl, sym, ap, ap₂, ◌∙◌}
use mathlib.Core.List.{List, [], ◌∷◌, ◌++◌, map, map-append, reverse, reverse-append}
use Prim.Native.Nat.{ℕ, zero, suc, ◌+◌, ◌-◌, ◌/◌, ◌%◌, ◌≤◌, ◌<◌}
use native.Mathlib.Omega.{arith}
use native.Mathlib.Numerals.{add-one}
use lib.ListN.{length, take, drop, get_or, length-reverse, length-map, length-drop, drop_of_length-le, get_or-map}
use Rattle.std.proofs.lemmas.List.{get_or-take, get_or-drop}
use lib.Seq.{take_all, take-suc, drop-cons, length-take-le}
use Rattle.lists.specs.Lists.{sum}
use Rattle.layout.specs.Machine.{Entry, start, more}
use Rattle.layout.specs.Decode.{entry, entry_of, stop, steps, first_mark, passed, skip}
use Rattle.layout.specs.Moves.{lefts, rights, is_start}
use Rattle.walks.specs.Stretch.{stretch}

-- ---- a part

pub stretch-first : (ws : List ℕ) (end : ℕ) → stretch 0 end ws ≡ take end ws
stretch-first ws end = let all : end - 0 ≡ end = omega arith in ap (λ (k : ℕ). take k ws) all

pub stretch-last : (ws : List ℕ) (from end : ℕ) → end ≡ length ws → stretch from end ws ≡ drop from ws
stretch-last ws from end e = take_all (end - from) (drop from ws) (omega (arith, length-drop from ws))

module _ (ws : List ℕ) (from end : ℕ) (h : end ≤ length ws) where
  pub stretch-length : length (stretch from end ws) ≡ end - from
  stretch-length = length-take-le (end - from) (drop from ws) (omega (arith, length-drop from ws))

  pub stretch-word : (i : ℕ) → from ≤ i → i < end → get_or ws i 0 ≡ get_or (stretch from end ws) (i - from) 0
  stretch-word i f e =
      let there : from + (i - from) ≡ i = omega arith in
      sym (get_or-take (end - from) (drop from ws) (i - from) 0 (omega arith) ∙ get_or-drop from ws (i - from) 0 ∙ ap (λ (j : ℕ). get_or ws j 0) there)

-- ---- to the left

-- the occupied bits of the slots that a walk comes to, with the first one's
abbrev pub marks : List ℕ → ℕ
marks l = first_mark l + passed l

-- the slots from i on are passed, with m occupied bits: what is still to come
pub record Homing (l : List ℕ) (i m : ℕ) : Type 0 where
  pub walk : steps (reverse l) + i ≡ length l + steps (reverse (take i l))
  pub runs : marks (reverse l) ≡ m + marks (reverse (take i l))
  pub few : m + i ≤ length l

module _ (l : List ℕ) (i j m w b : ℕ) (p : Homing l i m) (ej : i ≡ suc j) (h : j < length l) (e : w ≡ get_or l j 0) (eb : b ≡ w % 2) where
  cut : reverse (take i l) ≡ w ∷ reverse (take j l)
  cut =
      ap (λ (k : ℕ). reverse (take k l)) ej ∙ ap reverse (take-suc l j 0 h) ∙ reverse-append (take j l) (get_or l j 0 ∷ [])
      ∙ ap (λ (x : ℕ). x ∷ reverse (take j l)) (sym e)

  walked : steps (reverse l) + i ≡ length l + stop (w / 4 % 2) (suc (steps (reverse (take j l))))
  unfolding steps
  walked = p.walk ∙ ap (λ (t : List ℕ). length l + steps t) cut

  marked : marks (reverse l) ≡ m + (b + stop (w / 4 % 2) (marks (reverse (take j l))))
  unfolding passed
  marked = p.runs ∙ ap (λ (t : List ℕ). m + marks t) cut ∙ ap (λ (x : ℕ). m + (x + stop (w / 4 % 2) (marks (reverse (take j l))))) (sym eb)

  pub homing-stop : w / 4 % 2 ≡ 0 → (steps (reverse l) ≡ length l - i) × (marks (reverse l) ≡ m + b)
  homing-stop z =
      let s = walked ∙ ap (λ (f : ℕ). length l + stop f (suc (steps (reverse (take j l))))) z in
      let t = marked ∙ ap (λ (f : ℕ). m + (b + stop f (marks (reverse (take j l))))) z in
      (omega (arith, s), omega (arith, t))

  shifted-is : (f : ℕ) → f < 2 → (f ≡ 0 → ⊥) → f ≡ 1
  shifted-is f x y = omega arith

  pub homing-on : (w / 4 % 2 ≡ 0 → ⊥) → Homing l j (m + b)
  homing-on nz =
      let o : w / 4 % 2 ≡ 1 = shifted-is (w / 4 % 2) (omega arith) nz in
      let s = walked ∙ ap (λ (f : ℕ). length l + stop f (suc (steps (reverse (take j l))))) o in
      let t = marked ∙ ap (λ (f : ℕ). m + (b + stop f (marks (reverse (take j l))))) o in
      let few = p.few in
      record { walk = omega (arith, s); runs = omega (arith, t); few = omega arith }

pub homing-end : (l : List ℕ) (i m : ℕ) → Homing l i m → i ≡ 0 → (steps (reverse l) ≡ length l) × (marks (reverse l) ≡ m)
unfolding steps passed
homing-end l i m p z = (
  omega (arith, p.walk, ap (λ (k : ℕ). steps (reverse (take k l))) z),
  omega (arith, p.runs, ap (λ (k : ℕ). marks (reverse (take k l))) z),
)

-- a walk that ends in the first part, and one that does not
near : (a b : List ℕ) → steps a < length a → (steps (a ++ b) ≡ steps a) × (marks (a ++ b) ≡ marks a)
unfolding steps passed
near [] b h = absurd (omega arith)
near (w ∷ a) b h = go (w / 4 % 2) h (near a b)
  where
    go : (f : ℕ) → stop f (suc (steps a)) < suc (length a) → (steps a < length a → (steps (a ++ b) ≡ steps a) × (marks (a ++ b) ≡ marks a))
        → (stop f (suc (steps (a ++ b))) ≡ stop f (suc (steps a))) × (w % 2 + stop f (marks (a ++ b)) ≡ w % 2 + stop f (marks a))
    go zero g ih = (refl, refl)
    go (suc f) g ih =
        let r = ih (omega arith) in
        (ap suc r.0, ap (λ (x : ℕ). w % 2 + x) r.1)

far : (a b : List ℕ) → length a ≤ steps a → (steps (a ++ b) ≡ length a + steps b) × (marks (a ++ b) ≡ marks a + marks b)
unfolding steps passed
far [] b h = (omega arith, omega arith)
far (w ∷ a) b h = go (w / 4 % 2) h (far a b)
  where
    go : (f : ℕ) → suc (length a) ≤ stop f (suc (steps a)) → (length a ≤ steps a → (steps (a ++ b) ≡ length a + steps b) × (marks (a ++ b) ≡ marks a + marks b))
        → (stop f (suc (steps (a ++ b))) ≡ suc (length a) + steps b) × (w % 2 + stop f (marks (a ++ b)) ≡ w % 2 + stop f (marks a) + marks b)
    go zero g ih = absurd (omega arith)
    go (suc f) g ih =
        let r = ih (omega arith) in
        (omega (arith, r.0), omega (arith, r.1))

-- the circle to the left of c, in its two parts: own is the occupied bit of c, s and m are what the first part gives
module _ (ws : List ℕ) (c own s m : ℕ) (hc : c < length ws) (eo : own ≡ get_or ws c 0 % 2) (part : List ℕ) (ep : part ≡ take (c + 1) ws)
    (es : steps (reverse part) ≡ s) (em : marks (reverse part) ≡ m) where
  parts : (rest : List ℕ) → rest ≡ drop (c + 1) ws → lefts ws c ≡ reverse part ++ reverse rest
  parts rest er =
      reverse-append (drop (suc c) ws) (take (suc c) ws) ∙ ap (λ (k : ℕ). reverse (take k ws) ++ reverse (drop k ws)) (sym (add-one c))
      ∙ ap₂ (λ (a b : List ℕ). reverse a ++ reverse b) (sym ep) (sym er)

  size : length (reverse part) ≡ c + 1
  size = length-reverse part ∙ ap length ep ∙ length-take-le (c + 1) ws (omega arith)

  head : reverse part ≡ get_or ws c 0 ∷ reverse (take c ws)
  head =
      ap reverse (ep ∙ ap (λ (k : ℕ). take k ws) (add-one c) ∙ take-suc ws c 0 hc) ∙ reverse-append (take c ws) (get_or ws c 0 ∷ [])

  first : first_mark (lefts ws c) ≡ own
  first = ap first_mark (parts (drop (c + 1) ws) refl ∙ ap (λ (t : List ℕ). t ++ reverse (drop (c + 1) ws)) head) ∙ sym eo

  pub home-near : s ≤ c → (steps (lefts ws c) ≡ s) × (passed (lefts ws c) ≡ m - own)
  home-near h =
      let p = parts (drop (c + 1) ws) refl in
      let r = near (reverse part) (reverse (drop (c + 1) ws)) (omega (arith, size, es)) in
      (ap steps p ∙ r.0 ∙ es, omega (arith, ap marks p ∙ r.1 ∙ em, first))

  pub home-far : c < s → (rest : List ℕ) → rest ≡ drop (c + 1) ws → (s' m' : ℕ) → steps (reverse rest) ≡ s' → marks (reverse rest) ≡ m'
      → (steps (lefts ws c) ≡ c + 1 + s') × (passed (lefts ws c) ≡ m + m' - own)
  home-far h rest er s' m' es' em' =
      let p = parts rest er in
      let r = far (reverse part) (reverse rest) (omega (arith, size, es)) in
      (ap steps p ∙ r.0 ∙ ap₂ ◌+◌ size es', omega (arith, ap marks p ∙ r.1 ∙ ap₂ ◌+◌ em em', first))

-- ---- to the right

-- k slots of the part are passed, and togo runs are still to be skipped
pub record Skipping (ws : List ℕ) (goal k togo : ℕ) : Type 0 where
  pub place : skip goal (map entry ws) ≡ k + skip togo (drop k (map entry ws))
  pub rest : goal - sum is_start (map entry ws) ≡ togo - sum is_start (drop k (map entry ws))

module _ (ws : List ℕ) (goal k togo w s : ℕ) (p : Skipping ws goal k togo) (h : k < length ws) (e : w ≡ get_or ws k 0) (es : s ≡ 1 - w / 2 % 2) where
  after : List Entry
  after = drop (suc k) (map entry ws)

  cut' : drop k (map entry ws) ≡ entry_of (w / 2 % 2) (w / 8) ∷ after
  unfolding entry after
  cut' =
      drop-cons (map entry ws) k (start 0) (omega (arith, length-map ws entry))
      ∙ ap (λ (x : Entry). x ∷ after) (get_or-map entry ws k 0 ∙ ap entry (sym e))

  begun : (f x : ℕ) → s ≡ 1 - f → is_start (entry_of f x) ≡ s
  begun zero x z = sym z
  begun (suc f) x z = omega arith

  starts : sum is_start (drop k (map entry ws)) ≡ s + sum is_start after
  unfolding sum
  starts = ap (sum is_start) cut' ∙ ap (λ (x : ℕ). x + sum is_start after) (begun (w / 2 % 2) (w / 8) es)

  pub skipping-found : togo < s → (skip goal (map entry ws) ≡ k) × (0 ≡ goal - sum is_start (map entry ws))
  skipping-found g = (p.place ∙ ap (λ (t : List Entry). k + skip togo t) cut' ∙ go (w / 2 % 2) togo es g, omega (arith, p.rest, starts))
    where
      go : (f t : ℕ) → s ≡ 1 - f → t < s → k + skip t (entry_of f (w / 8) ∷ after) ≡ k
      go zero zero z y = unfold skip in omega arith
      go zero (suc t) z y = absurd (omega arith)
      go (suc f) t z y = absurd (omega arith)

  pub skipping-on : s ≤ togo → Skipping ws goal (k + 1) (togo - s)
  unfolding after skip
  skipping-on g =
      let i : suc k ≡ k + 1 = omega arith in
      record {
        place =
            p.place ∙ ap (λ (t : List Entry). k + skip togo t) cut' ∙ go (w / 2 % 2) togo es g
            ∙ ap (λ (j : ℕ). k + suc (skip (togo - s) (drop j (map entry ws)))) i ∙ (omega arith);
        rest = omega (arith, p.rest, starts, ap (λ (j : ℕ). sum is_start (drop j (map entry ws))) i);
      }
    where
      go : (f t : ℕ) → s ≡ 1 - f → s ≤ t → k + skip t (entry_of f (w / 8) ∷ after) ≡ k + suc (skip (t - s) after)
      go zero zero z y = absurd (omega arith)
      go zero (suc t) z y =
          let d : t ≡ suc t - s = omega arith in
          ap (λ (j : ℕ). k + suc (skip j after)) d
      go (suc f) t z y =
          let d : t ≡ t - s = omega arith in
          ap (λ (j : ℕ). k + suc (skip j after)) d

pub skipping-end : (ws : List ℕ) (goal k togo : ℕ) → Skipping ws goal k togo → length ws ≤ k
    → (skip goal (map entry ws) ≡ k) × (togo ≡ goal - sum is_start (map entry ws))
skipping-end ws goal k togo p h =
    let z : drop k (map entry ws) ≡ [] = drop_of_length-le (map entry ws) {i = k} (omega (arith, length-map ws entry)) in (
      p.place ∙ ap (λ (t : List Entry). k + skip togo t) z ∙ (unfold skip in omega arith),
      sym (p.rest ∙ ap (λ (t : List Entry). togo - sum is_start t) z ∙ (unfold sum in omega arith)),
    )

skip-near : (m : ℕ) (a b : List Entry) → skip m a < length a → skip m (a ++ b) ≡ skip m a
unfolding skip
skip-near m [] b h = absurd (omega arith)
skip-near m (more p ∷ a) b h = ap suc (skip-near m a b (omega arith))
skip-near zero (start p ∷ a) b h = refl
skip-near (suc m) (start p ∷ a) b h = ap suc (skip-near m a b (omega arith))

skip-far : (m : ℕ) (a b : List Entry) → length a ≤ skip m a → skip m (a ++ b) ≡ length a + skip (m - sum is_start a) b
unfolding skip sum
skip-far m [] b h =
    let d : m ≡ m - 0 = omega arith in
    ap (λ (j : ℕ). skip j b) d ∙ (omega arith)
skip-far m (more p ∷ a) b h =
    let d : m - sum is_start a ≡ m - (0 + sum is_start a) = omega arith in
    ap suc (skip-far m a b (omega arith)) ∙ ap (λ (j : ℕ). suc (length a + skip j b)) d ∙ (omega arith)
skip-far zero (start p ∷ a) b h = absurd (omega arith)
skip-far (suc m) (start p ∷ a) b h =
    let d : m - sum is_start a ≡ suc m - (1 + sum is_start a) = omega arith in
    ap suc (skip-far m a b (omega arith)) ∙ ap (λ (j : ℕ). suc (length a + skip j b)) d ∙ (omega arith)

-- the circle to the right of b, in its two parts
module _ (ws : List ℕ) (b m s : ℕ) (hb : b < length ws) (part : List ℕ) (ep : part ≡ drop b ws) (es : skip m (map entry part) ≡ s) where
  size' : length (map entry part) ≡ length ws - b
  size' = length-map part entry ∙ ap length ep ∙ length-drop b ws

  parts' : (rest : List ℕ) → rest ≡ take b ws → rights ws b ≡ map entry part ++ map entry rest
  parts' rest er = map-append entry (drop b ws) (take b ws) ∙ ap₂ (λ (x y : List ℕ). map entry x ++ map entry y) (sym ep) (sym er)

  pub seek-near : s < length ws - b → skip m (rights ws b) ≡ s
  seek-near h =
      ap (skip m) (parts' (take b ws) refl) ∙ skip-near m (map entry part) (map entry (take b ws)) (omega (arith, size', es)) ∙ es

  pub seek-far : length ws - b ≤ s → (rest : List ℕ) → rest ≡ take b ws → (togo s' : ℕ) → togo ≡ m - sum is_start (map entry part)
      → skip togo (map entry rest) ≡ s' → skip m (rights ws b) ≡ length ws - b + s'
  seek-far h rest er togo s' et es' =
      ap (skip m) (parts' rest er) ∙ skip-far m (map entry part) (map entry rest) (omega (arith, size', es))
      ∙ ap₂ ◌+◌ size' (ap (λ (t : ℕ). skip t (map entry rest)) (sym et) ∙ es')
