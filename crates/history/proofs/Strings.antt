-- Known low bits of numbers ("strings"), and the counting condition under which the strings of one list can be dealt out to those of another, each to one that
-- continues it. It is kept when a string is cut to a prefix, if no dealt string on its path is longer: shown by climbing the path bit by bit. A list stands for
-- its multiset, all by sums.
use mathlib.Core.Path.{◌≡◌, refl, sym, ap, ap₂, ◌∙◌, subst}
use mathlib.Core.Bool.{Bool, true, false, ◌&&◌}
use mathlib.Core.List.{List, ◌∷◌}
use Prim.Native.Nat.{ℕ, zero, suc, ◌+◌, ◌*◌, ◌/◌, ◌%◌, ◌^◌, ◌≤◌, ◌<◌}
use native.Mathlib.Omega.{arith}
use native.Mathlib.Nat.{pow-zero, mod-one, mod-lt}
use native.Mathlib.Decide.{dec_le, dec_lt, ℕ_discrete}
use lib.Dec.{leb, ltb, eqb}
use lib.Pow.{pow_pos, mod-pow-add}
use lib.ListN.{length}
use borrow.Author.Tests.{le-leb, lt-leb, lt-ltb, le-ltb, eq-eqb, ne_eqb}
use Rattle.lists.specs.Lists.{bit, sum}
use Rattle.lists.proofs.Sums.{Same, sum-le, sum-two, sum-three, sum-zero, sum_one, same_length}
use Rattle.keeps.proofs.Mothers.{low_bits}

-- a number of which the lowest len bits are known, those of val
pub record Item : Type 0 where
  pub len : ℕ
  pub val : ℕ

-- 1 where both tests hold
abbrev both : Bool → Bool → ℕ
both a b = bit (a && b)

-- 1 where i has at least n bits, and the lowest n are u
unfoldable pub ind : ℕ → ℕ → Item → ℕ
ind n u i = both (leb n i.len) (eqb (i.val % 2 ^ n) u)

-- 1 where i has just n bits, and they are u
unfoldable exact : ℕ → ℕ → Item → ℕ
exact n u i = both (eqb i.len n) (eqb (i.val % 2 ^ n) u)

-- 1 where i has fewer than j bits, and they are those of h
unfoldable pub under : ℕ → ℕ → Item → ℕ
under j h i = both (ltb i.len j) (eqb (i.val % 2 ^ i.len) (h % 2 ^ i.len))

-- ---- the indicators

both_false : (b : Bool) → both b false ≡ 0
both_false true = refl
both_false false = refl

ind-yes : (n u : ℕ) (i : Item) → n ≤ i.len → i.val % 2 ^ n ≡ u → ind n u i ≡ 1
unfolding ind
ind-yes n u i h e = ap₂ both (le-leb n i.len h) (eq-eqb _ u e)

ind-short : (n u : ℕ) (i : Item) → i.len < n → ind n u i ≡ 0
unfolding ind
ind-short n u i h = ap (λ b. both b (eqb (i.val % 2 ^ n) u)) (lt-leb n i.len h)

ind-other : (n u : ℕ) (i : Item) → (i.val % 2 ^ n ≡ u → ⊥) → ind n u i ≡ 0
unfolding ind
ind-other n u i ne = ap (both (leb n i.len)) (ne_eqb _ u ne) ∙ both_false (leb n i.len)

exact-yes : (n u : ℕ) (i : Item) → i.len ≡ n → i.val % 2 ^ n ≡ u → exact n u i ≡ 1
unfolding exact
exact-yes n u i l e = ap₂ both (eq-eqb _ n l) (eq-eqb _ u e)

exact-len : (n u : ℕ) (i : Item) → (i.len ≡ n → ⊥) → exact n u i ≡ 0
unfolding exact
exact-len n u i ne = ap (λ b. both b (eqb (i.val % 2 ^ n) u)) (ne_eqb _ n ne)

exact-other : (n u : ℕ) (i : Item) → (i.val % 2 ^ n ≡ u → ⊥) → exact n u i ≡ 0
unfolding exact
exact-other n u i ne = ap (both (eqb i.len n)) (ne_eqb _ u ne) ∙ both_false (eqb i.len n)

pub under-yes : (j h : ℕ) (i : Item) → i.len < j → i.val % 2 ^ i.len ≡ h % 2 ^ i.len → under j h i ≡ 1
unfolding under
under-yes j h i l e = ap₂ both (lt-ltb _ j l) (eq-eqb _ _ e)

pub under-long : (j h : ℕ) (i : Item) → j ≤ i.len → under j h i ≡ 0
unfolding under
under-long j h i l = ap (λ b. both b (eqb (i.val % 2 ^ i.len) (h % 2 ^ i.len))) (le-ltb _ j l)

pub under-other : (j h : ℕ) (i : Item) → (i.val % 2 ^ i.len ≡ h % 2 ^ i.len → ⊥) → under j h i ≡ 0
unfolding under
under-other j h i ne = ap (both (ltb i.len j)) (ne_eqb _ _ ne) ∙ both_false (ltb i.len j)

under-mono : (m j h : ℕ) → m ≤ j → (i : Item) → under m h i ≤ under j h i
under-mono m j h le i = go (dec_lt i.len m) (ℕ_discrete (i.val % 2 ^ i.len) (h % 2 ^ i.len))
  where
    go : Dec (i.len < m) → Dec (i.val % 2 ^ i.len ≡ h % 2 ^ i.len) → under m h i ≤ under j h i
    go (no a) b = omega (arith, under-long m h i (omega arith))
    go (yes a) (no b) = omega (arith, under-other m h i b)
    go (yes a) (yes b) = omega (arith, under-yes m h i a b, under-yes j h i (omega arith) b)

under-step : (j h : ℕ) (i : Item) → under (suc j) h i ≡ under j h i + exact j (h % 2 ^ j) i
under-step j h i = go (ℕ_discrete i.len j) (dec_lt i.len j) (ℕ_discrete (i.val % 2 ^ i.len) (h % 2 ^ i.len))
  where
    u : ℕ
    u = h % 2 ^ j

    go : Dec (i.len ≡ j) → Dec (i.len < j) → Dec (i.val % 2 ^ i.len ≡ h % 2 ^ i.len) → under (suc j) h i ≡ under j h i + exact j u i
    go (yes a) b (yes c) = rw (under-yes (suc j) h i (omega arith) c, under-long j h i (omega arith), exact-yes j u i a (rw a at c))
    go (yes a) b (no c) = rw (under-other (suc j) h i c, under-other j h i c, exact-other j u i (rw a at c))
    go (no a) (yes b) (yes c) = rw (under-yes (suc j) h i (omega arith) c, under-yes j h i b c, exact-len j u i a)
    go (no a) (yes b) (no c) = rw (under-other (suc j) h i c, under-other j h i c, exact-len j u i a)
    go (no a) (no b) c = rw (under-long (suc j) h i (omega arith), under-long j h i (omega arith), exact-len j u i a)

-- ---- one bit more: what continues the n bits u continues them by 0, or by 1, or ends there

data Low (n x : ℕ) : Type 0 where
  clear : x % 2 ^ suc n ≡ x % 2 ^ n → Low n x
  set : x % 2 ^ suc n ≡ x % 2 ^ n + 2 ^ n → Low n x

low : (n x : ℕ) → Low n x
low n x = go (x / 2 ^ n % 2) (mod-lt (x / 2 ^ n) (omega arith)) (ap (λ m. x % 2 ^ m) (omega arith) ∙ mod-pow-add x 1 n)
  where
    go : (b : ℕ) → b < 2 → x % 2 ^ suc n ≡ b * 2 ^ n + x % 2 ^ n → Low n x
    go zero lt e = clear (e ∙ omega arith)
    go (suc zero) lt e = set (e ∙ omega arith)
    go (suc (suc b)) lt e = absurd (omega arith)

module _ (n u : ℕ) (small : u < 2 ^ n) (i : Item) where
  abbrev x : ℕ
  x = i.val

  none : (x % 2 ^ n ≡ u → ⊥) → ind n u i ≡ ind (suc n) u i + ind (suc n) (u + 2 ^ n) i + exact n u i
  none a =
      omega (
        arith,
        ind-other n u i a,
        exact-other n u i a,
        ind-other (suc n) u i (λ e. a (by-0 (low n x) e)),
        ind-other (suc n) (u + 2 ^ n) i (λ e. a (by-1 (low n x) e)),
      )
    where
      by-0 : Low n x → x % 2 ^ suc n ≡ u → x % 2 ^ n ≡ u
      by-0 (clear l) e = omega arith
      by-0 (set l) e = absurd (omega arith)

      by-1 : Low n x → x % 2 ^ suc n ≡ u + 2 ^ n → x % 2 ^ n ≡ u
      by-1 (clear l) e = absurd (omega (arith, mod-lt x (pow_pos n)))
      by-1 (set l) e = omega arith

  children : ind n u i ≡ ind (suc n) u i + ind (suc n) (u + 2 ^ n) i + exact n u i
  children = go (ℕ_discrete (x % 2 ^ n) u) (ℕ_discrete i.len n) (dec_lt n i.len) (low n x)
    where
      go : Dec (x % 2 ^ n ≡ u) → Dec (i.len ≡ n) → Dec (n < i.len) → Low n x → ind n u i ≡ ind (suc n) u i + ind (suc n) (u + 2 ^ n) i + exact n u i
      go (no a) b c d = none a
      go (yes a) (yes b) c d =
          omega (arith, ind-yes n u i (omega arith) a, exact-yes n u i b a, ind-short (suc n) u i (omega arith), ind-short (suc n) (u + 2 ^ n) i (omega arith))
      go (yes a) (no b) (no c) d =
          omega (arith, ind-short n u i (omega arith), exact-len n u i b, ind-short (suc n) u i (omega arith), ind-short (suc n) (u + 2 ^ n) i (omega arith))
      go (yes a) (no b) (yes c) (clear l) =
          omega (
            arith,
            ind-yes n u i (omega arith) a,
            exact-len n u i b,
            ind-yes (suc n) u i (omega arith) (omega arith),
            ind-other (suc n) (u + 2 ^ n) i (λ e. omega (arith, pow_pos n)),
          )
      go (yes a) (no b) (yes c) (set l) =
          omega (
            arith,
            ind-yes n u i (omega arith) a,
            exact-len n u i b,
            ind-other (suc n) u i (λ e. omega (arith, pow_pos n)),
            ind-yes (suc n) (u + 2 ^ n) i (omega arith) (omega arith),
          )

-- ---- the condition, and the climb along a path

-- for every u, no more strings of I than of X continue the n bits u
unfoldable pub Hall : List Item → List Item → Type 0
Hall I X = (n u : ℕ) → sum (ind n u) I ≤ sum (ind n u) X

-- how many of L continue the n lowest bits of h, and how many end there
unfoldable cont : ℕ → ℕ → List Item → ℕ
cont n h L = sum (ind n (h % 2 ^ n)) L

abbrev end : ℕ → ℕ → List Item → ℕ
end n h L = sum (exact n (h % 2 ^ n)) L

gap : (I X : List Item) → Hall I X → (h n a b : ℕ) → cont (suc n) h I + a ≤ cont (suc n) h X + b → cont n h I + (a + end n h X) ≤ cont n h X + (b + end n h I)
unfolding Hall cont
gap I X hall h n a b le = go (low n h)
  where
    u : ℕ
    u = h % 2 ^ n

    halves : (L : List Item) → sum (ind n u) L ≡ sum (ind (suc n) u) L + sum (ind (suc n) (u + 2 ^ n)) L + end n h L
    halves L = sum-three (ind n u) (ind (suc n) u) (ind (suc n) (u + 2 ^ n)) (exact n u) (children n u (mod-lt h (pow_pos n))) L

    go : Low n h → sum (ind n u) I + (a + end n h X) ≤ sum (ind n u) X + (b + end n h I)
    go (clear e) = omega (arith, le, halves I, halves X, hall (suc n) (u + 2 ^ n), ap (λ y. sum (ind (suc n) y) I) e, ap (λ y. sum (ind (suc n) y) X) e)
    go (set e) = omega (arith, le, halves I, halves X, hall (suc n) u, ap (λ y. sum (ind (suc n) y) I) e, ap (λ y. sum (ind (suc n) y) X) e)

-- what I lacks of X at j bits of h it lacks at n, less the strings of I on the path between, and more by those of X
abbrev Climbs : List Item → List Item → ℕ → ℕ → ℕ → ℕ → ℕ → Type 0
Climbs I X h n j a b = cont n h I + a + sum (under j h) X + sum (under n h) I ≤ cont n h X + b + sum (under j h) I + sum (under n h) X

climb-here : (I X : List Item) (h n j a b : ℕ) → n ≡ j → cont j h I + a ≤ cont j h X + b → Climbs I X h n j a b
climb-here I X h n j a b e le =
    omega (arith, ap (λ x. cont x h I) e, ap (λ x. cont x h X) e, ap (λ x. sum (under x h) I) e, ap (λ x. sum (under x h) X) e)

climb : (I X : List Item) → Hall I X → (h n j a b : ℕ) → n ≤ j → cont j h I + a ≤ cont j h X + b → Climbs I X h n j a b
climb I X hall h n zero a b nj le = climb-here I X h n zero a b (omega arith) le
climb I X hall h n (suc j) a b nj le = go (dec_le n j) (λ nj'. climb I X hall h n j (a + end j h X) (b + end j h I) nj' (gap I X hall h j a b le))
  where
    step : (L : List Item) → sum (under (suc j) h) L ≡ sum (under j h) L + end j h L
    step L = sum-two (under (suc j) h) (under j h) (exact j (h % 2 ^ j)) (under-step j h) L

    go : Dec (n ≤ j) → (n ≤ j → Climbs I X h n j (a + end j h X) (b + end j h I)) → Climbs I X h n (suc j) a b
    go (no f) rec = climb-here I X h n (suc j) a b (omega arith) le
    go (yes nj') rec = omega (arith, rec nj', step I, step X)

-- ---- a string is cut to a prefix

-- y is a prefix of x
pub record Prefix (y x : Item) : Type 0 where
  pub short : y.len ≤ x.len
  pub bits : y.val % 2 ^ y.len ≡ x.val % 2 ^ y.len

-- at most as many bits as y has: the two continue the same
prefix-ind : (y x : Item) → Prefix y x → (n u : ℕ) → n ≤ y.len → ind n u y ≡ ind n u x
prefix-ind y x p n u le = go (ℕ_discrete (x.val % 2 ^ n) u)
  where
    e : y.val % 2 ^ n ≡ x.val % 2 ^ n
    e = low_bits n y.len y.val x.val le p.bits

    go : Dec (x.val % 2 ^ n ≡ u) → ind n u y ≡ ind n u x
    go (yes q) = ind-yes n u y le (e ∙ q) ∙ sym (ind-yes n u x (omega (arith, p.short)) q)
    go (no q) = ind-other n u y (λ r. q (sym e ∙ r)) ∙ sym (ind-other n u x q)

prefix-ind-le : (y x : Item) → Prefix y x → (n u : ℕ) → ind n u y ≤ ind n u x
prefix-ind-le y x p n u = go (dec_le n y.len)
  where
    go : Dec (n ≤ y.len) → ind n u y ≤ ind n u x
    go (yes le) = omega (arith, prefix-ind y x p n u le)
    go (no le) = omega (arith, ind-short n u y (omega arith))

-- no string of L on the path of x is longer than d and at most as long as x
unfoldable pub Clear : ℕ → Item → List Item → Type 0
Clear d x L = sum (under (suc x.len) x.val) L ≤ sum (under (suc d) x.val) L

-- where the path of x is clear above d, each place on it beyond d has one of X to spare
spare : (I X X' : List Item) (x : Item) → Hall I X → Same X (x ∷ X') → (d : ℕ) → Clear d x I → (n : ℕ) → d < n → n ≤ x.len → cont n x.val I + 1 ≤ cont n x.val X
unfolding Same Clear Hall cont sum
spare I X X' x hall same d clr n dn nl =
    let h = x.val in
    let j = suc x.len in
    omega (
      arith,
      climb I X hall h n j 0 0 (omega arith) (omega (arith, hall j (h % 2 ^ j))),
      same (under j h),
      same (under n h),
      under-yes j h x (omega arith) refl,
      under-long n h x nl,
      sum-le (under n h) (under j h) (under-mono n j h (omega arith)) X',
      sum-le (under (suc d) h) (under n h) (under-mono (suc d) n h dn) I,
      clr,
    )

-- a string of X may be cut to a prefix y, if no string of I on its path is longer than y
shorten : (I X X' : List Item) (x y : Item) → Hall I X → Same X (x ∷ X') → Prefix y x → Clear y.len x I → Hall I (y ∷ X')
unfolding Same Hall sum cont
shorten I X X' x y hall same p clr n u = go (dec_le n y.len) (dec_le n x.len) (ℕ_discrete (x.val % 2 ^ n) u)
  where
    base : sum (ind n u) I ≤ ind n u x + sum (ind n u) X'
    base = omega (arith, hall n u, same (ind n u))

    go : Dec (n ≤ y.len) → Dec (n ≤ x.len) → Dec (x.val % 2 ^ n ≡ u) → sum (ind n u) I ≤ ind n u y + sum (ind n u) X'
    go (yes a) b c = omega (arith, base, prefix-ind y x p n u a)
    go (no a) (no b) c = omega (arith, base, ind-short n u x (omega arith))
    go (no a) (yes b) (no c) = omega (arith, base, ind-other n u x c)
    go (no a) (yes b) (yes c) =
        let s = subst (λ v. sum (ind n v) I + 1 ≤ sum (ind n v) X) c (spare I X X' x hall same y.len clr n (omega arith) b) in
        omega (arith, s, same (ind n u), ind-yes n u x b c)

-- ---- what a step may do. Both lists are of one length: then the strings of I are all dealt out, and to all of X

pub record Dealt (I X : List Item) : Type 0 where
  pub hall : Hall I X
  pub count : length I ≡ length X

-- multisets
pub dealt-same : (I X I' X' : List Item) → Dealt I X → Same I I' → Same X X' → Dealt I' X'
unfolding Same Hall
dealt-same I X I' X' d si sx =
    record { hall = λ n u. omega (arith, d.hall n u, si (ind n u), sx (ind n u)); count = omega (arith, d.count, same_length I I' si, same_length X X' sx) }

-- a string and one that continues it are put in
pub dealt-put : (I X I' X' : List Item) (e x : Item) → Dealt I X → Same I' (e ∷ I) → Same X' (x ∷ X) → Prefix e x → Dealt I' X'
unfolding Same Hall sum
dealt-put I X I' X' e x d si sx p =
    record {
      hall = λ n u. omega (arith, d.hall n u, si (ind n u), sx (ind n u), prefix-ind-le e x p n u);
      count = omega (arith, d.count, same_length I' (e ∷ I) si, same_length X' (x ∷ X) sx);
    }

-- a string of X is cut
pub dealt-cut : (I X X' : List Item) (x y : Item) → Dealt I X → Same X (x ∷ X') → Prefix y x → Clear y.len x I → Dealt I (y ∷ X')
dealt-cut I X X' x y d sx p clr = record { hall = shorten I X X' x y d.hall sx p clr; count = d.count ∙ same_length X (x ∷ X') sx }

-- the longest string of I on the path of x is taken out, with x
pub dealt-take : (I X I' X' : List Item) (e x : Item) → Dealt I X → Same I (e ∷ I') → Same X (x ∷ X') → Prefix e x → Clear e.len x I → Dealt I' X'
unfolding Same Hall sum
dealt-take I X I' X' e x d si sx p clr =
    let c = dealt-cut I X X' x e d sx p clr in
    record { hall = λ n u. omega (arith, c.hall n u, si (ind n u)); count = omega (arith, c.count, same_length I (e ∷ I') si) }

-- ---- what it gives

cont-zero : (h : ℕ) (L : List Item) → cont 0 h L ≡ length L
unfolding cont
cont-zero h L = sum_one (ind 0 (h % 2 ^ 0)) each L
  where
    none : (x : ℕ) → x % 2 ^ 0 ≡ 0
    none x = ap (λ m. x % m) (pow-zero 2) ∙ mod-one x

    each : (i : Item) → ind 0 (h % 2 ^ 0) i ≡ 1
    each i = ind-yes 0 (h % 2 ^ 0) i (omega arith) (none i.val ∙ sym (none h))

-- on any path, up to any length, I has as many strings as X
pub path : (I X : List Item) → Dealt I X → (h j : ℕ) → sum (under j h) X ≤ sum (under j h) I
unfolding Hall cont
path I X d h j =
    omega (
      arith,
      climb I X d.hall h 0 j 0 0 (omega arith) (omega (arith, d.hall j (h % 2 ^ j))),
      cont-zero h I,
      cont-zero h X,
      d.count,
      sum-zero (under 0 h) (λ i. under-long 0 h i (omega arith)) I,
      sum-zero (under 0 h) (λ i. under-long 0 h i (omega arith)) X,
    )

-- an x of X whose path is clear beyond k bits: on its path up to k bits I has more strings than X has, x apart
pub path-more : (I X X' : List Item) (x : Item) (k : ℕ) → Dealt I X → Same X (x ∷ X') → k ≤ x.len → Clear k x I
    → sum (under (suc k) x.val) X' + 1 ≤ sum (under (suc k) x.val) I
unfolding sum
path-more I X X' x k d sx kl clr =
    let y : Item = record { len = k; val = x.val } in
    let c = dealt-cut I X X' x y d sx (record { short = kl; bits = refl }) clr in
    omega (arith, path I (y ∷ X') c x.val (suc k), under-yes (suc k) x.val y (omega arith) refl)
