-- One tombstone for each even queue word is all tombstones, where each address has as many as even words name it: by induction on the words, of which the first
-- takes one from its address.
use mathlib.Core.Path.{◌≡◌, refl, sym, ap, ◌∙◌, subst}
use mathlib.Core.Bool.{Bool, true, false, cond}
use mathlib.Core.List.{List, [], ◌∷◌, ◌++◌}
use Prim.Native.Nat.{ℕ, ◌+◌, ◌-◌, ◌*◌, ◌/◌, ◌%◌, ◌≤◌, ◌<◌}
use native.Mathlib.Omega.{arith}
use native.Mathlib.Numerals.{add-one}
use native.Mathlib.Decide.{ℕ_discrete}
use lib.Dec.{T, ltb, eqb, ltb→lt}
use lib.ListN.{length, get_or, take, length-map, length-set}
use lib.Seq.{take-suc, take_all, get_or-set_same, get_or-set_other, ext_get_or}
use borrow.Author.Tests.{eq-eqb, ne_eqb}
use Rattle.lists.specs.Lists.{every}
use Rattle.lists.specs.Runs.{Runs, rising, erase, erase_all, count, at}
use Rattle.lists.proofs.Tests.{eqb-cases, is-yes, is-no}
use Rattle.lists.proofs.Alls.{All, every_get}
use Rattle.lists.proofs.RunLaws.{erase-here, erase-next, count_erase_self}
use Rattle.slots.specs.Payload.{tombstone}
use Rattle.rules.specs.Settling.{no_tombstones}
use Rattle.keeps.proofs.Cuts.{get_or-erase_all}
use Rattle.settling.specs.State.{Lost, take_tombstones}
use Rattle.settling.proofs.Losses.{Keeps, lost-none, lost_as, lost-then, erase-keeps}

-- ---- all of one payload

erase_all-zero : (x : ℕ) (run : List ℕ) → count x run ≡ 0 → erase_all x run ≡ run
unfolding erase_all count
erase_all-zero x [] e = refl
erase_all-zero x (y ∷ ys) e =
    eqb-cases (λ (l : List ℕ). l ≡ y ∷ ys) x y (erase_all x ys) (y ∷ erase_all x ys)
    (λ q. absurd (omega (arith, is-yes x y q))) (λ q. ap (λ (l : List ℕ). y ∷ l) (erase_all-zero x ys (omega (arith, is-no x y q))))

erase_all-here : (x y : ℕ) (ys : List ℕ) → x ≡ y → erase_all x (y ∷ ys) ≡ erase_all x ys
unfolding erase_all
erase_all-here x y ys e = rw (eq-eqb x y e)

erase_all-next : (x y : ℕ) (ys : List ℕ) → (x ≡ y → ⊥) → erase_all x (y ∷ ys) ≡ y ∷ erase_all x ys
unfolding erase_all
erase_all-next x y ys e = rw (ne_eqb x y e)

-- the first of them may go before
erase_all-erase : (x : ℕ) (run : List ℕ) → erase_all x (erase x run) ≡ erase_all x run
erase_all-erase x [] = unfold erase in refl
erase_all-erase x (y ∷ ys) = go (erase_all-erase x ys) (ℕ_discrete x y)
  where
    go : erase_all x (erase x ys) ≡ erase_all x ys → Dec (x ≡ y) → erase_all x (erase x (y ∷ ys)) ≡ erase_all x (y ∷ ys)
    go ih (yes e) = ap (erase_all x) (erase-here x y ys e) ∙ sym (erase_all-here x y ys e)
    go ih (no e) =
        ap (erase_all x) (erase-next x y ys e) ∙ erase_all-next x y (erase x ys) e
        ∙ ap (λ (l : List ℕ). y ∷ l) ih ∙ sym (erase_all-next x y ys e)

-- ---- the tombstones of a table

module _ (w : ℕ) where
  abbrev t : ℕ
  t = tombstone w

  -- one word
  abbrev pub taken : ℕ → Runs → Runs
  taken q runs = cond (eqb (q % 2) 0) (at (q / 2) (erase t) runs) runs

  none-at : (runs : Runs) (a : ℕ) → get_or (no_tombstones w runs) a [] ≡ erase_all t (get_or runs a [])
  unfolding no_tombstones
  none-at runs a = get_or-erase_all t runs a

  none-length : (runs : Runs) → length (no_tombstones w runs) ≡ length runs
  unfolding no_tombstones
  none-length runs = length-map runs (erase_all t)

  none-at-one : (runs : Runs) (c : ℕ) → no_tombstones w (at c (erase t) runs) ≡ no_tombstones w runs
  none-at-one runs c =
      ext_get_or [] (no_tombstones w (at c (erase t) runs)) (no_tombstones w runs)
      (none-length (at c (erase t) runs) ∙ length-set runs c (erase t (get_or runs c [])) ∙ sym (none-length runs))
      (λ a h. let l : a < length runs = omega (arith, none-length (at c (erase t) runs), length-set runs c (erase t (get_or runs c []))) in
      none-at (at c (erase t) runs) a ∙ go a l (ℕ_discrete a c) ∙ sym (none-at runs a))
    where
      go : (a : ℕ) → a < length runs → Dec (a ≡ c) → erase_all t (get_or (at c (erase t) runs) a []) ≡ erase_all t (get_or runs a [])
      go a l (yes e) =
          subst (λ (y : ℕ). erase_all t (get_or (at c (erase t) runs) y []) ≡ erase_all t (get_or runs y [])) (sym e)
          (ap (erase_all t) (get_or-set_same runs c (erase t (get_or runs c [])) [] (omega arith)) ∙ erase_all-erase t (get_or runs c []))
      go a l (no e) = ap (erase_all t) (get_or-set_other runs c a (erase t (get_or runs c [])) [] e)

  -- as many as even words name the address
  abbrev pub Named : List ℕ → Runs → Type 0
  Named ws runs = (a : ℕ) → a < length runs → count t (get_or runs a []) ≡ count (a * 2) ws

  named-even : (q : ℕ) (ws : List ℕ) (runs : Runs) → q % 2 ≡ 0 → q / 2 < length runs → Named (q ∷ ws) runs → Named ws (at (q / 2) (erase t) runs)
  unfolding count
  named-even q ws runs e h n a l = go (ℕ_discrete a (q / 2))
    where
      c : ℕ
      c = q / 2

      m : a < length runs
      m = omega (arith, length-set runs (q / 2) (erase t (get_or runs (q / 2) [])))

      go : Dec (a ≡ q / 2) → count t (get_or (at (q / 2) (erase t) runs) a []) ≡ count (a * 2) ws
      go (yes f) =
          subst (λ (y : ℕ). count t (get_or (at (q / 2) (erase t) runs) y []) ≡ count (a * 2) ws) (sym f)
          (ap (count t) (get_or-set_same runs (q / 2) (erase t (get_or runs (q / 2) [])) [] h)
          ∙ count_erase_self t (get_or runs (q / 2) [])
          ∙ ap (λ (y : ℕ). count t (get_or runs y []) - 1) (sym f)
          ∙ omega (arith, n a m, is-yes (a * 2) q (omega arith)))
      go (no f) =
          ap (count t) (get_or-set_other runs (q / 2) a (erase t (get_or runs (q / 2) [])) [] f) ∙ n a m ∙ omega (arith, is-no (a * 2) q (λ s. f (omega arith)))

  named-odd : (q : ℕ) (ws : List ℕ) (runs : Runs) → (q % 2 ≡ 0 → ⊥) → Named (q ∷ ws) runs → Named ws runs
  unfolding count
  named-odd q ws runs e n a l = n a l ∙ omega (arith, is-no (a * 2) q (λ s. e (omega arith)))

  pub all-taken : (ws : List ℕ) (runs : Runs) → All (λ q. q / 2 < length runs) ws → Named ws runs → take_tombstones w ws runs ≡ no_tombstones w runs
  unfolding take_tombstones count
  all-taken [] runs h n =
      ext_get_or [] runs (no_tombstones w runs) (sym (none-length runs)) (λ a l. sym (erase_all-zero t (get_or runs a []) (n a l)) ∙ sym (none-at runs a))
  all-taken (q ∷ ws) runs h n = go (all-taken ws) (ℕ_discrete (q % 2) 0)
    where
      go : ((rs : Runs) → All (λ p. p / 2 < length rs) ws → Named ws rs → take_tombstones w ws rs ≡ no_tombstones w rs) → Dec (q % 2 ≡ 0)
          → take_tombstones w ws (taken q runs) ≡ no_tombstones w runs
      go ih (yes e) =
          let l : length (at (q / 2) (erase t) runs) ≡ length runs = length-set runs (q / 2) (erase t (get_or runs (q / 2) [])) in
          ap (λ (y : Bool). take_tombstones w ws (cond y (at (q / 2) (erase t) runs) runs)) (eq-eqb (q % 2) 0 e)
          ∙ ih (at (q / 2) (erase t) runs) (subst (λ (m : ℕ). All (λ p. p / 2 < m) ws) (sym l) h.1) (named-even q ws runs e h.0 n)
          ∙ none-at-one runs (q / 2)
      go ih (no e) =
          ap (λ (y : Bool). take_tombstones w ws (cond y (at (q / 2) (erase t) runs) runs)) (ne_eqb (q % 2) 0 e) ∙ ih runs h.1 (named-odd q ws runs e n)

  -- ---- the loop

  snoc : (ws : List ℕ) (q : ℕ) (runs : Runs) → take_tombstones w (ws ++ q ∷ []) runs ≡ taken q (take_tombstones w ws runs)
  unfolding take_tombstones
  snoc [] q runs = refl
  snoc (p ∷ ws) q runs = snoc ws q (taken p runs)

  take-keeps : (ws : List ℕ) → Keeps (take_tombstones w ws)
  unfolding take_tombstones
  take-keeps [] = record { long = λ runs. refl; rises = λ runs r. r }
  take-keeps (q ∷ ws) =
      let k = take-keeps ws in
      record { long = λ runs. k.long (taken q runs) ∙ size (eqb (q % 2) 0) runs; rises = λ runs r. k.rises (taken q runs) (order (eqb (q % 2) 0) runs r) }
    where
      size : (y : Bool) (runs : Runs) → length (cond y (at (q / 2) (erase t) runs) runs) ≡ length runs
      size true runs = (erase-keeps (q / 2) t).long runs
      size false runs = refl

      order : (y : Bool) (runs : Runs) → T (every rising runs) → T (every rising (cond y (at (q / 2) (erase t) runs) runs))
      order true runs r = (erase-keeps (q / 2) t).rises runs r
      order false runs r = r

  module _ (queue main₀ : List ℕ) where
    pub tombs-start : Lost (take_tombstones w (take 0 queue)) main₀ main₀ 0
    unfolding take_tombstones
    tombs-start = lost-none (take_tombstones w []) main₀ (λ runs. refl)

    module _ (main : List ℕ) (j gone q : ℕ) (h : j < length queue) (eq : q ≡ get_or queue j 0)
        (v : Lost (take_tombstones w (take j queue)) main₀ main gone) where
      more : (runs : Runs) → take_tombstones w (take (j + 1) queue) runs ≡ taken q (take_tombstones w (take j queue) runs)
      more runs =
          let e : take (j + 1) queue ≡ take j queue ++ q ∷ [] = rw (add-one, take-suc queue j 0) (ap (λ (y : ℕ). take j queue ++ y ∷ []) (sym eq)) in
          ap (λ (l : List ℕ). take_tombstones w l runs) e ∙ snoc (take j queue) q runs

      pub tombs-odd : (q % 2 ≡ 0 → ⊥) → Lost (take_tombstones w (take (j + 1) queue)) main₀ main gone
      tombs-odd e =
          lost_as (take_tombstones w (take j queue)) (take_tombstones w (take (j + 1) queue)) main₀ main gone
          (λ runs l. sym (more runs
          ∙ ap (λ (y : Bool). cond y (at (q / 2) (erase t) (take_tombstones w (take j queue) runs)) (take_tombstones w (take j queue) runs))
          (ne_eqb (q % 2) 0 e)))
          v

      pub tombs-even : q % 2 ≡ 0 → (x n : ℕ) → x ≡ t → (main' : List ℕ) → Lost (at (q / 2) (erase x)) main main' n
          → Lost (take_tombstones w (take (j + 1) queue)) main₀ main' (gone + n)
      tombs-even e x n ex main' u =
          let u' : Lost (at (q / 2) (erase t)) main main' n = subst (λ (y : ℕ). Lost (at (q / 2) (erase y)) main main' n) ex u in
          lost_as (λ runs. at (q / 2) (erase t) (take_tombstones w (take j queue) runs)) (take_tombstones w (take (j + 1) queue)) main₀ main' (gone + n)
          (λ runs l. sym (more runs
          ∙ ap (λ (y : Bool). cond y (at (q / 2) (erase t) (take_tombstones w (take j queue) runs)) (take_tombstones w (take j queue) runs))
          (eq-eqb (q % 2) 0 e)))
          (lost-then (take_tombstones w (take j queue)) (at (q / 2) (erase t)) main₀ main main' gone n (take-keeps (take j queue)) v u')

-- the address that word j names is within the table
pub names-inside : (queue : List ℕ) (m j : ℕ) → T (every (λ q. ltb (q / 2) m) queue) → j < length queue → get_or queue j 0 / 2 < m
names-inside queue m j t h = ltb→lt (get_or queue j 0 / 2) m (every_get (λ q. ltb (q / 2) m) queue 0 t j h)

-- where the walk over the queue stands: at word j, with `gone` tombstones taken
pub record Clearing (w : ℕ) (queue main₀ main : List ℕ) (gone j : ℕ) : Type 0 where
  pub size : length main ≡ length main₀
  pub few : gone ≤ j
  pub lost : Lost (take_tombstones w (take j queue)) main₀ main gone

pub clear-start : (w : ℕ) (queue main₀ : List ℕ) → Clearing w queue main₀ main₀ 0 0
clear-start w queue main₀ = record { size = refl; few = omega arith; lost = tombs-start w queue main₀ }

pub clear-end : (w : ℕ) (queue main₀ main : List ℕ) (gone j : ℕ) → Clearing w queue main₀ main gone j → length queue ≤ j
    → Lost (take_tombstones w queue) main₀ main gone
clear-end w queue main₀ main gone j v h = subst (λ (l : List ℕ). Lost (take_tombstones w l) main₀ main gone) (take_all j queue h) v.lost

module _ (w : ℕ) (queue main₀ main : List ℕ) (gone j : ℕ) (v : Clearing w queue main₀ main gone j) (h : j < length queue) where
  pub clear-past : (get_or queue j 0 % 2 ≡ 0 → ⊥) → (main' : List ℕ) (gone' : ℕ) → main' ≡ main → gone' ≡ gone → Clearing w queue main₀ main' gone' (j + 1)
  clear-past s main' gone' e f =
      record {
        size = ap length e ∙ v.size;
        few = omega (arith, v.few);
        lost = rw (e, f) (tombs-odd w queue main₀ main j gone (get_or queue j 0) h refl v.lost s);
      }

  pub clear-on : get_or queue j 0 % 2 ≡ 0 → (x m : ℕ) → x ≡ tombstone w → m ≤ 1 → (next : List ℕ) → length next ≡ length main
      → Lost (at (get_or queue j 0 / 2) (erase x)) main next m
      → (main' : List ℕ) (gone' : ℕ) → main' ≡ next → gone' ≡ gone + m → Clearing w queue main₀ main' gone' (j + 1)
  clear-on s x m ex k next long u main' gone' e f =
      record {
        size = ap length e ∙ long ∙ v.size;
        few = omega (arith, v.few);
        lost = rw (e, f) (tombs-even w queue main₀ main j gone (get_or queue j 0) h refl v.lost s x m ex next u);
      }
