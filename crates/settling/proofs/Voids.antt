-- The addresses with the low b bits of c are visited in steps of 2^b from the first of them: below d all voids that are to go are gone, and from d on none.
use mathlib.Core.Path.{◌≡◌, refl, sym, ap, ap₂, ◌∙◌, subst}
use mathlib.Core.Bool.{Bool, true, false, not, cond, ◌&&◌}
use mathlib.Core.List.{List, []}
use Prim.Native.Nat.{ℕ, suc, ◌+◌, ◌/◌, ◌%◌, ◌^◌, ◌≤◌, ◌<◌}
use native.Mathlib.Omega.{arith}
use native.Mathlib.Nat.{mod-lt, mod-mod, mod-eq_of_lt, add-mod_right, div-add-mod', mul-le-mul_right, suc-mul, zero-add}
use native.Mathlib.Decide.{dec_le, dec_lt, ℕ_discrete}
use lib.Dec.{ltb, eqb}
use lib.Pow.{pow_pos}
use lib.ListN.{length, get_or, set, length-set}
use lib.Seq.{get_or-set_same, get_or-set_other, ext_get_or}
use borrow.Author.Tests.{lt-ltb, le-ltb, eq-eqb, ne_eqb}
use Rattle.lists.specs.Lists.{map_at}
use Rattle.lists.specs.Runs.{Runs, erase, at}
use Rattle.lists.proofs.Alls.{All, all-get, get-all, length-map_at, get_or-map_at}
use Rattle.lists.proofs.RunLaws.{Rises, rises-erase}
use Rattle.slots.specs.Payload.{void}
use Rattle.rules.specs.Settling.{take_voids}
use Rattle.keeps.proofs.Cuts.{cut, cut-is, cut-length, cut_at}
use Rattle.settling.specs.State.{Lost}
use Rattle.settling.proofs.Losses.{Keeps, lost-none, lost_as, lost-then, all-rises, rises-all}

-- the run of d where it is another address with the low bits, and where not
module _ (w c b d : ℕ) (run : List ℕ) where
  abbrev by : Bool → Bool → List ℕ
  by x y = elim (not x && y) [ true ↦ erase (void w) run | false ↦ run ]

  cut-yes : (d ≡ c → ⊥) → d % 2 ^ b ≡ c % 2 ^ b → cut w c b d run ≡ erase (void w) run
  cut-yes ne e = ap₂ (λ (x y : Bool). by x y) (ne_eqb d c ne) (eq-eqb (d % 2 ^ b) (c % 2 ^ b) e)

  cut-own : d ≡ c → cut w c b d run ≡ run
  cut-own e = ap (λ (x : Bool). by x (eqb (d % 2 ^ b) (c % 2 ^ b))) (eq-eqb d c e)

  cut-far : (d % 2 ^ b ≡ c % 2 ^ b → ⊥) → cut w c b d run ≡ run
  cut-far ne = ap (λ (y : Bool). by (eqb d c) y) (ne_eqb (d % 2 ^ b) (c % 2 ^ b) ne) ∙ off (eqb d c)
    where
      off : (x : Bool) → by x false ≡ run
      off true = refl
      off false = refl

-- the next number with the same remainder is n further on
apart : (n d e : ℕ) → d < e → e < d + n → e % n ≡ d % n → ⊥
apart n d e l m q = go (dec_le (e / n) (d / n))
  where
    go : Dec (e / n ≤ d / n) → ⊥
    go (yes h) = omega (arith, div-add-mod' e n, div-add-mod' d n, mul-le-mul_right n h)
    go (no h) =
        let g : suc (d / n) ≤ e / n = omega arith in
        omega (arith, div-add-mod' e n, div-add-mod' d n, mul-le-mul_right n g, suc-mul (d / n) n)

-- the voids of the addresses below d are taken
unfoldable pub partly : ℕ → ℕ → ℕ → ℕ → Runs → Runs
partly w c b d runs = map_at (λ e run. cond (ltb e d) (cut w c b e run) run) 0 runs

module _ (w c b : ℕ) (runs : Runs) where
  part : ℕ → ℕ → List ℕ → List ℕ
  part d e run = cond (ltb e d) (cut w c b e run) run

  part_low : (d e : ℕ) (run : List ℕ) → e < d → part d e run ≡ cut w c b e run
  unfolding part
  part_low d e run h = rw (lt-ltb e d h)

  part-high : (d e : ℕ) (run : List ℕ) → d ≤ e → part d e run ≡ run
  unfolding part
  part-high d e run h = rw (le-ltb e d h)

  partly-length : (d : ℕ) → length (partly w c b d runs) ≡ length runs
  unfolding partly
  partly-length d = length-map_at (λ e run. cond (ltb e d) (cut w c b e run) run) 0 runs

  partly-at : (d e : ℕ) → e < length runs → get_or (partly w c b d runs) e [] ≡ part d e (get_or runs e [])
  unfolding partly part
  partly-at d e h = get_or-map_at (part d) 0 runs e [] [] h ∙ ap (λ m. part d m (get_or runs e [])) (zero-add e)

  -- at the first of the addresses nothing is taken yet
  pub partly-first : (d : ℕ) → d ≡ c % 2 ^ b → partly w c b d runs ≡ runs
  partly-first d q = ext_get_or [] (partly w c b d runs) runs (partly-length d) (λ e h. let l : e < length runs = omega (arith, partly-length d) in partly-at d e l ∙ go e (dec_lt e d))
    where
      go : (e : ℕ) → Dec (e < d) → part d e (get_or runs e []) ≡ get_or runs e []
      go e (yes h) =
          let f : e % 2 ^ b ≡ e = mod-eq_of_lt (omega (arith, mod-lt c (pow_pos b))) in
          part_low d e (get_or runs e []) h ∙ cut-far w c b e (get_or runs e []) (λ s. omega arith)
      go e (no h) = part-high d e (get_or runs e []) (omega arith)

  -- past the last address all is taken
  pub partly-last : (d : ℕ) → length runs ≤ d → partly w c b d runs ≡ take_voids w c b runs
  partly-last d q =
      ext_get_or [] (partly w c b d runs) (take_voids w c b runs) (partly-length d ∙ sym (cut-length w c b runs))
      (λ e h. let l : e < length runs = omega (arith, partly-length d) in partly-at d e l ∙ part_low d e (get_or runs e []) (omega arith) ∙ sym (cut_at w c b runs e l))

  -- from one of the addresses to the next
  module _ (d : ℕ) (q : d % 2 ^ b ≡ c % 2 ^ b) where
    between : (e : ℕ) → (e ≡ d → ⊥) → part (d + 2 ^ b) e (get_or runs e []) ≡ part d e (get_or runs e [])
    between e ne = go (dec_lt e d) (dec_lt e (d + 2 ^ b))
      where
        go : Dec (e < d) → Dec (e < d + 2 ^ b) → part (d + 2 ^ b) e (get_or runs e []) ≡ part d e (get_or runs e [])
        go (yes l) m = part_low (d + 2 ^ b) e (get_or runs e []) (omega arith) ∙ sym (part_low d e (get_or runs e []) l)
        go (no l) (yes m) =
            part_low (d + 2 ^ b) e (get_or runs e []) m ∙ cut-far w c b e (get_or runs e []) (λ s. apart (2 ^ b) d e (omega arith) m (s ∙ sym q)) ∙ sym (part-high d e (get_or runs e []) (omega arith))
        go (no l) (no m) = part-high (d + 2 ^ b) e (get_or runs e []) (omega arith) ∙ sym (part-high d e (get_or runs e []) (omega arith))

    here : part (d + 2 ^ b) d (get_or runs d []) ≡ cut w c b d (get_or runs d [])
    here = part_low (d + 2 ^ b) d (get_or runs d []) (omega (arith, pow_pos b))

    pub partly-own : d ≡ c → partly w c b (d + 2 ^ b) runs ≡ partly w c b d runs
    partly-own s =
        ext_get_or [] (partly w c b (d + 2 ^ b) runs) (partly w c b d runs) (partly-length (d + 2 ^ b) ∙ sym (partly-length d))
        (λ e h. let l : e < length runs = omega (arith, partly-length (d + 2 ^ b)) in partly-at (d + 2 ^ b) e l ∙ go e (ℕ_discrete e d) ∙ sym (partly-at d e l))
      where
        go : (e : ℕ) → Dec (e ≡ d) → part (d + 2 ^ b) e (get_or runs e []) ≡ part d e (get_or runs e [])
        go e (no ne) = between e ne
        go e (yes f) =
            subst (λ (x : ℕ). part (d + 2 ^ b) x (get_or runs x []) ≡ part d x (get_or runs x [])) (sym f)
            (here ∙ cut-own w c b d (get_or runs d []) s ∙ sym (part-high d d (get_or runs d []) (omega arith)))

    pub partly-next : (d ≡ c → ⊥) → partly w c b (d + 2 ^ b) runs ≡ at d (erase (void w)) (partly w c b d runs)
    partly-next s =
        ext_get_or [] (partly w c b (d + 2 ^ b) runs) (at d (erase (void w)) (partly w c b d runs))
        (partly-length (d + 2 ^ b) ∙ sym (partly-length d) ∙ sym (length-set (partly w c b d runs) d (erase (void w) (get_or (partly w c b d runs) d []))))
        (λ e h. let l : e < length runs = omega (arith, partly-length (d + 2 ^ b)) in partly-at (d + 2 ^ b) e l ∙ go e l (ℕ_discrete e d))
      where
        old : Runs
        old = partly w c b d runs

        go : (e : ℕ) → e < length runs → Dec (e ≡ d) → part (d + 2 ^ b) e (get_or runs e []) ≡ get_or (set old d (erase (void w) (get_or old d []))) e []
        go e l (no ne) = between e ne ∙ sym (partly-at d e l) ∙ sym (get_or-set_other old d e (erase (void w) (get_or old d [])) [] ne)
        go e l (yes f) =
            let k : d < length runs = omega arith in
            let m : d < length old = omega (arith, partly-length d) in
            subst (λ (x : ℕ). part (d + 2 ^ b) x (get_or runs x []) ≡ get_or (set old d (erase (void w) (get_or old d []))) x []) (sym f)
            (here ∙ cut-yes w c b d (get_or runs d []) s q
            ∙ ap (erase (void w)) (sym (partly-at d d k ∙ part-high d d (get_or runs d []) (omega arith)))
            ∙ sym (get_or-set_same old d (erase (void w) (get_or old d [])) [] m))

-- the order stays
partly-keeps : (w c b d : ℕ) → Keeps (partly w c b d)
unfolding part
partly-keeps w c b d = record { long = λ runs. partly-length w c b runs d; rises = λ runs t. rises-all (partly w c b d runs) (kept runs (all-rises runs t)) }
  where
    one : (e : ℕ) (run : List ℕ) (x : Bool) → Rises run → Rises (cond x (cut w c b e run) run)
    one e run true r = cut-is Rises w c b e run r (rises-erase (void w) run r)
    one e run false r = r

    kept : (runs : Runs) → All Rises runs → All Rises (partly w c b d runs)
    kept runs a =
        get-all Rises (partly w c b d runs) []
        (λ e h.
        let l : e < length runs = omega (arith, partly-length w c b runs d) in
        subst Rises (sym (partly-at w c b runs d e l)) (one e (get_or runs e []) (ltb e d) (all-get Rises runs [] a e l)))

-- ---- the loop

module _ (w c b : ℕ) (main₀ : List ℕ) where
  pub voids-start : (d : ℕ) → d ≡ c % 2 ^ b → Lost (partly w c b d) main₀ main₀ 0
  voids-start d q = lost-none (partly w c b d) main₀ (λ runs. partly-first w c b runs d q)

  module _ (main : List ℕ) (d gone : ℕ) (v : Lost (partly w c b d) main₀ main gone) where
    pub voids-end : length main₀ ≤ d → Lost (take_voids w c b) main₀ main gone
    voids-end h = lost_as (partly w c b d) (take_voids w c b) main₀ main gone (λ runs l. partly-last w c b runs d (omega arith)) v

    module _ (q : d % 2 ^ b ≡ c % 2 ^ b) (step : ℕ) (es : step ≡ 2 ^ b) where
      further : (f : ℕ → Runs → Runs) → ((runs : Runs) → f (d + 2 ^ b) runs ≡ f (d + step) runs)
      further f runs = ap (λ n. f (d + n) runs) (sym es)

      pub voids-own : d ≡ c → Lost (partly w c b (d + step)) main₀ main gone
      voids-own s = lost_as (partly w c b d) (partly w c b (d + step)) main₀ main gone (λ runs l. sym (partly-own w c b runs d q s) ∙ further (partly w c b) runs) v

      pub voids-next : (d ≡ c → ⊥) → (x n : ℕ) → x ≡ void w → (main' : List ℕ) → Lost (at d (erase x)) main main' n → Lost (partly w c b (d + step)) main₀ main' (gone + n)
      voids-next s x n ex main' u =
          let u' : Lost (at d (erase (void w))) main main' n = subst (λ (y : ℕ). Lost (at d (erase y)) main main' n) ex u in
          lost_as (λ runs. at d (erase (void w)) (partly w c b d runs)) (partly w c b (d + step)) main₀ main' (gone + n)
          (λ runs l. sym (partly-next w c b runs d q s) ∙ further (partly w c b) runs)
          (lost-then (partly w c b d) (at d (erase (void w))) main₀ main main' gone n (partly-keeps w c b d) v u')

-- where the walk stands: at d, with `gone` voids taken
pub record Walking (k w c b : ℕ) (main₀ main : List ℕ) (gone d : ℕ) : Type 0 where
  pub size : length main ≡ 2 ^ k
  pub bits : d % 2 ^ b ≡ c % 2 ^ b
  pub few : gone ≤ d
  pub lost : Lost (partly w c b d) main₀ main gone

pub walk_start : (k w c b : ℕ) (main₀ : List ℕ) (step : ℕ) → step ≡ 2 ^ b → length main₀ ≡ 2 ^ k → Walking k w c b main₀ main₀ 0 (c % step)
walk_start k w c b main₀ step e l =
    let f : c % step ≡ c % 2 ^ b = ap (λ n. c % n) e in
    record { size = l; bits = ap (λ n. n % 2 ^ b) f ∙ mod-mod c (2 ^ b); few = omega arith; lost = voids-start w c b main₀ (c % step) f }

module _ (k w c b : ℕ) (main₀ main : List ℕ) (gone d : ℕ) (v : Walking k w c b main₀ main gone d) (step : ℕ) (es : step ≡ 2 ^ b) where
  next-bits : (d + step) % 2 ^ b ≡ c % 2 ^ b
  next-bits = ap (λ n. (d + n) % 2 ^ b) es ∙ add-mod_right d (2 ^ b) ∙ v.bits

  pub walk-past : d ≡ c → (main' : List ℕ) (gone' : ℕ) → main' ≡ main → gone' ≡ gone → Walking k w c b main₀ main' gone' (d + step)
  walk-past s main' gone' e f =
      record {
        size = ap length e ∙ v.size;
        bits = next-bits;
        few = omega (arith, v.few);
        lost = rw (e, f) (voids-own w c b main₀ main d gone v.lost v.bits step es s);
      }

  pub walk-on : (d ≡ c → ⊥) → (x n : ℕ) → x ≡ void w → n ≤ 1 → (next : List ℕ) → length next ≡ length main → Lost (at d (erase x)) main next n
      → (main' : List ℕ) (gone' : ℕ) → main' ≡ next → gone' ≡ gone + n → Walking k w c b main₀ main' gone' (d + step)
  walk-on s x n ex l next long u main' gone' e f =
      record {
        size = ap length e ∙ long ∙ v.size;
        bits = next-bits;
        few = omega (arith, v.few, pow_pos b);
        lost = rw (e, f) (voids-next w c b main₀ main d gone v.lost v.bits step es s x n ex next u);
      }
