-- The run of an entry at home is found without a walk: both walks would end where they begin.
use mathlib.Core.Path.{◌≡◌, refl, sym, ap, ◌∙◌}
use mathlib.Core.Bool.{Bool, cond}
use mathlib.Core.List.{List}
use Prim.Native.Nat.{ℕ, suc, ◌+◌, ◌-◌, ◌/◌, ◌%◌, ◌<◌}
use native.Mathlib.Omega.{arith}
use lib.ListN.{length, get_or}
use borrow.Author.Tests.{lt-ltb, le-leb}
use Rattle.layout.specs.Decode.{steps, passed, skip, turn, reading, place_of}
use Rattle.layout.specs.Moves.{wrap, back, lefts, rights}
use Rattle.layout.specs.Reading.{run_from, home_of}
use Rattle.layout.proofs.Wraps.{wrap-first}
use Rattle.layout.proofs.Walks.{lefts-length, rights-length, left-start, left-stop, right-start, right-found, read, seen}
use Rattle.layout.proofs.RunLaws.{located, carried}

module _ (ws : List ℕ) (c v : ℕ) (hc : c < length ws) (h : 1 < length ws) (ev : v ≡ get_or ws c 0) (z : v / 2 % 4 ≡ 0) where
  self : c ≡ back (length ws) c 0
  unfolding back
  self = (omega arith) ∙ sym (ap (λ (y : Bool). cond y (c - 0) (c + length ws - 0)) (le-leb 0 c (omega arith)))

  none_left : (steps (lefts ws c) ≡ 0) × (passed (lefts ws c) ≡ 0)
  none_left =
      left-stop (lefts ws c) 0 0 v (omega (arith, lefts-length ws c))
      (ev ∙ seen ws c 0 (length ws) c hc (omega arith) refl self) (left-start (lefts ws c)) (omega arith)

  home : c ≡ home_of (length ws) c 0
  unfolding home_of
  home = self ∙ sym (ap (λ (y : Bool). cond y (back (length ws) c 0) (wrap (length ws) c 1)) (lt-ltb 0 (length ws) (omega arith)))

  none_right : skip 0 (rights ws c) ≡ 0
  none_right =
      let e : get_or ws c 0 / 2 % 2 ≡ 0 = omega arith in
      right-found (rights ws c) 0 0 0 (get_or ws c 0 / 2 % 2) (get_or ws c 0 / 8) (omega (arith, rights-length ws c))
      (read ws c 0 (length ws) c hc (omega arith) refl (wrap-first (length ws) c hc)) (right-start (rights ws c) 0) e refl

  pub home-located : run_from ws c 0 ≡ reading (turn (suc c) ws)
  home-located = located ws c 0 0 c 0 hc h none_left.0 none_left.1 home none_right

  pub home-carried : 0 ≡ place_of ws c
  home-carried = carried ws c 0 0 c 0 hc h none_left.0 none_left.1 home none_right
