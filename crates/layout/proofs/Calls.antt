-- What a call does to a table, by address and words: one run of the circle changes.
use mathlib.Core.Path.{◌≡◌, sym, ap, ap₂, ◌∙◌}
use mathlib.Core.List.{List, [], ◌∷◌, ◌++◌}
use Prim.Native.Nat.{ℕ, suc, ◌+◌, ◌<◌}
use native.Mathlib.Omega.{arith}
use lib.ListN.{length, take, drop, get_or, set, length-append, length-set}
use lib.Seq.{set_split, drop-cons, drop_at, take_at, length-take-le}
use Rattle.layout.specs.Machine.{occupied, left, pend, layout}
use Rattle.lists.specs.Runs.{total}
use Rattle.layout.specs.Decode.{turn}
use Rattle.layout.proofs.Round.{turn-layout}
use Rattle.layout.proofs.Same.{carry-pend, turn-length, total-turn}
use Rattle.layout.specs.Document.{carry}
use Rattle.layout.proofs.Insert.{pend-others}
use Rattle.layout.proofs.InsertLaw.{insert-law}
use Rattle.layout.proofs.RemoveLaw.{remove-law}
use Rattle.layout.specs.Moves.{insert_at, remove_at}

-- the other slots of the circle, from the one after c
abbrev pub others : List (List ℕ) → ℕ → List (List ℕ)
others runs c = drop (suc c) runs ++ take c runs

pub turn-own : (runs : List (List ℕ)) (c : ℕ) → c < length runs → turn c runs ≡ get_or runs c [] ∷ others runs c
turn-own runs c h = ap (λ (l : List (List ℕ)). l ++ take c runs) (drop-cons runs c [] h)

pub turn-set : (runs : List (List ℕ)) (c : ℕ) (r : List ℕ) → c < length runs → turn c (set runs c r) ≡ r ∷ others runs c
turn-set runs c r h =
    let n : length (take c runs) ≡ c = length-take-le c runs (omega arith) in
    ap (turn c) (set_split runs c r h)
    ∙ ap₂ (λ (a b : List (List ℕ)). a ++ b) (drop_at (take c runs) (r ∷ drop (suc c) runs) c n) (take_at (take c runs) (r ∷ drop (suc c) runs) c n)

module _ (runs : List (List ℕ)) (c : ℕ) (hc : c < length runs) (us vs : List ℕ) (x : ℕ) where
  -- INSERT, at an address whose run is us and then vs
  pub insert-at : get_or runs c [] ≡ us ++ vs → suc (total runs) < length runs
      → turn c (layout (set runs c (us ++ (x ∷ vs)))) ≡ insert_at (length us) (occupied (us ++ vs)) (carry runs c + length us) x (turn c (layout runs))
  unfolding total
  insert-at e h =
      let s = others runs c in
      let old : turn c runs ≡ (us ++ vs) ∷ s = turn-own runs c hc ∙ ap (λ (r : List ℕ). r ∷ s) e in
      let new : turn c (set runs c (us ++ (x ∷ vs))) ≡ (us ++ (x ∷ vs)) ∷ s = turn-set runs c (us ++ (x ∷ vs)) hc in
      let a = length-append us (x ∷ vs) in
      let b = length-append us vs in
      let t₁ = ap total old in
      let t₂ = ap length old in
      let t₃ = total-turn c runs in
      let t₄ = turn-length c runs in
      let n₁ = length-set runs c (us ++ (x ∷ vs)) in
      let n₂ = ap total new in
      let n₃ = total-turn c (set runs c (us ++ (x ∷ vs))) in
      let small : total ((us ++ (x ∷ vs)) ∷ s) < length ((us ++ (x ∷ vs)) ∷ s) = omega arith in
      let small' : total (set runs c (us ++ (x ∷ vs))) < length (set runs c (us ++ (x ∷ vs))) = omega arith in
      let q : length (left s []) ≡ carry runs c =
      ap length (sym (pend-others (us ++ vs) s (omega arith)) ∙ ap pend (sym old)) ∙ sym (carry-pend runs c hc (omega arith)) in
      turn-layout c (set runs c (us ++ (x ∷ vs))) (omega arith) small'
      ∙ ap layout new
      ∙ insert-law us vs x s small
      ∙ ap₂ (λ (k : ℕ) (l : List ℕ). insert_at (length us) (occupied (us ++ vs)) (k + length us) x l) q
      (ap layout (sym old) ∙ sym (turn-layout c runs (omega arith) (omega arith)))

  -- REMOVE, at an address whose run is us, x and then vs
  pub remove-at : get_or runs c [] ≡ us ++ (x ∷ vs) → total runs < length runs
      → turn c (layout (set runs c (us ++ vs))) ≡ remove_at (length us) (length vs) (carry runs c + length us) (turn c (layout runs))
  unfolding total
  remove-at e h =
      let s = others runs c in
      let old : turn c runs ≡ (us ++ (x ∷ vs)) ∷ s = turn-own runs c hc ∙ ap (λ (r : List ℕ). r ∷ s) e in
      let new : turn c (set runs c (us ++ vs)) ≡ (us ++ vs) ∷ s = turn-set runs c (us ++ vs) hc in
      let a = length-append us (x ∷ vs) in
      let b = length-append us vs in
      let t₁ = ap total old in
      let t₂ = ap length old in
      let t₃ = total-turn c runs in
      let t₄ = turn-length c runs in
      let n₁ = length-set runs c (us ++ vs) in
      let n₂ = ap total new in
      let n₃ = total-turn c (set runs c (us ++ vs)) in
      let small : total ((us ++ (x ∷ vs)) ∷ s) < length ((us ++ (x ∷ vs)) ∷ s) = omega arith in
      let small' : total (set runs c (us ++ vs)) < length (set runs c (us ++ vs)) = omega arith in
      let q : length (left s []) ≡ carry runs c =
      ap length (sym (pend-others (us ++ (x ∷ vs)) s small) ∙ ap pend (sym old)) ∙ sym (carry-pend runs c hc h) in
      turn-layout c (set runs c (us ++ vs)) (omega arith) small'
      ∙ ap layout new
      ∙ remove-law us vs x s small
      ∙ ap₂ (λ (k : ℕ) (l : List ℕ). remove_at (length us) (length vs) (k + length us) l) q
      (ap layout (sym old) ∙ sym (turn-layout c runs (omega arith) h))
