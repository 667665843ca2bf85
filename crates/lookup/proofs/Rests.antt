-- What is still to come of a run, by the word at its place: it is the next entry, or the run has ended.
use Rattle.std.proofs.Common.{◌≡◌, ℕ, zero, suc, ◌+◌, ◌/◌, ◌%◌, ◌<◌}
use Rattle.std.proofs.Common.{Bool, true, false, List, [], ◌∷◌, length, get_or, drop, refl, sym, ap, ◌∙◌, add-one, drop-cons, arith}
use lib.ListN.{drop_of_length-le}
use Rattle.layout.specs.Machine.{Entry, start}
use Rattle.layout.specs.Decode.{entry_of, mores}
use Rattle.layout.specs.Moves.{wrap, rights}
use Rattle.layout.specs.Reading.{here}
use Rattle.layout.proofs.Walks.{read, rights-length}
use Rattle.lookup.specs.Rest.{rest_of}

module _ (ws : List ℕ) (b place n i w : ℕ) (hb : b < n) (hn : length ws ≡ n) (h : place < n) (ei : i ≡ wrap n b place) (ew : w ≡ get_or ws i 0) where
  later : List Entry
  later = drop (place + 1) (rights ws b)

  cut : drop place (rights ws b) ≡ entry_of (w / 2 % 2) (w / 8) ∷ later
  unfolding later
  cut =
      drop-cons (rights ws b) place (start 0) (omega (arith, rights-length ws b))
      ∙ ap (λ (e : Entry). e ∷ drop (suc place) (rights ws b)) (read ws b place n i hb h hn ei ∙ ap (λ (v : ℕ). entry_of (v / 2 % 2) (v / 8)) (sym ew))
      ∙ ap (λ (j : ℕ). entry_of (w / 2 % 2) (w / 8) ∷ drop j (rights ws b)) (sym (add-one place))

  pub has-ended : w / 2 % 2 ≡ 0 → mores (drop place (rights ws b)) ≡ []
  unfolding mores
  has-ended z = ap mores (cut ∙ ap (λ (f : ℕ). entry_of f (w / 8) ∷ later) z)

  pub goes-on : (w / 2 % 2 ≡ 0 → ⊥) → mores (drop place (rights ws b)) ≡ w / 8 ∷ mores (drop (place + 1) (rights ws b))
  unfolding mores later
  goes-on nz = ap mores cut ∙ go (w / 2 % 2) nz
    where
      go : (f : ℕ) → (f ≡ 0 → ⊥) → mores (entry_of f (w / 8) ∷ later) ≡ w / 8 ∷ mores later
      go zero n = absurd (n refl)
      go (suc f) n = refl

  pub begins-here : here (drop place (rights ws b)) ≡ w / 8 ∷ mores (drop (place + 1) (rights ws b))
  unfolding here later
  begins-here = ap here cut ∙ go (w / 2 % 2)
    where
      go : (f : ℕ) → here (entry_of f (w / 8) ∷ later) ≡ w / 8 ∷ mores later
      go zero = refl
      go (suc f) = refl

-- past the last slot of the circle
pub all-passed : (begun : Bool) (ws : List ℕ) (b place : ℕ) → place ≡ length ws → rest_of begun (drop place (rights ws b)) ≡ []
all-passed begun ws b place e = ap (rest_of begun) (drop_of_length-le (rights ws b) {i = place} (omega (arith, rights-length ws b))) ∙ go begun
  where
    go : (v : Bool) → rest_of v [] ≡ []
    go true = unfold mores in refl
    go false = unfold here in refl
