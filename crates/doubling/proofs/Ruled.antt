-- What the accepted case gives back is what the rules say, by cases on whether there are new mother hashes.
use mathlib.Core.Path.{◌≡◌, refl, sym, ap, ap₂, ◌∙◌}
use mathlib.Core.Bool.{◌||◌}
use mathlib.Core.List.{List, [], ◌∷◌, ◌++◌, append_assoc}
use Prim.Native.Nat.{ℕ, ◌+◌, ◌-◌, ◌^◌, ◌≤◌}
use native.Mathlib.Omega.{arith}
use lib.Dec.{leb, eqb}
use lib.ListN.{length, take, drop, length-take, length-drop}
use lib.Seq.{drop-drop}
use Rattle.lists.specs.Runs.{total}
use Rattle.layout.specs.Machine.{layout}
use Rattle.layout.specs.Decode.{decode}
use Rattle.directory.specs.declared.Place.{Place}
use Rattle.directory.specs.Places.{places_in_use, fifteen}
use Rattle.rules.specs.Record.{Filter, width, in_use, annex_used}
use Rattle.rules.specs.Doubling.{doubled, new_hashes, size_for, table_of}
use Rattle.rules.specs.Slow.{hashes, room_for, doubled_runs, more_annex, more_dir}
use Rattle.doubling.specs.Accepted.{Numbers, Done}

-- a part of the annex
pub part_length : (annex : List ℕ) (taken x : ℕ) → taken + x ≤ length annex → length (take (taken + x - taken) (drop taken annex)) ≡ x
part_length annex taken x h = let e : taken + x - taken ≡ x = omega arith in rw e (length-take x (drop taken annex) ∙ omega (arith, length-drop taken annex))

module _ (r : Filter) (main queue annex : List ℕ) where
  none-annex : (ms : List ℕ) → length ms ≡ 0 → annex ≡ more_annex r main queue annex ms
  unfolding more_annex
  none-annex [] e = refl
  none-annex (m ∷ ms) e = absurd (omega arith)

  none-dir : (ms : List ℕ) → length ms ≡ 0 → r.dir ≡ more_dir r main queue annex ms
  unfolding more_dir
  none-dir [] e = refl
  none-dir (m ∷ ms) e = absurd (omega arith)

  some-annex : (ms : List ℕ) → (length ms ≡ 0 → ⊥)
      → take (annex_used r) annex ++ layout (table_of (r.k + 1) (size_for (length ms)) ms) ++ drop (annex_used r + 2 ^ size_for (length ms)) annex ≡ more_annex r main queue annex ms
  unfolding more_annex
  some-annex [] e = absurd (e refl)
  some-annex (m ∷ ms) e = refl

  some-dir : (ms : List ℕ) → (length ms ≡ 0 → ⊥)
      → fifteen (in_use r ++ (record { b = r.k + 1; s = size_for (length ms); count = length ms } ∷ [])) ≡ more_dir r main queue annex ms
  unfolding more_dir
  some-dir [] e = absurd (e refl)
  some-dir (m ∷ ms) e = refl

  -- what `count_new` and `room_for` answer, in the words of the rules
  pub count-is : (w n : ℕ) → w ≡ width r → ((k : ℕ) → n ≡ length (new_hashes w k 0 (decode main))) → n ≡ length (hashes r main queue annex)
  unfolding hashes
  count-is w n e h = h r.k ∙ ap (λ (x : ℕ). length (new_hashes x r.k 0 (decode main))) e

  pub room-is : (taken n : ℕ) → taken ≡ annex_used r → n ≡ length (hashes r main queue annex)
      → (eqb n 0 || leb (taken + 2 ^ size_for n) (length annex)) ≡ room_for r main queue annex (hashes r main queue annex)
  unfolding room_for
  room-is taken n e f = ap₂ (λ (x y : ℕ). eqb y 0 || leb (x + 2 ^ size_for y) (length annex)) e f

  module _ (k w v taken n : ℕ) (places : List Place) (e : Numbers r main queue annex k w v taken n places) (second : List ℕ) (used : ℕ)
      (es : second ≡ layout (doubled w v (decode main))) (eu : used ≡ total (doubled w v (decode main))) where
    runs-are : doubled w v (decode main) ≡ doubled_runs r main queue annex
    unfolding doubled_runs
    runs-are = ap₂ (λ (x y : ℕ). doubled x y (decode main)) e.is_w e.is_v

    hashes-are : new_hashes w k 0 (decode main) ≡ hashes r main queue annex
    unfolding hashes
    hashes-are = ap₂ (λ (x y : ℕ). new_hashes x y 0 (decode main)) e.is_w e.is_k

    pub done_none : n ≡ 0 → Done r main queue annex second annex used places
    done_none z =
        let ms : List ℕ = hashes r main queue annex in
        let l : length ms ≡ 0 = sym e.is_n ∙ z in
        record {
          second_is = es ∙ ap layout runs-are;
          annex_is = none-annex ms l;
          used_is = eu ∙ ap total runs-are;
          places_is = e.is_places ∙ none-dir ms l;
        }

    pub done-some : (s x : ℕ) (part : List ℕ) (more : List Place) → (n ≡ 0 → ⊥) → s ≡ size_for n → x ≡ 2 ^ s
        → part ≡ layout (table_of (k + 1) s (new_hashes w k 0 (decode main))) → more ≡ fifteen (places_in_use places ++ (record { b = k + 1; s = s; count = n } ∷ []))
        → Done r main queue annex second (take taken annex ++ (part ++ drop (taken + x - taken) (drop taken annex))) used more
    done-some s x part more z e-s e-x e-part e-more =
        record {
          second_is = es ∙ ap layout runs-are;
          annex_is = ap (λ (l : List ℕ). take taken annex ++ (part ++ l)) (drop-drop (taken + x - taken) taken annex ∙ ap (λ (y : ℕ). drop y annex) ends) ∙ words ∙ some-annex ms some;
          used_is = eu ∙ ap total runs-are;
          places_is = e-more ∙ dir ∙ some-dir ms some;
        }
      where
        ms : List ℕ
        ms = hashes r main queue annex

        some : length ms ≡ 0 → ⊥
        some l = z (e.is_n ∙ l)

        size_is : s ≡ size_for (length ms)
        size_is = e-s ∙ ap size_for e.is_n

        ends : taken + (taken + x - taken) ≡ annex_used r + 2 ^ size_for (length ms)
        ends = omega (arith, e.is_taken, e-x, ap (λ (y : ℕ). 2 ^ y) size_is)

        table_is : part ≡ layout (table_of (r.k + 1) (size_for (length ms)) ms)
        table_is =
            e-part ∙ ap (λ (l : List ℕ). layout (table_of (k + 1) s l)) hashes-are
            ∙ ap₂ (λ (x y : ℕ). layout (table_of (x + 1) y ms)) e.is_k size_is

        words : take taken annex ++ (part ++ drop (annex_used r + 2 ^ size_for (length ms)) annex)
            ≡ take (annex_used r) annex ++ layout (table_of (r.k + 1) (size_for (length ms)) ms) ++ drop (annex_used r + 2 ^ size_for (length ms)) annex
        words =
            ap₂ (λ (x : ℕ) (l : List ℕ). take x annex ++ (l ++ drop (annex_used r + 2 ^ size_for (length ms)) annex)) e.is_taken table_is
            ∙ sym (append_assoc (take (annex_used r) annex) (layout (table_of (r.k + 1) (size_for (length ms)) ms)) (drop (annex_used r + 2 ^ size_for (length ms)) annex))

        place_is : (a b c d f g : ℕ) → a ≡ b → c ≡ d → f ≡ g → ◌≡◌ {A = Place} (record { b = a; s = c; count = f }) (record { b = b; s = d; count = g })
        place_is a b c d f g p q t = ap₂ (λ (x y : ℕ). record { b = x; s = y; count = f }) p q ∙ ap (λ (x : ℕ). record { b = b; s = d; count = x }) t

        dir : fifteen (places_in_use places ++ (record { b = k + 1; s = s; count = n } ∷ []))
            ≡ fifteen (in_use r ++ (record { b = r.k + 1; s = size_for (length ms); count = length ms } ∷ []))
        dir =
            ap₂ (λ (l : List Place) (p : Place). fifteen (places_in_use l ++ (p ∷ []))) e.is_places
            (place_is (k + 1) (r.k + 1) s (size_for (length ms)) n (length ms) (ap (λ (x : ℕ). x + 1) e.is_k) size_is e.is_n)
