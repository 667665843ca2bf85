-- The queue word by word, the annex table by table, and the parts put together: each test answers for what is left after those before it have passed.
use mathlib.Core.Path.{◌≡◌, refl, sym, ap, ap₂, ◌∙◌}
use mathlib.Core.Bool.{Bool, true, false, ◌&&◌}
use mathlib.Core.List.{List, [], ◌∷◌}
use Prim.Native.Nat.{ℕ, ◌+◌, ◌-◌, ◌/◌, ◌^◌, ◌≤◌, ◌<◌}
use native.Mathlib.Omega.{arith}
use lib.Dec.{T, ltb}
use lib.ListN.{length, take, drop, get_or}
use lib.Seq.{length-take-le}
use Rattle.std.specs.List.{list_all}
use Rattle.lists.specs.Lists.{every}
use Rattle.lists.proofs.Tests.{true-test}
use Rattle.slots.specs.Numbers.{limit}
use Rattle.slots.proofs.NumberLaws.{limit-lt}
use Rattle.layout.specs.Decode.{decode}
use Rattle.directory.specs.declared.Place.{Place}
use Rattle.directory.specs.Places.{no_place, places_in_use}
use Rattle.rules.specs.Record.{Filter, width}
use Rattle.rules.specs.Sound.{table_right, main_entry, annex_entry, annex_right, main_right, queue_right, addresses_right, sound}
use Rattle.sound.specs.declared.Spans.{Spans}
use Rattle.sound.specs.Spans.{allowed}
use Rattle.sound.proofs.Laps.{and-true}
use Rattle.sound.proofs.Tables.{right-laid}
use Rattle.sound.specs.Reading.{Laid}
use Rattle.counts.specs.Blocks.{address_test, right_from}
use Rattle.tallies.proofs.InUse.{Walk, none_left, not_taken, next-taken, part-is, rest-is}
use Rattle.audit.specs.Queue.{addresses_below}

-- ---- the queue

every_is : (f : ℕ → Bool) (l : List ℕ) → list_all f l ≡ every f l
unfolding every
every_is f [] = refl
every_is f (x ∷ l) = ap (λ (b : Bool). f x && b) (every_is f l)

pub queue-test : (queue : List ℕ) (k end : ℕ) (r : Bool) → end ≡ 2 ^ k → r ≡ list_all (λ w. ltb (w / 2) end) queue → r ≡ addresses_below k queue
unfolding addresses_below
queue-test queue k end r e h = h ∙ ap (λ (n : ℕ). list_all (λ w. ltb (w / 2) n) queue) e ∙ every_is (λ w. ltb (w / 2) (2 ^ k)) queue

-- ---- the annex

pub one_table : (l n : ℕ) (s : Spans) (r : Bool) (part : List ℕ) → allowed s ≡ annex_entry l → r ≡ table_right (allowed s) n part
    → r ≡ table_right (annex_entry l) n part
one_table l n s r part e f = f ∙ ap (λ (g : ℕ → Bool). table_right g n part) e

module _ (places : List Place) (annex : List ℕ) (i at : ℕ) (whole : Bool) (s : Walk places annex i at)
    (inv : whole ≡ annex_right (places_in_use (drop i places)) (drop at annex)) where
  none-wrong : places_in_use (drop i places) ≡ [] → true ≡ whole
  unfolding annex_right
  none-wrong e = sym (inv ∙ ap (λ (l : List Place). annex_right l (drop at annex)) e)

  pub annex-end : length places ≤ i → true ≡ whole
  annex-end h = none-wrong (none_left places i h)

  module _ (p : Place) (hi : i < length places) (ep : p ≡ get_or places i no_place) where
    pub annex-stop : p.b ≡ 0 → true ≡ whole
    annex-stop z = none-wrong (not_taken places i p hi ep z)

    module _ (nz : p.b ≡ 0 → ⊥) (size : ℕ) (es : size ≡ 2 ^ p.s) (fine : Bool)
        (ef : fine ≡ table_right (annex_entry (p.b - p.s)) p.count (take (at + size - at) (drop at annex))) where
      split : whole ≡ (fine && annex_right (places_in_use (drop (i + 1) places)) (drop (at + size) annex))
      unfolding annex_right
      split =
          inv ∙ ap (λ (l : List Place). annex_right l (drop at annex)) (next-taken places i p hi ep nz)
          ∙ ap₂ (λ (b : Bool) (a : List ℕ). b && annex_right (places_in_use (drop (i + 1) places)) a)
          (sym (ef ∙ ap (table_right (annex_entry (p.b - p.s)) p.count) (part-is places i p hi ep nz annex at s size es)))
          (rest-is places i p hi ep nz annex at s size es)

      pub annex-off : fine ≡ false → false ≡ whole
      annex-off g = sym (split ∙ ap (λ (b : Bool). b && annex_right (places_in_use (drop (i + 1) places)) (drop (at + size) annex)) g)

      pub annex-on : fine ≡ true → whole ≡ annex_right (places_in_use (drop (i + 1) places)) (drop (at + size) annex)
      annex-on g = split ∙ ap (λ (b : Bool). b && annex_right (places_in_use (drop (i + 1) places)) (drop (at + size) annex)) g

-- ---- together

-- soundness by the numbers of the record
abbrev counted : ℕ → ℕ → List Place → List ℕ → List ℕ → List ℕ → Bool
counted w queued places main queue annex = right_from (address_test w places annex (take queued queue)) 0 (decode main)

unfoldable state_right : ℕ → ℕ → ℕ → ℕ → List Place → List ℕ → List ℕ → List ℕ → Bool
state_right k w used queued places main queue annex =
    table_right (main_entry w k) used main
    && (annex_right (places_in_use places) annex && (addresses_below k (take queued queue) && counted w queued places main queue annex))

pub chained : (a b c x y : Bool) {z : Bool} → z ≡ (y && c) → y ≡ (x && b) → x ≡ a → z ≡ ((a && b) && c)
chained a b c x y e f g = e ∙ ap (λ (u : Bool). u && c) (f ∙ ap (λ (u : Bool). u && b) g)

in_order : (a b c d : Bool) → (((a && b) && c) && d) ≡ (a && (b && (c && d)))
in_order true b c d = go b
  where
    go : (x : Bool) → ((x && c) && d) ≡ (x && (c && d))
    go true = refl
    go false = refl
in_order false b c d = refl

pub below-limit : (k n x : ℕ) → n ≤ limit k → x ≡ 2 ^ k → n < x
below-limit k n x h e = omega (arith, limit-lt k)

pub part_small : (queue : List ℕ) (queued : ℕ) → queued ≤ length queue → queued ≤ 1048576 → length (take queued queue) ≤ 1048576
part_small queue queued h l = omega (arith, length-take-le queued queue h)

module _ (k w used queued : ℕ) (places : List Place) (main queue annex : List ℕ) where
  sound-is : (a : Bool) → a ≡ state_right k w used queued places main queue annex
      → (r : Filter) → r.k ≡ k → width r ≡ w → r.used ≡ used → r.queued ≡ queued → r.dir ≡ places → a ≡ sound r main queue annex
  unfolding state_right sound main_right queue_right addresses_right addresses_below right_from
  sound-is a e r ek ew eu eq ed =
      e
      ∙ sym (ap (λ (x : ℕ). state_right x (width r) r.used r.queued r.dir main queue annex) ek
      ∙ ap (λ (x : ℕ). state_right k x r.used r.queued r.dir main queue annex) ew
      ∙ ap (λ (x : ℕ). state_right k w x r.queued r.dir main queue annex) eu
      ∙ ap (λ (x : ℕ). state_right k w used x r.dir main queue annex) eq
      ∙ ap (λ (x : List Place). state_right k w used queued x main queue annex) ed)

  -- the tests before the counts, as the code takes them
  module _ (s : Spans) (es : allowed s ≡ main_entry w k) (passed : Bool)
      (ep : passed ≡ ((table_right (allowed s) used main && annex_right (places_in_use places) annex) && addresses_below k (take queued queue))) where
    parts : passed ≡ true → (table_right (main_entry w k) used main ≡ true) × (annex_right (places_in_use places) annex ≡ true)
    parts e =
        let t = and-true (table_right (allowed s) used main && annex_right (places_in_use places) annex) (addresses_below k (take queued queue)) (sym ep ∙ e) in
        let u = and-true (table_right (allowed s) used main) (annex_right (places_in_use places) annex) t.0 in
        (sym (ap (λ (f : ℕ → Bool). table_right f used main) es) ∙ u.0, u.1)

    pub so-laid : used ≤ limit k → length main ≡ 2 ^ k → passed ≡ true → Laid main
    so-laid h n e = right-laid (main_entry w k) used main (below-limit k used (length main) h n) (parts e).0

    pub so-stored : passed ≡ true → T (annex_right (places_in_use places) annex)
    so-stored e = true-test (annex_right (places_in_use places) annex) (parts e).1

    whole : (passed && counted w queued places main queue annex) ≡ state_right k w used queued places main queue annex
    unfolding state_right
    whole =
        ap (λ (b : Bool). b && counted w queued places main queue annex) ep
        ∙ in_order (table_right (allowed s) used main) (annex_right (places_in_use places) annex) (addresses_below k (take queued queue))
        (counted w queued places main queue annex)
        ∙ ap (λ (f : ℕ → Bool). table_right f used main
        && (annex_right (places_in_use places) annex && (addresses_below k (take queued queue) && counted w queued places main queue annex))) es

    pub all-counts : passed ≡ true → (a : Bool) → a ≡ right_from (address_test w places annex (take queued queue)) 0 (decode main)
        → (r : Filter) → r.k ≡ k → width r ≡ w → r.used ≡ used → r.queued ≡ queued → r.dir ≡ places → a ≡ sound r main queue annex
    all-counts e a ea = sound-is a (ea ∙ sym (ap (λ (b : Bool). b && counted w queued places main queue annex) e) ∙ whole)

    pub some_fails : passed ≡ false
        → (r : Filter) → r.k ≡ k → width r ≡ w → r.used ≡ used → r.queued ≡ queued → r.dir ≡ places → passed ≡ sound r main queue annex
    some_fails e = sound-is passed (e ∙ sym (ap (λ (b : Bool). b && counted w queued places main queue annex) e) ∙ whole)
