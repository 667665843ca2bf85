-- Double: its six tests in their order decide its number; else the new words, and the record with the new table.
use mathlib.Core.Path.{◌≡◌, refl, sym, ap, ◌∙◌}
use mathlib.Core.Bool.{Bool, true, false, cond, ◌&&◌}
use mathlib.Core.List.{List, [], ◌∷◌}
use Prim.Native.Nat.{ℕ, zero, suc, ◌+◌, ◌-◌, ◌≤◌, ◌^◌}
use native.Mathlib.Omega.{arith}
use lib.Dec.{eqb}
use lib.ListN.{length}
use borrow.Author.Tests.{eq-eqb, ne_eqb}
use Rattle.lists.proofs.Tests.{test-true, true-test}
use Rattle.keeps.proofs.Bounds.{bounds}
use Rattle.filter.proofs.Quicks.{less}
use Rattle.slots.specs.Numbers.{extra}
use Rattle.directory.specs.declared.Place.{Place}
use Rattle.rules.specs.Record.{Filter, change, width, fresh_at, width_at, annex_used}
use Rattle.rules.specs.Refusals.{refusal, record_right, slices_right}
use Rattle.rules.specs.Sound.{sound}
use Rattle.rules.specs.Calls.{give, refused, asked}
use Rattle.rules.specs.Slow.{audit, hashes, room_for, double_number, second_main, doubled_outcome, double}
use Rattle.keeps.proofs.State.{Good, long}
use Rattle.keeps.proofs.Audits.{audit-good}
use Rattle.doubling.specs.Accepted as doubling
use Rattle.filter.specs.Promises.{Leaves, Doubles, BeforeRoom}
use Rattle.filter.proofs.Outcomes.{leaves, given}

pub not-zero : (n : ℕ) → suc n ≡ 0 → ⊥
not-zero n e = omega arith

-- the width after the next doubling, as the code adds it
pub next-width-is : (r : Filter) (e : ℕ) → e ≡ extra r.regime (r.k + 1 - r.start) → r.f + e + 1 ≡ width_at r (r.k + 1)
unfolding width_at fresh_at
next-width-is r e h = ap (λ (x : ℕ). r.f + x + 1) h

pub annex_long : (r : Filter) (main queue annex : List ℕ) (taken : ℕ) → taken ≡ annex_used r → Good r main queue annex → taken ≤ length annex
annex_long r main queue annex taken e g = omega (arith, e, (long r main queue annex g.slices-right).annex_long)

module _ (r : Filter) (main queue annex : List ℕ) (second : ℕ) where
  pub number-2 : record_right r ≡ false → 2 ≡ double_number r main queue annex second
  unfolding double_number refusal
  number-2 e = rw (e, refusal)

  module _ (re : record_right r ≡ true) where
    pub number-9 : r.k ≡ 20 → 9 ≡ double_number r main queue annex second
    unfolding double_number refusal
    number-9 e = rw (re, eq-eqb r.k 20 e, refusal)

    module _ (nk : r.k ≡ 20 → ⊥) where
      and-false : (b : Bool) → b && false ≡ false
      and-false true = refl
      and-false false = refl

      pub number-3 : (n : ℕ) → n ≡ 2 ^ (r.k + 1) → (second ≡ n → ⊥) → 3 ≡ double_number r main queue annex second
      unfolding double_number refusal
      number-3 n en ne =
          rw (
            re,
            ne_eqb r.k 20 nk,
            ne_eqb second (2 ^ (r.k + 1)) (λ e. ne (e ∙ sym en)),
            and-false
                (slices_right r (length main) (length queue) (length annex)),
            refusal,
          )

      module _ (n : ℕ) (en : n ≡ 2 ^ (r.k + 1)) (es : second ≡ n) where
        -- 3 and 4, as Audit gives them
        by-audit : (s o : Bool) (a : ℕ) → (a ≡ 0 → ⊥)
            → a ≡ refusal (record { right = true; number = 2 } ∷ record { right = s; number = 3 } ∷ record { right = o; number = 4 } ∷ [])
            → (ts : List Rattle.rules.specs.Refusals.Test) → a ≡ refusal (record { right = s && true; number = 3 } ∷ record { right = o; number = 4 } ∷ ts)
        unfolding refusal
        by-audit true true a ne e ts = absurd (ne e)
        by-audit true false a ne e ts = e
        by-audit false o a ne e ts = e

        pub number-audit : (a : ℕ) → a ≡ audit r main queue annex → (a ≡ 0 → ⊥) → a ≡ double_number r main queue annex second
        unfolding double_number audit asked refusal
        number-audit a e ne =
            rw (re, ne_eqb r.k 20 nk, eq-eqb second (2 ^ (r.k + 1)) (es ∙ en), refusal)
            (by-audit (slices_right r (length main) (length queue) (length annex)) (sound r main queue annex) a ne
            (e ∙ ap (λ (b : Bool). refusal
            (record { right = b; number = 2 } ∷ record { right = slices_right r (length main) (length queue) (length annex); number = 3 }
            ∷ record { right = sound r main queue annex; number = 4 } ∷ [])) re)
            (record { right = eqb r.queued 0; number = 8 }
            ∷ record { right = room_for r main queue annex (hashes r main queue annex); number = 10 } ∷ []))

        module _ (z : 0 ≡ audit r main queue annex) where
          slices : slices_right r (length main) (length queue) (length annex) ≡ true
          slices = test-true _ (audit-good r main queue annex (sym z)).slices-right

          is_sound : sound r main queue annex ≡ true
          is_sound = test-true _ (audit-good r main queue annex (sym z)).is_sound

          pub number-8 : (r.queued ≡ 0 → ⊥) → 8 ≡ double_number r main queue annex second
          unfolding double_number refusal
          number-8 q = rw (re, ne_eqb r.k 20 nk, eq-eqb second (2 ^ (r.k + 1)) (es ∙ en), slices, is_sound, ne_eqb r.queued 0 q, refusal)

          pub number-10 : r.queued ≡ 0 → (b : Bool) → b ≡ room_for r main queue annex (hashes r main queue annex) → b ≡ false
              → 10 ≡ double_number r main queue annex second
          unfolding double_number refusal
          number-10 q b eb f = rw (re, ne_eqb r.k 20 nk, eq-eqb second (2 ^ (r.k + 1)) (es ∙ en), slices, is_sound, eq-eqb r.queued 0 q, sym eb ∙ f, refusal)

          pub number-0 : r.queued ≡ 0 → (b : Bool) → b ≡ room_for r main queue annex (hashes r main queue annex) → b ≡ true
              → 0 ≡ double_number r main queue annex second
          unfolding double_number refusal
          number-0 q b eb f = rw (re, ne_eqb r.k 20 nk, eq-eqb second (2 ^ (r.k + 1)) (es ∙ en), slices, is_sound, eq-eqb r.queued 0 q, sym eb ∙ f, refusal)

module _ (r : Filter) (main queue annex : List ℕ) (second : ℕ) where
  -- a refusal before the annex is asked
  pub before-refused : (n : ℕ) → (n ≡ 0 → ⊥) → n ≡ double_number r main queue annex second → BeforeRoom r main queue annex second n
  before-refused n ne e =
      record { refused = λ _. e; right = λ z. absurd (ne z); low = λ z. absurd (ne z); accepted = λ z. absurd (ne z); room = λ z. absurd (ne z) }

  picked : (b : Bool) → (b ≡ false → 10 ≡ double_number r main queue annex second) → (b ≡ true → 0 ≡ double_number r main queue annex second)
      → double_number r main queue annex second ≡ cond b 0 10
  picked true f g = sym (g refl)
  picked false f g = sym (f refl)

  -- none of them is given
  pub before-none : record_right r ≡ true → (r.k ≡ 20 → ⊥) → (n : ℕ) → n ≡ 2 ^ (r.k + 1) → second ≡ n → 0 ≡ audit r main queue annex → r.queued ≡ 0
      → BeforeRoom r main queue annex second 0
  before-none re nk n en es z q =
      let t = true-test _ re in
      record {
        refused = λ ne. absurd (ne refl);
        right = λ _. t;
        low = λ _. less r.k 20 (bounds r t).k_20 nk;
        accepted = λ _. sym z;
        room = λ _ b eb. picked b (λ f. number-10 r main queue annex second re nk n en es z q b eb f)
            (λ f. number-0 r main queue annex second re nk n en es z q b eb f);
      }

module _ (r : Filter) (main queue annex second : List ℕ) where
  pub double-refused : (n : ℕ) → n ≡ double_number r main queue annex (length second) → (n ≡ 0 → ⊥)
      → Doubles r main queue annex second n r main queue annex second
  unfolding double second_main refused
  double-refused zero e ne = absurd (ne refl)
  double-refused (suc n) e ne =
      record {
        left = rw (given r main queue annex (double_number r main queue annex (length second)) n (doubled_outcome r main queue annex) (sym e))
            (leaves (refused r main queue annex (suc n)));
        second_is = rw (sym e, second_main);
      }

  module _ (z : 0 ≡ double_number r main queue annex (length second)) where
    pub accepted : (w v taken n : ℕ) → w ≡ width r → v ≡ width_at r (r.k + 1) → taken ≡ annex_used r → n ≡ length (hashes r main queue annex)
        → doubling.Accepted main second annex r.k w v taken n r.dir
    accepted w v taken n ew ev et en =
        record { r = r; queue = queue; numbers = record { is_k = refl; is_w = ew; is_v = ev; is_taken = et; is_n = en; is_places = refl }; number = sym z }

    pub numbers : (w v taken n : ℕ) → w ≡ width r → v ≡ width_at r (r.k + 1) → taken ≡ annex_used r → n ≡ length (hashes r main queue annex)
        → doubling.Numbers r main queue annex r.k w v taken n r.dir
    numbers w v taken n ew ev et en = record { is_k = refl; is_w = ew; is_v = ev; is_taken = et; is_n = en; is_places = refl }

    done : (annex' : List ℕ) (u : ℕ) (d : List Place) (second' : List ℕ) → doubling.Done r main queue annex second' annex' u d
        → Leaves (doubled_outcome r main queue annex) 0 (change r (r.k + 1) u 0 d) main queue annex'
    unfolding doubled_outcome change
    done annex' u d second' l =
        record {
          number_is = refl;
          rec_is = λ i. record { k = r.k + 1; start = r.start; f = r.f; regime = r.regime; used = l.used_is i; queued = 0; dir = l.places_is i };
          main_is = refl;
          queue_is = refl;
          annex_is = l.annex_is;
        }

    pub double-done : (annex' : List ℕ) (u : ℕ) (d : List Place) (second' : List ℕ) → doubling.Done r main queue annex second' annex' u d
        → Doubles r main queue annex second 0 (change r (r.k + 1) u 0 d) main queue annex' second'
    unfolding double give second_main
    double-done annex' u d second' l =
        record {
          left = rw (sym z, give) (done annex' u d second' l);
          second_is = l.second_is ∙ rw (sym z, second_main);
        }

  -- where 10 is left, it is given where there is no room
  pub number-room : (n : ℕ) → n ≡ 0 → BeforeRoom r main queue annex (length second) n → (b : Bool)
      → b ≡ room_for r main queue annex (hashes r main queue annex) → cond b 0 10 ≡ double_number r main queue annex (length second)
  number-room n z v b e = sym (v.room z b e)
