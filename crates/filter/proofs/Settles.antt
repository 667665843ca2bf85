-- Settle: refused as Audit says; else the settled words, and the record with the counts that are left.
use mathlib.Core.Path.{◌≡◌, refl, sym}
use mathlib.Core.List.{List}
use Prim.Native.Nat.{ℕ, zero, suc}
use Rattle.directory.specs.declared.Place.{Place}
use Rattle.rules.specs.Record.{Filter, change, width}
use Rattle.rules.specs.Calls.{give, refused}
use Rattle.rules.specs.Slow.{audit, held_after, settled, settle}
use Rattle.keeps.proofs.Audits.{audit-good}
use Rattle.settling.specs.Ready as settling
use Rattle.filter.specs.Promises.{Leaves}
use Rattle.filter.proofs.Outcomes.{leaves, given}

module _ (r : Filter) (main queue annex : List ℕ) where
  pub settle-refused : (n : ℕ) → n ≡ audit r main queue annex → (n ≡ 0 → ⊥) → Leaves (settle r main queue annex) n r main queue annex
  unfolding settle refused
  settle-refused zero e ne = absurd (ne refl)
  settle-refused (suc n) e ne =
      rw (given r main queue annex (audit r main queue annex) n (settled r main queue annex (held_after r main queue annex)) (sym e))
      (leaves (refused r main queue annex (suc n)))

  pub ready : 0 ≡ audit r main queue annex → (w : ℕ) → w ≡ width r → settling.Ready r.k w r.used r.queued r.dir main queue annex
  ready z w ew =
      let g = audit-good r main queue annex (sym z) in
      record {
        r = r;
        numbers = record { k_is = refl; w_is = sym ew; used_is = refl; queued_is = refl; places_are = refl };
        record-right = g.record-right;
        slices-right = g.slices-right;
        is_sound = g.is_sound;
      }

  pub numbers : (w : ℕ) → w ≡ width r → settling.Numbers r r.k w r.used r.queued r.dir
  numbers w ew = record { k_is = refl; w_is = sym ew; used_is = refl; queued_is = refl; places_are = refl }

  done : (main' annex' : List ℕ) (u : ℕ) (d : List Place) → settling.Leaves (settled r main queue annex (held_after r main queue annex)) main' annex' u d
      → Leaves (settled r main queue annex (held_after r main queue annex)) 0 (change r r.k u 0 d) main' queue annex'
  unfolding settled change
  done main' annex' u d l =
      record {
        number_is = refl;
        rec_is = λ i. record { k = r.k; start = r.start; f = r.f; regime = r.regime; used = l.used_is i; queued = 0; dir = l.places_are i };
        main_is = l.main_is;
        queue_is = refl;
        annex_is = l.annex_is;
      }

  pub settle-done : 0 ≡ audit r main queue annex → (main' annex' : List ℕ) (u : ℕ) (d : List Place)
      → settling.Leaves (settled r main queue annex (held_after r main queue annex)) main' annex' u d
      → Leaves (settle r main queue annex) 0 (change r r.k u 0 d) main' queue annex'
  unfolding settle give
  settle-done z main' annex' u d l = rw (sym z, give) (done main' annex' u d l)
