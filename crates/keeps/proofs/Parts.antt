-- A state from its parts, where the annex is given by the tables that it holds; and the tables of a state.
use mathlib.Core.Path.{◌≡◌, sym, ap, ap₂, ◌∙◌, subst}
use mathlib.Core.List.{List, [], ◌++◌, map}
use Prim.Native.Nat.{ℕ, ◌/◌, ◌^◌, ◌≤◌, ◌<◌}
use native.Mathlib.Omega.{arith}
use lib.Dec.{T}
use lib.ListN.{length, get_or, take, length-append}
use Rattle.lists.specs.Lists.{every}
use Rattle.lists.specs.Runs.{Runs}
use Rattle.lists.proofs.Alls.{All}
use Rattle.slots.specs.Numbers.{limit}
use Rattle.directory.specs.declared.Place.{Place}
use Rattle.directory.specs.Places.{places_not_in_use, places_right, zero_place, words_taken}
use Rattle.rules.specs.Record.{Filter, width, in_use}
use Rattle.rules.specs.Refusals.{settings_right}
use Rattle.rules.specs.Tables.{Table, tables, table_words, place_of}
use Rattle.rules.specs.Sound.{main_entry}
use Rattle.keeps.proofs.Holds.{Holds}
use Rattle.keeps.proofs.State.{Address, Fine}
use Rattle.keeps.proofs.Annex.{Tables, Read, read, written}

pub record Parts (r : Filter) (main queue annex rest : List ℕ) (runs : Runs) (ts : List Table) : Type 0 where
  pub settings : T (settings_right r.start r.f r.regime)
  pub low_k : r.start ≤ r.k
  pub high_k : r.k ≤ 20
  pub used_fits : r.used ≤ limit r.k
  pub queue_fits : r.queued ≤ 2 ^ 20
  pub queue_long : r.queued ≤ length queue
  pub are : Tables r.k 5 ts
  pub places : in_use r ≡ map place_of ts
  pub zeros : T (every zero_place (places_not_in_use r.dir))
  pub words : annex ≡ table_words ts ++ rest
  pub table : Holds (main_entry (width r) r.k) r.k r.used main runs
  pub queue-right : All (λ w. w / 2 < 2 ^ r.k) (take r.queued queue)
  pub address : (c : ℕ) → c < 2 ^ r.k → Address (width r) ts (take r.queued queue) c (get_or runs c [])

-- they are read back
pub parts-back : {r : Filter} {main queue annex rest : List ℕ} {runs : Runs} {ts : List Table} → Parts r main queue annex rest runs ts → tables (in_use r) annex ≡ ts
parts-back {r} {main} {queue} {annex} {rest} {runs} {ts} v = ap₂ tables v.places v.words ∙ (written r.k 5 ts rest v.are).back

pub parts-fine : {r : Filter} {main queue annex rest : List ℕ} {runs : Runs} {ts : List Table} → Parts r main queue annex rest runs ts → Fine r main queue annex runs
parts-fine {r} {main} {queue} {annex} {rest} {runs} {ts} v =
    let w = written r.k 5 ts rest v.are in
    record {
      settings = v.settings;
      low_k = v.low_k;
      high_k = v.high_k;
      used_fits = v.used_fits;
      queue_fits = v.queue_fits;
      queue_long = v.queue_long;
      places = subst (λ (x : List Place). T (places_right r.k 5 x)) (sym v.places) w.places;
      zeros = v.zeros;
      annex_long = omega (arith, ap words_taken v.places, ap length v.words, length-append (table_words ts) rest, w.long);
      annex-right = rw (v.places, v.words) w.right;
      table = v.table;
      queue-right = v.queue-right;
      address = λ c h. subst (λ (x : List Table). Address (width r) x (take r.queued queue) c (get_or runs c [])) (sym (parts-back v)) (v.address c h);
    }

pub tables-of : {r : Filter} {main queue annex : List ℕ} {runs : Runs} → Fine r main queue annex runs → Read r.k 5 (in_use r) annex
tables-of {r} {main} {queue} {annex} v = read r.k 5 (in_use r) annex v.places v.annex-right v.annex_long
