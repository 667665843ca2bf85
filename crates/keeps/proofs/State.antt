-- A state that passes the tests of document 01, as facts over what its tables hold, and back: each test is taken apart and put together again.
use mathlib.Core.Path.{◌≡◌}
use mathlib.Core.Bool.{◌&&◌}
use mathlib.Core.List.{List, []}
use Prim.Native.Nat.{ℕ, ◌-◌, ◌*◌, ◌/◌, ◌^◌, ◌≤◌, ◌<◌}
use native.Mathlib.Omega.{arith}
use lib.Dec.{leb, ltb, eqb, T, leb→le, le→leb, ltb→lt, lt→ltb, eqb→eq}
use lib.ListN.{length, get_or, take}
use Rattle.lists.specs.Lists.{every, within}
use Rattle.lists.specs.Runs.{Runs, count}
use Rattle.lists.proofs.Tests.{and_left, and_right, and_both, eq_test}
use Rattle.lists.proofs.Alls.{All, places-get, get-places, every-all, all-every, all_map}
use Rattle.slots.specs.Numbers.{limit}
use Rattle.slots.specs.Payload.{void, tombstone}
use Rattle.slots.proofs.NumberLaws.{limit-lt}
use Rattle.layout.specs.Decode.{decode}
use Rattle.directory.specs.Places.{places_not_in_use, places_right, zero_place, directory_right}
use Rattle.rules.specs.Record.{Filter, width, in_use, annex_used}
use Rattle.rules.specs.Refusals.{settings_right, record_right, slices_right}
use Rattle.rules.specs.Tables.{Table, tables, mothers_of}
use Rattle.rules.specs.Sound.{sound, main_entry, main_right, annex_right, queue_right, addresses_right, address_right, naming}
use Rattle.keeps.proofs.Holds.{Holds, length-words, length-decode, holds-right, right-holds}

-- what the three tests of document 01 say: record, lengths, soundness
pub record Good (r : Filter) (main queue annex : List ℕ) : Type 0 where
  pub record-right : T (record_right r)
  pub slices-right : T (slices_right r (length main) (length queue) (length annex))
  pub is_sound : T (sound r main queue annex)

-- the record alone
pub record Ranges (r : Filter) : Type 0 where
  pub settings : T (settings_right r.start r.f r.regime)
  pub low_k : r.start ≤ r.k
  pub high_k : r.k ≤ 20
  pub used_fits : r.used ≤ limit r.k
  pub queue_fits : r.queued ≤ 2 ^ 20
  pub places : T (places_right r.k 5 (in_use r))
  pub zeros : T (every zero_place (places_not_in_use r.dir))

pub ranges : (r : Filter) → T (record_right r) → Ranges r
unfolding record_right directory_right
ranges r g =
    let A = settings_right r.start r.f r.regime in
    let B = within r.start 20 r.k in
    let C = leb r.used (limit r.k) in
    let D = leb r.queued (2 ^ 20) in
    let E = places_right r.k 5 (in_use r) in
    let F = every zero_place (places_not_in_use r.dir) in
    let g1 = and_right A (B && (C && (D && (E && F)))) g in
    let g2 = and_right B (C && (D && (E && F))) g1 in
    let g3 = and_right C (D && (E && F)) g2 in
    let g4 = and_right D (E && F) g3 in
    let b = and_left B (C && (D && (E && F))) g1 in
    record {
      settings = and_left A (B && (C && (D && (E && F)))) g;
      low_k = leb→le _ _ (and_left (leb r.start r.k) (leb r.k 20) b);
      high_k = leb→le _ _ (and_right (leb r.start r.k) (leb r.k 20) b);
      used_fits = leb→le _ _ (and_left C (D && (E && F)) g2);
      queue_fits = leb→le _ _ (and_left D (E && F) g3);
      places = and_left E F g4;
      zeros = and_right E F g4;
    }

pub ranged : (r : Filter) → Ranges r → T (record_right r)
unfolding record_right directory_right
ranged r v =
    let A = settings_right r.start r.f r.regime in
    let B = within r.start 20 r.k in
    let C = leb r.used (limit r.k) in
    let D = leb r.queued (2 ^ 20) in
    let E = places_right r.k 5 (in_use r) in
    let F = every zero_place (places_not_in_use r.dir) in
    and_both A (B && (C && (D && (E && F)))) v.settings
    (and_both B (C && (D && (E && F))) (and_both (leb r.start r.k) (leb r.k 20) (le→leb _ _ v.low_k) (le→leb _ _ v.high_k))
    (and_both C (D && (E && F)) (le→leb _ _ v.used_fits)
    (and_both D (E && F) (le→leb _ _ v.queue_fits) (and_both E F v.places v.zeros))))

-- the lengths
pub record Long (r : Filter) (main queue annex : List ℕ) : Type 0 where
  pub main_long : length main ≡ 2 ^ r.k
  pub queue_long : r.queued ≤ length queue
  pub annex_long : annex_used r ≤ length annex

pub long : (r : Filter) (main queue annex : List ℕ) → T (slices_right r (length main) (length queue) (length annex)) → Long r main queue annex
unfolding slices_right
long r main queue annex s =
    let X = eqb (length main) (2 ^ r.k) in
    let Y = leb r.queued (length queue) in
    let Z = leb (annex_used r) (length annex) in
    let t = and_right X (Y && Z) s in
    record { main_long = eqb→eq _ _ (and_left X (Y && Z) s); queue_long = leb→le _ _ (and_left Y Z t); annex_long = leb→le _ _ (and_right Y Z t) }

-- one address
pub record Address (w : ℕ) (ts : List Table) (ws : List ℕ) (c : ℕ) (run : List ℕ) : Type 0 where
  pub tombstones : count (tombstone w) run ≡ count (c * 2) ws
  pub voids : count (void w) run ≡ mothers_of c ts - naming c ws

pub address-right : (w : ℕ) (ts : List Table) (ws : List ℕ) (c : ℕ) (run : List ℕ) → Address w ts ws c run → T (address_right w ts ws c run)
unfolding address_right
address-right w ts ws c run a =
    and_both (eqb (count (tombstone w) run) (count (c * 2) ws)) (eqb (count (void w) run) (mothers_of c ts - naming c ws))
    (eq_test _ _ a.tombstones) (eq_test _ _ a.voids)

pub right-address : (w : ℕ) (ts : List Table) (ws : List ℕ) (c : ℕ) (run : List ℕ) → T (address_right w ts ws c run) → Address w ts ws c run
unfolding address_right
right-address w ts ws c run t =
    let A = eqb (count (tombstone w) run) (count (c * 2) ws) in
    let B = eqb (count (void w) run) (mothers_of c ts - naming c ws) in
    record { tombstones = eqb→eq _ _ (and_left A B t); voids = eqb→eq _ _ (and_right A B t) }

-- the whole state
pub record Fine (r : Filter) (main queue annex : List ℕ) (runs : Runs) : Type 0 where
  pub settings : T (settings_right r.start r.f r.regime)
  pub low_k : r.start ≤ r.k
  pub high_k : r.k ≤ 20
  pub used_fits : r.used ≤ limit r.k
  pub queue_fits : r.queued ≤ 2 ^ 20
  pub queue_long : r.queued ≤ length queue
  pub places : T (places_right r.k 5 (in_use r))
  pub zeros : T (every zero_place (places_not_in_use r.dir))
  pub annex_long : annex_used r ≤ length annex
  pub annex-right : T (annex_right (in_use r) annex)
  pub table : Holds (main_entry (width r) r.k) r.k r.used main runs
  pub queue-right : All (λ w. w / 2 < 2 ^ r.k) (take r.queued queue)
  pub address : (c : ℕ) → c < 2 ^ r.k → Address (width r) (tables (in_use r) annex) (take r.queued queue) c (get_or runs c [])

pub fine : (r : Filter) (main queue annex : List ℕ) → Good r main queue annex → Fine r main queue annex (decode main)
unfolding sound main_right queue_right addresses_right
fine r main queue annex g =
    let v = ranges r g.record-right in
    let l = long r main queue annex g.slices-right in
    let ws = take r.queued queue in
    let ts = tables (in_use r) annex in
    let P = main_right r main in
    let Q = annex_right (in_use r) annex in
    let R = queue_right r queue in
    let S = addresses_right r main queue annex in
    let m1 = and_right P (Q && (R && S)) g.is_sound in
    let m2 = and_right Q (R && S) m1 in
    record {
      settings = v.settings;
      low_k = v.low_k;
      high_k = v.high_k;
      used_fits = v.used_fits;
      queue_fits = v.queue_fits;
      queue_long = l.queue_long;
      places = v.places;
      zeros = v.zeros;
      annex_long = l.annex_long;
      annex-right = and_left Q (R && S) m1;
      table = right-holds (main_entry (width r) r.k) r.k r.used main l.main_long (omega (arith, v.used_fits, limit-lt r.k)) (and_left P (Q && (R && S)) g.is_sound);
      queue-right =
          all_map (λ w. T (ltb (w / 2) (2 ^ r.k))) (λ w. w / 2 < 2 ^ r.k) (λ w t. ltb→lt (w / 2) (2 ^ r.k) t) ws
          (every-all (λ w. ltb (w / 2) (2 ^ r.k)) ws (and_left R S m2));
      address = λ c h.
          right-address (width r) ts ws c (get_or (decode main) c [])
          (places-get (address_right (width r) ts ws) (decode main) [] (and_right R S m2) c (omega (arith, length-decode main, l.main_long)));
    }

pub good : (r : Filter) (main queue annex : List ℕ) (runs : Runs) → Fine r main queue annex runs → Good r main queue annex
unfolding slices_right sound main_right queue_right addresses_right
good r main queue annex runs v =
    let X = eqb (length main) (2 ^ r.k) in
    let Y = leb r.queued (length queue) in
    let Z = leb (annex_used r) (length annex) in
    record {
      record-right = ranged r
          (record { settings = v.settings; low_k = v.low_k; high_k = v.high_k; used_fits = v.used_fits; queue_fits = v.queue_fits; places = v.places; zeros = v.zeros });
      slices-right = and_both X (Y && Z) (eq_test _ _ (length-words v.table)) (and_both Y Z (le→leb _ _ v.queue_long) (le→leb _ _ v.annex_long));
      is_sound =
          and_both (main_right r main) (annex_right (in_use r) annex && (queue_right r queue && addresses_right r main queue annex)) (holds-right v.table)
          (and_both (annex_right (in_use r) annex) (queue_right r queue && addresses_right r main queue annex) v.annex-right
          (and_both (queue_right r queue) (addresses_right r main queue annex)
          (all-every (λ w. ltb (w / 2) (2 ^ r.k)) ws
          (all_map (λ w. w / 2 < 2 ^ r.k) (λ w. T (ltb (w / 2) (2 ^ r.k))) (λ w h. lt→ltb (w / 2) (2 ^ r.k) h) ws v.queue-right))
          (rw v.table.held (get-places (address_right (width r) ts ws) runs [] each))));
    }
  where
    ts : List Table
    ts = tables (in_use r) annex

    ws : List ℕ
    ws = take r.queued queue

    each : (c : ℕ) → c < length runs → T (address_right (width r) ts ws c (get_or runs c []))
    each c h = address-right (width r) ts ws c (get_or runs c []) (v.address c (omega (arith, v.table.size)))
