-- Demand 3 speaks of something: where every number computes to 0 and every delete and rejuvenate names a held hash, there is such a history. The checker computes one
-- in which entries are doubled to void, one is deleted and one rejuvenated, longer slices are lent after the refusals by 10 and 7, and Settle ends it.
use mathlib.Core.Path.{◌≡◌, refl}
use mathlib.Core.Bool.{Bool, true, ◌&&◌}
use mathlib.Core.List.{List, [], ◌∷◌, ◌++◌}
use Prim.Native.Nat.{ℕ, ◌+◌, ◌-◌, ◌*◌, ◌<◌}
use lib.Dec.{ltb, eqb, T, eqb→eq, ltb→lt, lit<}
use lib.ListN.{length, get_or, take, replicate}
use Rattle.lists.proofs.Tests.{and_left, and_right, same→eq}
use Rattle.lists.proofs.Alls.{every_get}
use Rattle.lists.specs.Lists
use Rattle.lists.specs.Runs
use Rattle.slots.specs.Numbers
use Rattle.slots.specs.Payload
use Rattle.layout.specs.Machine
use Rattle.layout.specs.Decode
use Rattle.directory.specs.Places
use Rattle.rules.specs.Record
use Rattle.rules.specs.Refusals
use Rattle.rules.specs.Tables
use Rattle.rules.specs.Sound
use Rattle.rules.specs.Settling
use Rattle.rules.specs.Doubling
use Rattle.rules.specs.Calls
use Rattle.rules.specs.Quick
use Rattle.rules.specs.Slow
use Rattle.history.specs.History.{Call, Query, Insert, Delete, Rejuvenate, Audit, Settle, Double, inserts, deletes, IsHeld, after, held, Valid, Words, left, Started, Accepted, History, Answered, with_bits, stored_hashes}
use Rattle.history.proofs.Demand3.{answered, exact}

-- ---- a history is played

-- Double is lent a second main of the right size, full of ones
abbrev pub second : Words → List ℕ
second s = replicate (length s.main * 2) 1

unfoldable pub number : Call → Words → ℕ
number (Query h) s = Quick.query_number s.rec s.main s.queue s.annex
number (Insert h) s = (Quick.insert s.rec s.main s.queue s.annex h).number
number (Delete h) s = (Quick.delete s.rec s.main s.queue s.annex h).number
number (Rejuvenate h) s = (Quick.rejuvenate s.rec s.main s.queue s.annex h).number
number Audit s = Slow.audit s.rec s.main s.queue s.annex
number Settle s = (Slow.settle s.rec s.main s.queue s.annex).number
number Double s = (Slow.double s.rec s.main s.queue s.annex (length (second s))).number

unfoldable pub next : Call → Words → Words
next (Query h) s = s
next (Insert h) s = left (Quick.insert s.rec s.main s.queue s.annex h)
next (Delete h) s = left (Quick.delete s.rec s.main s.queue s.annex h)
next (Rejuvenate h) s = left (Quick.rejuvenate s.rec s.main s.queue s.annex h)
next Audit s = s
next Settle s = left (Slow.settle s.rec s.main s.queue s.annex)
next Double s =
    record {
      rec = (Slow.double s.rec s.main s.queue s.annex (length (second s))).rec;
      main = Slow.second_main s.rec s.main s.queue s.annex (second s);
      queue = (Slow.double s.rec s.main s.queue s.annex (length (second s))).queue;
      annex = (Slow.double s.rec s.main s.queue s.annex (length (second s))).annex;
    }

accepted : (c : Call) (s : Words) → number c s ≡ 0 → Accepted c s (next c s)
unfolding Accepted next number
accepted (Query h) s e = (e, refl)
accepted (Insert h) s e = (e, refl)
accepted (Delete h) s e = (e, refl)
accepted (Rejuvenate h) s e = (e, refl)
accepted Audit s e = (e, refl)
accepted Settle s e = (e, refl)
accepted Double s e = record { second = second s; accepted = e; leaves = refl }

abbrev pub holds : ℕ → List Call → Bool
holds h cs = ltb (Lists.sum (deletes h) cs) (Lists.sum (inserts h) cs)

unfoldable pub right : Call → List Call → Bool
right (Query h) cs = true
right (Insert h) cs = true
right (Delete h) cs = holds h cs
right (Rejuvenate h) cs = holds h cs
right Audit cs = true
right Settle cs = true
right Double cs = true

valid : (c : Call) (cs : List Call) → T (right c cs) → Valid c cs
unfolding right Valid IsHeld
valid (Query h) cs t = tt
valid (Insert h) cs t = tt
valid (Delete h) cs t = ltb→lt (Lists.sum (deletes h) cs) (Lists.sum (inserts h) cs) t
valid (Rejuvenate h) cs t = ltb→lt (Lists.sum (deletes h) cs) (Lists.sum (inserts h) cs) t
valid Audit cs t = tt
valid Settle cs t = tt
valid Double cs t = tt

-- further calls, first to last, after the calls cs: all calls, the words at the end, and whether each is accepted and valid
unfoldable pub calls : List Call → List Call → List Call
calls [] cs = cs
calls (c ∷ ds) cs = calls ds (c ∷ cs)

unfoldable pub ends : List Call → Words → Words
ends [] s = s
ends (c ∷ ds) s = ends ds (next c s)

unfoldable pub playable : List Call → List Call → Words → Bool
playable [] cs s = true
playable (c ∷ ds) cs s = eqb (number c s) 0 && (right c cs && playable ds (c ∷ cs) (next c s))

played : (ds cs : List Call) (s : Words) → History cs s → T (playable ds cs s) → History (calls ds cs) (ends ds s)
unfolding calls ends playable
played [] cs s hi t = hi
played (c ∷ ds) cs s hi t =
    let A = eqb (number c s) 0 in
    let B = right c cs in
    let C = playable ds (c ∷ cs) (next c s) in
    let u = and_right A (B && C) t in
    played ds (c ∷ cs) (next c s)
    (History.called c hi (valid c cs (and_left B C u)) (accepted c s (eqb→eq (number c s) 0 (and_left A (B && C) t)))) (and_right B C u)

-- ---- one that is played: 20 and 84 have the same low six bits

-- no queue word and no annex word is lent
unfoldable pub begun : Words
begun = left (Calls.start 3 3 0 (replicate 8 9) [] [])

-- at k = 5 both entries have one bit left
unfoldable pub first : List Call
first = Insert 20 ∷ Insert 84 ∷ Double ∷ Double ∷ []

unfoldable pub refused-10 : Words
refused-10 = ends first begun

-- Double is refused by 10, and eight annex words are lent
unfoldable pub roomier : Words
roomier = record { rec = refused-10.rec; main = refused-10.main; queue = []; annex = replicate 8 9 }

-- at k = 6 both are void at 20, and at k = 7 both addresses have two voids
unfoldable pub middle : List Call
middle = Double ∷ Double ∷ []

unfoldable pub refused-7 : Words
refused-7 = ends middle roomier

-- Delete is refused by 7, and two queue words and a longer annex are lent
unfoldable pub longer : Words
longer = record { rec = refused-7.rec; main = refused-7.main; queue = 9 ∷ 9 ∷ []; annex = refused-7.annex ++ (9 ∷ 9 ∷ []) }

unfoldable pub taking : List Call
taking = Delete 20 ∷ Rejuvenate 84 ∷ []

-- the queue has two words, and Settle works them off
unfoldable pub queued : Words
queued = ends taking longer

unfoldable pub settling : List Call
settling = Settle ∷ Query 84 ∷ Audit ∷ []

unfoldable pub ended : Words
ended = ends settling queued

-- all the calls
unfoldable pub past : List Call
past = calls settling (calls taking (calls middle (calls first [])))

abbrev queue_same : Words → Words → Bool
queue_same s t = Lists.same (take s.rec.queued t.queue) (take s.rec.queued s.queue)

abbrev annex_same : Words → Words → Bool
annex_same s t = Lists.same (take (Record.annex_used s.rec) t.annex) (take (Record.annex_used s.rec) s.annex)

-- what the checker computes of them; before Settle and at the end, the numbers that demand 3 speaks of
unfoldable pub tests : List Bool
tests =
    playable first [] begun
    ∷ queue_same refused-10 roomier
    ∷ annex_same refused-10 roomier
    ∷ playable middle (calls first []) roomier
    ∷ queue_same refused-7 longer
    ∷ annex_same refused-7 longer
    ∷ playable taking (calls middle (calls first [])) longer
    ∷ playable settling (calls taking (calls middle (calls first []))) queued
    ∷ eqb (number Double refused-10) 10
    ∷ eqb (number (Delete 20) refused-7) 7
    ∷ eqb (with_bits queued) 1
    ∷ eqb (stored_hashes queued) 2
    ∷ eqb queued.rec.queued 2
    ∷ eqb (with_bits ended) 1
    ∷ eqb (stored_hashes ended) 0
    ∷ eqb ended.rec.queued 0
    ∷ eqb (length (held past)) 1
    ∷ []

computed : T (Lists.every (λ (b : Bool). b) tests)
unfolding tests past ended settling queued taking longer refused-7 middle roomier refused-10 first begun playable ends calls right next number
    held after inserts deletes with_bits stored_hashes
    Lists.same Lists.every Lists.some_of Lists.sum Lists.front Lists.behind Lists.map_at
    Runs.rises_from Runs.rising Runs.add Runs.erase Runs.erase_all Runs.has Runs.count Runs.hits Runs.total
    Numbers.limit Numbers.first_power Numbers.rounded_up_log Numbers.widening Numbers.extra
    Payload.pay Payload.void Payload.tombstone Payload.rest_of Payload.length_of Payload.fingerprint_of Payload.canonical_slot Payload.hash_bits Payload.matches Payload.fresh_payload
    Machine.mark Machine.emit Machine.rest Machine.scan Machine.left Machine.pend Machine.layout
    Decode.entry Decode.steps Decode.passed Decode.mores Decode.nth Decode.skip Decode.last_run Decode.last_place Decode.place_of Decode.run_at Decode.runs_from Decode.decode
    Places.places_right Places.directory_right Places.words_taken Places.part_in Places.keep Places.trim
    Record.change Record.fresh_at Record.width_at
    Refusals.refusal Refusals.settings_right Refusals.record_right Refusals.slices_right
    Tables.matching Tables.mothers_of Tables.tables Tables.table_words Tables.place_of
    Sound.laid Sound.table_right Sound.main_entry Sound.annex_entry Sound.annex_right Sound.naming Sound.address_right Sound.main_right Sound.queue_right Sound.addresses_right Sound.sound
    Settling.longest Settling.take_hash Settling.take_voids Settling.settle_found Settling.settle_word Settling.settle_all Settling.no_tombstones
    Doubling.half Doubling.half_run Doubling.doubled Doubling.become_void Doubling.new_hashes Doubling.size_from Doubling.table_of
    Calls.give Calls.refused Calls.asked Calls.start_number Calls.started Calls.start
    Quick.matches_in Quick.best Quick.query_number Quick.query Quick.insert_number Quick.inserted Quick.insert Quick.take_number Quick.deleted Quick.delete Quick.rejuvenated Quick.rejuvenate
    Slow.audit Slow.held_after Slow.settled Slow.settle Slow.hashes Slow.room_for Slow.double_number Slow.doubled_runs Slow.second_main Slow.more_annex Slow.more_dir Slow.doubled_outcome Slow.double
computed = tt

-- test n
test : (n : ℕ) → n < length tests → T (get_or tests n true)
test n h = every_get (λ (b : Bool). b) tests true computed n h

-- ---- the history

started : Started begun
unfolding begun Calls.start Calls.start_number Calls.started Refusals.refusal Refusals.settings_right Calls.give
started = record { power = 3; f = 3; regime = 0; main = replicate 8 9; queue = []; annex = []; accepted = refl; leaves = refl }

history-1 : History (calls first []) refused-10
unfolding tests refused-10
history-1 = played first [] begun (History.begun started) (test 0 (lit< tt))

history-2 : History (calls middle (calls first [])) refused-7
unfolding tests refused-7 roomier
history-2 =
    played middle (calls first []) roomier
    (History.lent history-1 (record { same_record = refl; same_main = refl; same_queue = same→eq _ _ (test 1 (lit< tt)); same_annex = same→eq _ _ (test 2 (lit< tt)) }))
    (test 3 (lit< tt))

history-3 : History (calls taking (calls middle (calls first []))) queued
unfolding tests queued longer
history-3 =
    played taking (calls middle (calls first [])) longer
    (History.lent history-2 (record { same_record = refl; same_main = refl; same_queue = same→eq _ _ (test 4 (lit< tt)); same_annex = same→eq _ _ (test 5 (lit< tt)) }))
    (test 6 (lit< tt))

pub history : History past ended
unfolding tests past ended
history = played settling (calls taking (calls middle (calls first []))) queued history-3 (test 7 (lit< tt))

-- ---- demand 3 of it

-- 84 is held: its fingerprint was gone, and it was rejuvenated
pub still-yes : Quick.query ended.rec ended.main ended.queue ended.annex 84 ≡ 1
unfolding Answered
still-yes = answered history 84 (unfold IsHeld past settling taking middle first calls inserts deletes Lists.sum in lit< tt)

-- one hash is held
pub one_left : with_bits ended + stored_hashes ended - ended.rec.queued ≡ 1
unfolding past settling taking middle first calls held after Runs.erase
one_left = (exact history).less
