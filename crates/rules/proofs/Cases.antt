-- The twelve cases of document 01 hold, and so do ours: the checker computes the tables of specs/Cases.antt on the definitions.
use mathlib.Core.Bool.{◌&&◌}
use mathlib.Core.List.{[], ◌∷◌}
use lib.Dec.{T}
use Rattle.lists.specs.Lists
use Rattle.lists.specs.Runs
use Rattle.slots.specs.Numbers
use Rattle.slots.specs.Payload
use Rattle.layout.specs.Machine
use Rattle.layout.specs.Decode
use Rattle.directory.specs.Places
use Rattle.rules.specs.Record
use Rattle.rules.specs.Refusals
use Rattle.rules.specs.Tables
use Rattle.rules.specs.Sound
use Rattle.rules.specs.Settling
use Rattle.rules.specs.Doubling
use Rattle.rules.specs.Calls
use Rattle.rules.specs.Quick
use Rattle.rules.specs.Slow
use Rattle.rules.specs.Cases
use Rattle.rules.specs.Cases.{all_right, begun, twelve, further, begun_widening, widened}

-- the twelve cases, ours, and the widening one
pub cases-right : T (all_right begun (begun ∷ []) twelve && (all_right begun (begun ∷ []) further && all_right begun_widening (begun_widening ∷ []) widened))
unfolding begun twelve further begun_widening widened all_right
    Cases.called Cases.place_numbers Cases.numbers Cases.unchanged Cases.seen Cases.next Cases.play
    Lists.same Lists.every Lists.some_of Lists.sum Lists.front Lists.behind Lists.map_at
    Runs.rises_from Runs.rising Runs.add Runs.erase Runs.erase_all Runs.has Runs.count Runs.hits Runs.total
    Numbers.limit Numbers.first_power Numbers.rounded_up_log Numbers.widening Numbers.extra
    Payload.pay Payload.void Payload.tombstone Payload.rest_of Payload.length_of Payload.fingerprint_of Payload.canonical_slot Payload.hash_bits Payload.matches Payload.fresh_payload
    Machine.mark Machine.emit Machine.rest Machine.scan Machine.left Machine.pend Machine.layout
    Decode.entry Decode.steps Decode.passed Decode.mores Decode.nth Decode.skip Decode.last_run Decode.last_place Decode.place_of Decode.run_at Decode.runs_from Decode.decode
    Places.places_right Places.directory_right Places.words_taken Places.part_in Places.keep Places.trim
    Record.change Record.fresh_at Record.width_at
    Refusals.refusal Refusals.settings_right Refusals.record_right Refusals.slices_right
    Tables.matching Tables.mothers_of Tables.tables Tables.table_words Tables.place_of
    Sound.laid Sound.table_right Sound.main_entry Sound.annex_entry Sound.annex_right Sound.naming Sound.address_right Sound.main_right Sound.queue_right Sound.addresses_right Sound.sound
    Settling.longest Settling.take_hash Settling.take_voids Settling.settle_found Settling.settle_word Settling.settle_all Settling.no_tombstones
    Doubling.half Doubling.half_run Doubling.doubled Doubling.become_void Doubling.new_hashes Doubling.size_from Doubling.table_of
    Calls.give Calls.refused Calls.asked Calls.start_number Calls.started Calls.start
    Quick.matches_in Quick.best Quick.query_number Quick.query Quick.insert_number Quick.inserted Quick.insert Quick.take_number Quick.deleted Quick.delete Quick.rejuvenated Quick.rejuvenate
    Slow.audit Slow.held_after Slow.settled Slow.settle Slow.hashes Slow.room_for Slow.double_number Slow.doubled_runs Slow.second_main Slow.more_annex Slow.more_dir Slow.doubled_outcome Slow.double
cases-right = tt
