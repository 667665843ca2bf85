-- DEMAND 3. "Take any accepted calls from a fresh filter, each on what the last one left and none a new start, in which delete and rejuvenate name only hashes held at
-- that moment (inserted more often than deleted)." That is `History cs s` of crate history: the calls cs, the last first, have left the words s. Between calls another
-- queue or annex may be lent, the words in use the same.
use mathlib.Core.Path.{◌≡◌}
use mathlib.Core.List.{List, [], ◌∷◌}
use Prim.Native.Nat.{ℕ, ◌+◌, ◌-◌, ◌<◌, ◌^◌}
use lib.ListN.{length, get_or}
use Rattle.lists.specs.Runs.{count}
use Rattle.slots.specs.Payload.{void}
use Rattle.layout.specs.Decode.{decode}
use Rattle.rules.specs.Record.{width, in_use}
use Rattle.rules.specs.Tables.{tables, mothers_of}
use Rattle.rules.specs.Quick.{query, delete, rejuvenate}
use Rattle.rules.specs.Slow.{audit, settle}
use Rattle.history.specs.History.{Call, Settle, IsHeld, held, Words, History, AnyHistory, with_bits, stored_hashes, Answered, VoidsMatch}
use Rattle.history.proofs.Demand3 as proof

-- "Then every held hash is answered yes,
pub yes-to-held : {cs : List Call} {s : Words} → History cs s → (h : ℕ) → IsHeld h cs → query s.rec s.main s.queue s.annex h ≡ 1
unfolding Answered
yes-to-held hi h l = proof.answered hi h l

-- and the entries with fingerprints plus the stored mother hashes, less the queued removals, number exactly the held hashes.
pub exactly-held : {cs : List Call} {s : Words} → History cs s → with_bits s + stored_hashes s - s.rec.queued ≡ length (held cs)
exactly-held hi = (proof.exact hi).less

-- (nothing is cut off by the subtraction)
pub queued-within : {cs : List Call} {s : Words} → History cs s → with_bits s + stored_hashes s ≡ length (held cs) + s.rec.queued
queued-within hi = (proof.exact hi).plus

-- Directly after a settle, valid calls or not, each address holds as many void entries as stored mother hashes match it."
pub voids-after-settle : {cs : List Call} {s : Words} → AnyHistory (Settle ∷ cs) s → (a : ℕ) → a < 2 ^ s.rec.k
    → count (void (width s.rec)) (get_or (decode s.main) a []) ≡ mothers_of a (tables (in_use s.rec) s.annex)
unfolding VoidsMatch
voids-after-settle hi a h = proof.after-settle hi a h

-- Besides: after any accepted calls, valid or not, Audit answers 0 and Settle is accepted,
pub always-sound : {cs : List Call} {s : Words} → AnyHistory cs s → audit s.rec s.main s.queue s.annex ≡ 0
always-sound hi = proof.any-audit hi

pub always-settles : {cs : List Call} {s : Words} → AnyHistory cs s → (settle s.rec s.main s.queue s.annex).number ≡ 0
always-settles hi = proof.any-settles hi

-- and 6, nothing matches, is never given for a held hash
pub delete-finds-held : {cs : List Call} {s : Words} → History cs s → (h : ℕ) → IsHeld h cs → (delete s.rec s.main s.queue s.annex h).number ≡ 6 → ⊥
delete-finds-held hi h l = proof.delete-never-6 hi h l

pub rejuvenate-finds-held : {cs : List Call} {s : Words} → History cs s → (h : ℕ) → IsHeld h cs → (rejuvenate s.rec s.main s.queue s.annex h).number ≡ 6 → ⊥
rejuvenate-finds-held hi h l = proof.rejuvenate-never-6 hi h l
