-- Demand 3: "Take any accepted calls from a fresh filter, each on what the last one left and none a new start, in which delete and rejuvenate name only hashes
-- held at that moment (inserted more often than deleted). Then every held hash is answered yes, and the entries with fingerprints plus the stored mother hashes,
-- less the queued removals, number exactly the held hashes. Directly after a settle, valid calls or not, each address holds as many void entries as stored mother
-- hashes match it."
use Rattle.std.specs.Prelude.{◌≡◌, List, [], ◌∷◌, ℕ, ◌+◌, ◌-◌, ◌^◌, ◌<◌, ltb, eqb, length, get_or, take}
use Rattle.lists.specs.Lists.{bit, sum}
use Rattle.lists.specs.Runs.{erase, count, total}
use Rattle.slots.specs.Payload.{void, length_of}
use Rattle.layout.specs.Decode.{decode}
use Rattle.rules.specs.Record.{Filter, width, in_use, annex_used}
use Rattle.rules.specs.Tables.{Table, tables, mothers_of}
use Rattle.rules.specs.Calls.{Outcome, start}
use Rattle.rules.specs.Quick.{query_number, query, insert, delete, rejuvenate}
use Rattle.rules.specs.Slow.{audit, settle, double, second_main}

-- ---- calls, and the hashes that are held after them

pub data Call : Type 0 where
  Query Insert Delete Rejuvenate : ℕ → Call
  Audit Settle Double : Call

-- 1 for a call that inserts h, and for one that deletes it
unfoldable pub inserts : ℕ → Call → ℕ
inserts h (Query x) = 0
inserts h (Insert x) = bit (eqb h x)
inserts h (Delete x) = 0
inserts h (Rejuvenate x) = 0
inserts h Audit = 0
inserts h Settle = 0
inserts h Double = 0

unfoldable pub deletes : ℕ → Call → ℕ
deletes h (Query x) = 0
deletes h (Insert x) = 0
deletes h (Delete x) = bit (eqb h x)
deletes h (Rejuvenate x) = 0
deletes h Audit = 0
deletes h Settle = 0
deletes h Double = 0

-- "held .. (inserted more often than deleted)"
unfoldable pub IsHeld : ℕ → List Call → Type 0
IsHeld h cs = sum (deletes h) cs < sum (inserts h) cs

-- "the held hashes", each as often as it was inserted more than deleted; the last call comes first
unfoldable pub after : Call → List ℕ → List ℕ
after (Query h) hs = hs
after (Insert h) hs = h ∷ hs
after (Delete h) hs = erase h hs
after (Rejuvenate h) hs = hs
after Audit hs = hs
after Settle hs = hs
after Double hs = hs

unfoldable pub held : List Call → List ℕ
held [] = []
held (c ∷ cs) = after c (held cs)

-- "delete and rejuvenate name only hashes held at that moment": the next call, after these
unfoldable pub Valid : Call → List Call → Type 0
Valid (Query h) cs = Unit {0}
Valid (Insert h) cs = Unit {0}
Valid (Delete h) cs = IsHeld h cs
Valid (Rejuvenate h) cs = IsHeld h cs
Valid Audit cs = Unit {0}
Valid Settle cs = Unit {0}
Valid Double cs = Unit {0}

-- ---- accepted calls

-- what a caller keeps between calls: the record and the lent words
pub record Words : Type 0 where
  pub rec : Filter
  pub main : List ℕ
  pub queue : List ℕ
  pub annex : List ℕ

abbrev pub left : Outcome → Words
left o = record { rec = o.rec; main = o.main; queue = o.queue; annex = o.annex }

-- "a fresh filter": an accepted Start, on any words
pub record Started (s : Words) : Type 0 where
  pub power : ℕ
  pub f : ℕ
  pub regime : ℕ
  pub main : List ℕ
  pub queue : List ℕ
  pub annex : List ℕ
  pub accepted : (start power f regime main queue annex).number ≡ 0
  pub leaves : s ≡ left (start power f regime main queue annex)

-- a call with this outcome is accepted and leaves t
abbrev pub AcceptedBy : Outcome → Words → Type 0
AcceptedBy o t = (o.number ≡ 0) × (t ≡ left o)

-- the same for Double, which is lent a second main: afterwards that is the main
pub record AcceptedDouble (s t : Words) : Type 0 where
  pub second : List ℕ
  pub accepted : (double s.rec s.main s.queue s.annex (length second)).number ≡ 0
  pub leaves : t
      ≡ record {
        rec = (double s.rec s.main s.queue s.annex (length second)).rec;
        main = second_main s.rec s.main s.queue s.annex second;
        queue = (double s.rec s.main s.queue s.annex (length second)).queue;
        annex = (double s.rec s.main s.queue s.annex (length second)).annex;
      }

-- an accepted call on the words s leaves the words t
unfoldable pub Accepted : Call → Words → Words → Type 0
Accepted (Query h) s t = (query_number s.rec s.main s.queue s.annex ≡ 0) × (t ≡ s)
Accepted (Insert h) s t = AcceptedBy (insert s.rec s.main s.queue s.annex h) t
Accepted (Delete h) s t = AcceptedBy (delete s.rec s.main s.queue s.annex h) t
Accepted (Rejuvenate h) s t = AcceptedBy (rejuvenate s.rec s.main s.queue s.annex h) t
Accepted Audit s t = (audit s.rec s.main s.queue s.annex ≡ 0) × (t ≡ s)
Accepted Settle s t = AcceptedBy (settle s.rec s.main s.queue s.annex) t
Accepted Double s t = AcceptedDouble s t

-- Between calls the caller may lend another queue and annex, as after a refusal by 7 or 10, in which the words in use are the same; their lengths may differ
pub record Lends (s t : Words) : Type 0 where
  pub same_record : t.rec ≡ s.rec
  pub same_main : t.main ≡ s.main
  pub same_queue : take s.rec.queued t.queue ≡ take s.rec.queued s.queue
  pub same_annex : take (annex_used s.rec) t.annex ≡ take (annex_used s.rec) s.annex

-- ---- histories: the calls, the last first, and the words after them

-- accepted valid calls
pub data History : List Call → Words → Type 0 where
  begun : {s : Words} → Started s → History [] s
  called : {cs : List Call} {s t : Words} (c : Call) → History cs s → Valid c cs → Accepted c s t → History (c ∷ cs) t
  lent : {cs : List Call} {s t : Words} → History cs s → Lends s t → History cs t

-- accepted calls, "valid calls or not"
pub data AnyHistory : List Call → Words → Type 0 where
  begun : {s : Words} → Started s → AnyHistory [] s
  called : {cs : List Call} {s t : Words} (c : Call) → AnyHistory cs s → Accepted c s t → AnyHistory (c ∷ cs) t
  lent : {cs : List Call} {s t : Words} → AnyHistory cs s → Lends s t → AnyHistory cs t

-- ---- what is to hold

-- "every held hash is answered yes"
unfoldable pub Answered : List Call → Words → Type 0
Answered cs s = (h : ℕ) → IsHeld h cs → query s.rec s.main s.queue s.annex h ≡ 1

-- "the entries with fingerprints"
unfoldable pub with_bits : Words → ℕ
with_bits s = sum (λ run. sum (λ p. bit (ltb 0 (length_of (width s.rec) p))) run) (decode s.main)

-- "the stored mother hashes"
unfoldable pub stored_hashes : Words → ℕ
stored_hashes s = sum (λ (t : Table). total t.runs) (tables (in_use s.rec) s.annex)

-- "the entries with fingerprints plus the stored mother hashes, less the queued removals, number exactly the held hashes": also as a sum, which does not stop at 0
pub record Exact (cs : List Call) (s : Words) : Type 0 where
  pub less : with_bits s + stored_hashes s - s.rec.queued ≡ length (held cs)
  pub plus : with_bits s + stored_hashes s ≡ length (held cs) + s.rec.queued

-- "each address holds as many void entries as stored mother hashes match it"
unfoldable pub VoidsMatch : Words → Type 0
VoidsMatch s =
    (a : ℕ) → a < 2 ^ s.rec.k → count (void (width s.rec)) (get_or (decode s.main) a []) ≡ mothers_of a (tables (in_use s.rec) s.annex)
