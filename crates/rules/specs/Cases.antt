-- Document 01, "Numbers to check by hand": the twelve cases, and further cases of ours, as tables that proofs/Cases.antt computes on the definitions.
use Rattle.std.specs.Prelude.{ℕ, zero, suc, ◌+◌, ◌*◌, Bool, true, ◌&&◌, List, [], ◌∷◌, ◌++◌, length, take, get_or, replicate, eqb}
use Rattle.lists.specs.Lists.{every, same}
use Rattle.directory.specs.declared.Place.{Place}
use Rattle.rules.specs.Record.{Filter, annex_used}
use Rattle.rules.specs.Calls.{Outcome, start}
use Rattle.rules.specs.Quick.{query, insert, delete, rejuvenate}
use Rattle.rules.specs.Slow.{audit, settle, double, second_main}

-- ---- how a case is written

pub data Call : Type 0 where
  Insert Delete Rejuvenate : ℕ → Call
  Audit Settle Double : Call

-- A step: a call that answers 0; a call that is refused by this number and leaves all as it was; memory handed in otherwise than the last call left it (no call
-- of the filter); or something to see
pub data Step : Type 0 where
  ok : Call → Step
  no : ℕ → Call → Step
  handed : (Outcome → Outcome) → Step
  main is : List ℕ → Step
  size : ℕ → Step
  slot asked : ℕ → ℕ → Step
  queue annex : List ℕ → Step
  all_zero : Step

-- a case goes on where the case numbered `after` ended, 0 being a fresh filter of the table
pub record Case : Type 0 where
  pub after : ℕ
  pub steps : List Step

-- ---- how a case is played

-- Double is lent a second main of the right size, full of ones, which then is the main
unfoldable pub called : Outcome → Call → Outcome
called x (Insert h) = insert x.rec x.main x.queue x.annex h
called x (Delete h) = delete x.rec x.main x.queue x.annex h
called x (Rejuvenate h) = rejuvenate x.rec x.main x.queue x.annex h
called x Audit = record { number = audit x.rec x.main x.queue x.annex; rec = x.rec; main = x.main; queue = x.queue; annex = x.annex }
called x Settle = settle x.rec x.main x.queue x.annex
called x Double =
    let second : List ℕ = replicate (length x.main * 2) 1 in
    let y = double x.rec x.main x.queue x.annex (length second) in
    elim y.number [
      | zero ↦ record { number = 0; rec = y.rec; main = second_main x.rec x.main x.queue x.annex second; queue = y.queue; annex = y.annex }
      | suc n ↦ y
    ]

unfoldable pub place_numbers : List Place → List ℕ
place_numbers [] = []
place_numbers (p ∷ ps) = p.b ∷ p.s ∷ p.count ∷ place_numbers ps

unfoldable pub numbers : Filter → List ℕ
numbers r = r.k ∷ r.start ∷ r.f ∷ r.regime ∷ r.used ∷ r.queued ∷ place_numbers r.dir

unfoldable pub unchanged : Outcome → Outcome → Bool
unchanged x y = same (numbers x.rec) (numbers y.rec) && (same x.main y.main && (same x.queue y.queue && same x.annex y.annex))

unfoldable pub seen : Outcome → Step → Bool
seen x (ok c) = eqb (called x c).number 0
seen x (no n c) = let y = called x c in eqb y.number n && unchanged x y
seen x (handed f) = true
seen x (main ws) = same x.main ws
seen x (is ns) = same (take 6 (numbers x.rec)) ns
seen x (size n) = eqb (length x.main) n
seen x (slot i w) = eqb (get_or x.main i 1) w
seen x (asked h a) = eqb (query x.rec x.main x.queue x.annex h) a
seen x (queue ws) = same (take x.rec.queued x.queue) ws
seen x (annex ws) = same (take (annex_used x.rec) x.annex) ws
seen x all_zero =
    every (eqb 0) x.main && (every (eqb 0) (take 8 x.annex) && eqb (x.rec.used + x.rec.queued + annex_used x.rec) 0)

unfoldable pub next : Outcome → Step → Outcome
next x (ok c) = called x c
next x (no n c) = x
next x (handed f) = f x
next x (main ws) = x
next x (is ns) = x
next x (size n) = x
next x (slot i w) = x
next x (asked h a) = x
next x (queue ws) = x
next x (annex ws) = x
next x all_zero = x

-- all is seen as it should be; and the end
pub record Played : Type 0 where
  pub right : Bool
  pub end : Outcome

unfoldable pub play : Bool → Outcome → List Step → Played
play b x [] = record { right = b; end = x }
play b x (t ∷ ts) = play (b && seen x t) (next x t) ts

-- the cases in their order; `ends` are the ends of those before, first the fresh filter
unfoldable pub all_right : Outcome → List Outcome → List Case → Bool
all_right fresh ends [] = true
all_right fresh ends (c ∷ cs) =
    let p = play true (get_or ends c.after fresh) c.steps in
    p.right && all_right fresh (ends ++ p.end ∷ []) cs

-- ---- the tables

-- "Start 3, F 3, fixed (W 4)", on a main full of ones, with a queue of 4 and an annex of 16 words
unfoldable pub begun : Outcome
begun = start 3 3 0 (replicate 8 1) (replicate 4 1) (replicate 16 1)

unfoldable pub twelve : List Case
twelve =
    -- 1
    record { after = 0; steps = ok (Insert 20) ∷ ok (Insert 44) ∷ ok (Insert 13) ∷ main (0 ∷ 0 ∷ 0 ∷ 0 ∷ 17 ∷ 47 ∷ 12 ∷ 0 ∷ []) ∷ [] }
    -- 2
    ∷ record { after = 1; steps = ok (Insert 61) ∷ slot 7 62 ∷ [] }
    -- 3
    ∷ record { after = 2; steps = ok (Insert 7) ∷ main (4 ∷ 0 ∷ 0 ∷ 0 ∷ 17 ∷ 47 ∷ 12 ∷ 63 ∷ []) ∷ [] }
    -- 4
    ∷ record { after = 2; steps = ok (Delete 44) ∷ main (0 ∷ 0 ∷ 0 ∷ 0 ∷ 17 ∷ 9 ∷ 62 ∷ 0 ∷ []) ∷ [] }
    -- 5
    ∷ record { after = 0; steps = ok (Insert 20) ∷ ok Double ∷ slot 4 73 ∷ [] }
    -- 6
    ∷ record { after = 5; steps = ok Double ∷ size 32 ∷ slot 20 97 ∷ [] }
    -- 7
    ∷ record { after = 6; steps = ok Double ∷ size 64 ∷ slot 20 113 ∷ annex (0 ∷ 0 ∷ 0 ∷ 0 ∷ 2097041 ∷ 0 ∷ 0 ∷ 0 ∷ []) ∷ [] }
    -- 8
    ∷ record { after = 7; steps = ok Double ∷ slot 20 113 ∷ slot 84 113 ∷ asked 148 1 ∷ asked 21 0 ∷ [] }
    -- 9
    ∷ record {
      after = 8;
      steps = ok (Delete 20) ∷ slot 20 121 ∷ queue (40 ∷ []) ∷ asked 20 0 ∷ asked 84 1 ∷ ok Settle ∷ all_zero ∷ [];
    }
    -- 10
    ∷ record { after = 8; steps = ok (Rejuvenate 84) ∷ slot 84 1 ∷ queue (169 ∷ []) ∷ ok Settle ∷ slot 20 0 ∷ [] }
    -- 11
    ∷ record { after = 8; steps = ok (Delete 20) ∷ ok (Delete 84) ∷ ok Settle ∷ all_zero ∷ [] }
    -- 12
    ∷ record {
      after = 0;
      steps = ok (Insert 20) ∷ ok Double ∷ ok (Insert 20) ∷ ok Double ∷ ok Double ∷ ok Double ∷ slot 20 113 ∷ slot 21 118 ∷ slot 84 113
          ∷ ok (Delete 20) ∷ slot 21 126 ∷ ok Settle ∷ slot 20 113 ∷ slot 84 113 ∷ slot 21 0 ∷ [];
    }
    ∷ []

-- memory handed in otherwise
abbrev pub with_used : ℕ → Outcome → Outcome
with_used n x =
    let r = x.rec in
    let s : Filter = record { k = r.k; start = r.start; f = r.f; regime = r.regime; used = n; queued = r.queued; dir = r.dir } in
    record { number = 0; rec = s; main = x.main; queue = x.queue; annex = x.annex }

abbrev pub with_k : ℕ → Outcome → Outcome
with_k k x =
    let r = x.rec in
    let s : Filter = record { k = k; start = r.start; f = r.f; regime = r.regime; used = r.used; queued = r.queued; dir = r.dir } in
    record { number = 0; rec = s; main = x.main; queue = x.queue; annex = x.annex }

abbrev pub with_main : List ℕ → Outcome → Outcome
with_main ws x = record { number = 0; rec = x.rec; main = ws; queue = x.queue; annex = x.annex }

abbrev pub with_queue : List ℕ → Outcome → Outcome
with_queue ws x = record { number = 0; rec = x.rec; main = x.main; queue = ws; annex = x.annex }

abbrev pub with_annex : List ℕ → Outcome → Outcome
with_annex ws x = record { number = 0; rec = x.rec; main = x.main; queue = x.queue; annex = ws }

-- Cases of ours, on the same fresh filter
unfoldable pub further : List Case
further =
    -- 1: three runs in one cluster that wraps: addresses 6, 7 and 0
    record {
      after = 0;
      steps = ok (Insert 6) ∷ ok (Insert 14) ∷ ok (Insert 7) ∷ ok (Insert 8) ∷ main (5 ∷ 12 ∷ 0 ∷ 0 ∷ 0 ∷ 0 ∷ 1 ∷ 15 ∷ []) ∷ asked 8 1 ∷ asked 16 0 ∷ ok (Delete 14)
          ∷ main (9 ∷ 0 ∷ 0 ∷ 0 ∷ 0 ∷ 0 ∷ 1 ∷ 1 ∷ []) ∷ ok Audit ∷ [];
    }
    -- 2: "At k = 3 the seventh insert is accepted, the eighth refused."
    ∷ record {
      after = 0;
      steps = ok (Insert 0) ∷ ok (Insert 1) ∷ ok (Insert 2) ∷ ok (Insert 3) ∷ ok (Insert 4) ∷ ok (Insert 5) ∷ ok (Insert 6)
          ∷ is (3 ∷ 3 ∷ 3 ∷ 0 ∷ 7 ∷ 0 ∷ []) ∷ no 5 (Insert 7) ∷ ok Audit ∷ [];
    }
    -- 3: a doubling in which two entries become void; both mother hashes are stored
    ∷ record {
      after = 0;
      steps = ok (Insert 20) ∷ ok (Insert 61) ∷ ok Double ∷ ok Double ∷ ok Double ∷ slot 20 113 ∷ slot 61 113
          ∷ annex (0 ∷ 0 ∷ 0 ∷ 0 ∷ 2097041 ∷ 2097081 ∷ 0 ∷ 0 ∷ []) ∷ ok Double ∷ is (7 ∷ 3 ∷ 3 ∷ 0 ∷ 4 ∷ 0 ∷ []) ∷ ok Audit ∷ [];
    }
    -- 4: two queue words, of which the second one matters: 20, 84, 61 and 125 are void; the mother hashes of 20 and of 61 go
    ∷ record {
      after = 3;
      steps = ok (Delete 20) ∷ ok (Delete 61) ∷ queue (40 ∷ 122 ∷ []) ∷ asked 84 1 ∷ asked 125 1 ∷ ok Settle ∷ asked 84 0 ∷ asked 125 0 ∷ all_zero ∷ [];
    }
    -- 5: the refusals of a record, of lengths and of words
    ∷ record {
      after = 0;
      steps = ok (Insert 20) ∷ handed (with_used 8) ∷ no 2 Audit ∷ no 2 (Insert 1) ∷ no 2 Double ∷ asked 20 2 ∷ handed (with_used 0) ∷ no 4 Audit ∷ no 4 Settle ∷ no 4 Double
          ∷ handed (with_used 1) ∷ ok Audit ∷ no 6 (Delete 21) ∷ no 6 (Rejuvenate 28)
          ∷ handed (with_main (0 ∷ [])) ∷ no 3 Audit ∷ no 3 (Insert 1) ∷ no 3 (Delete 20) ∷ no 3 Double ∷ asked 20 3
          ∷ handed (with_k 20) ∷ no 9 Double ∷ no 3 Audit ∷ [];
    }
    -- 6: voids with a full queue, a queue that is not empty, and an annex with no room
    ∷ record {
      after = 0;
      steps = ok (Insert 20) ∷ ok Double ∷ ok Double ∷ handed (with_annex (9 ∷ 9 ∷ 9 ∷ 9 ∷ 9 ∷ 9 ∷ 9 ∷ [])) ∷ no 10 Double
          ∷ handed (with_annex (replicate 8 9)) ∷ handed (with_queue []) ∷ ok Double ∷ no 7 (Delete 20) ∷ no 7 (Rejuvenate 20)
          ∷ handed (with_queue (5 ∷ [])) ∷ ok (Delete 20) ∷ no 8 Double ∷ ok Audit ∷ no 6 (Delete 20) ∷ ok Settle ∷ all_zero ∷ [];
    }
    -- 7: Rejuvenate of a shortened entry with bits, and of a fresh one, which changes nothing
    ∷ record {
      after = 0;
      steps = ok (Insert 20) ∷ ok Double ∷ slot 4 73 ∷ ok (Rejuvenate 84) ∷ slot 4 41 ∷ queue [] ∷ ok (Rejuvenate 84) ∷ slot 4 41 ∷ asked 20 0 ∷ [];
    }
    ∷ []

-- a widening filter, W 4: the first doubling widens by 2
unfoldable pub begun_widening : Outcome
begun_widening = start 3 3 1 (replicate 8 1) [] (replicate 8 1)

unfoldable pub widened : List Case
widened =
    record {
      after = 0;
      steps = ok (Insert 20) ∷ slot 4 17 ∷ ok Double ∷ is (4 ∷ 3 ∷ 3 ∷ 1 ∷ 1 ∷ 0 ∷ []) ∷ slot 4 457 ∷ ok (Insert 500) ∷ slot 4 249 ∷ slot 5 462 ∷ asked 500 1 ∷ asked 20 1
          ∷ asked 36 0 ∷ ok Audit ∷ [];
    }
    ∷ []
