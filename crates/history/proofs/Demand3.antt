-- Demand 3. Each accepted call keeps a sound state sound and keeps the invariant that the strings can be dealt out to the held hashes and the queued addresses; so
-- both hold after any history, and say what is asked.
use mathlib.Core.Path.{◌≡◌, refl, sym, ap, ◌∙◌, subst}
use mathlib.Core.Bool.{Bool, true, false, not, ◌&&◌}
use mathlib.Core.List.{List, [], ◌∷◌}
use mathlib.Core.Logic.{◌⊎◌, inl, inr}
use Prim.Native.Nat.{ℕ, ◌+◌, ◌^◌, ◌<◌}
use native.Mathlib.Omega.{arith}
use native.Mathlib.Decide.{dec_lt, ℕ_discrete}
use lib.Dec.{lt→ltb}
use lib.ListN.{length, get_or}
use Rattle.lists.specs.Lists.{sum}
use Rattle.lists.specs.Runs.{count}
use Rattle.lists.proofs.RunLaws.{count-erase}
use Rattle.slots.specs.Payload.{void, length_of}
use Rattle.layout.specs.Decode.{decode}
use Rattle.rules.specs.Record.{Filter, change, fresh_at, width_at, width, fresh, in_use}
use Rattle.rules.specs.Refusals.{Test, refusal}
use Rattle.rules.specs.Tables.{tables, mothers_of}
use Rattle.rules.specs.Calls.{Outcome, give, refused}
use Rattle.rules.specs.Quick.{best, matched, matches_in, best_is_void, queue_full, take_number, deleted, delete, rejuvenated, rejuvenate}
use Rattle.rules.specs.Slow.{audit, settled, settle}
use Rattle.keeps.proofs.Refusals.{refusal-passed, zero-asked}
use Rattle.keeps.proofs.Audits.{good-audit}
use Rattle.keeps.proofs.Done.{deleted-void, deleted-bits, renewed-kept, renewed}
use Rattle.keeps.proofs.Settle.{settle_is, settle-voids}
use Rattle.keeps.proofs.Refused.{good-settles}
use Rattle.history.specs.History.{Call, Query, Insert, Delete, Rejuvenate, Audit, Settle, Double, inserts, deletes, IsHeld, after, held, Valid, Words, Accepted, Lends, History, AnyHistory, Answered, Exact, VoidsMatch}
use Rattle.history.proofs.Abstract.{Names, Inv, inv-count, inv-start, inv-next, inv-yes, Yes}
use Rattle.history.proofs.Seen.{seen, GoodWords, shape}
use Rattle.history.proofs.Steps.{starts, steps, tables-same, lends}
use Rattle.history.proofs.Counts.{yes-matches, yes-query, numbers}

-- ---- "held at that moment (inserted more often than deleted)"

-- each call, where the hashes H are held before it
after-count : (h : ℕ) (c : Call) (H : List ℕ) → Names c H → count h (after c H) + deletes h c ≡ inserts h c + count h H
unfolding after Names inserts deletes count
after-count h (Query x) H n = omega arith
after-count h (Insert x) H n = omega arith
after-count h (Delete x) H n = omega (arith, count-erase x h H n)
after-count h (Rejuvenate x) H n = omega arith
after-count h Audit H n = omega arith
after-count h Settle H n = omega arith
after-count h Double H n = omega arith

-- a valid call names one of them
names : (c : Call) (cs : List Call) → ((h : ℕ) → count h (held cs) + sum (deletes h) cs ≡ sum (inserts h) cs) → Valid c cs → Names c (held cs)
unfolding Valid Names IsHeld
names (Query h) cs e v = tt
names (Insert h) cs e v = tt
names (Delete h) cs e v = omega (arith, e h)
names (Rejuvenate h) cs e v = omega (arith, e h)
names Audit cs e v = tt
names Settle cs e v = tt
names Double cs e v = tt

-- the list of held hashes has each as often as it was inserted more than deleted
pub held-counted : {cs : List Call} {s : Words} → History cs s → (h : ℕ) → count h (held cs) + sum (deletes h) cs ≡ sum (inserts h) cs
unfolding held sum count
held-counted (History.begun b) h = refl
held-counted (History.called {cs = cs} c hi va ac) h = omega (arith, held-counted hi h, after-count h c (held cs) (names c cs (held-counted hi) va))
held-counted (History.lent hi l) h = held-counted hi h

pub is_held : {cs : List Call} {s : Words} → History cs s → (h : ℕ) → IsHeld h cs → 0 < count h (held cs)
unfolding IsHeld
is_held hi h l = omega (arith, held-counted hi h)

-- ---- the invariant

pub keeps-invariant : {cs : List Call} {s : Words} → History cs s → GoodWords s × Inv (held cs) (seen s)
unfolding held
keeps-invariant (History.begun {s = s} b) = let d = starts s b in (d.0, inv-start (seen s) d.1)
keeps-invariant (History.called {cs = cs} {s = s} {t = t} c hi va ac) =
    let i = keeps-invariant hi in
    let d = steps c s t i.0 ac in
    (d.0, inv-next c (held cs) (seen s) (seen t) (shape s i.0) (names c cs (held-counted hi) va) d.1 i.1)
keeps-invariant (History.lent {cs = cs} {s = s} {t = t} hi l) =
    let i = keeps-invariant hi in
    let d = lends s t l i.0 in
    (d.0, subst (Inv (held cs)) (sym d.1) i.1)

held-yes : {cs : List Call} {s : Words} → History cs s → (h : ℕ) → IsHeld h cs → Yes (seen s) h
held-yes {cs} {s} hi h l = let i = keeps-invariant hi in inv-yes (held cs) (seen s) h (shape s i.0) i.1 (is_held hi h l)

-- ---- DEMAND 3: "Take any accepted calls from a fresh filter, each on what the last one left and none a new start, in which delete and rejuvenate name only hashes
-- held at that moment (inserted more often than deleted)."

-- "Then every held hash is answered yes"
pub answered : {cs : List Call} {s : Words} → History cs s → Answered cs s
unfolding Answered
answered {cs} {s} hi h l = yes-query s (keeps-invariant hi).0 h (held-yes hi h l)

-- "and the entries with fingerprints plus the stored mother hashes, less the queued removals, number exactly the held hashes."
pub exact : {cs : List Call} {s : Words} → History cs s → Exact cs s
exact {cs} {s} hi =
    let i = keeps-invariant hi in
    let n = numbers s i.0 in
    let c = inv-count (held cs) (seen s) i.1 in
    record { less = omega (arith, n.bits, n.mothers, n.queue, c); plus = omega (arith, n.bits, n.mothers, n.queue, c) }

-- "Directly after a settle, valid calls or not, each address holds as many void entries as stored mother hashes match it."
abbrev MatchIn : Filter → List ℕ → List ℕ → Type 0
MatchIn r main annex = (a : ℕ) → a < 2 ^ r.k → count (void (width r)) (get_or (decode main) a []) ≡ mothers_of a (tables (in_use r) annex)

settled-in : (r : Filter) (main queue annex : List ℕ) → (settle r main queue annex).number ≡ 0
    → MatchIn (settle r main queue annex).rec (settle r main queue annex).main (settle r main queue annex).annex
settled-in r main queue annex z a h =
    ap (λ (w : ℕ). count (void w) (get_or (decode (settle r main queue annex).main) a [])) same.1
    ∙ settle-voids r main queue annex z a (subst (λ (k : ℕ). a < 2 ^ k) same.0 h)
  where
    same : ((settle r main queue annex).rec.k ≡ r.k) × (width (settle r main queue annex).rec ≡ width r)
    same =
        subst (λ (o : Outcome). (o.rec.k ≡ r.k) × (width o.rec ≡ width r)) (sym (settle_is r main queue annex z)) (unfold settled change fresh_at width_at in (refl, refl))

-- on any words on which Settle is accepted
pub settled-match : (s t : Words) → Accepted Settle s t → VoidsMatch t
unfolding Accepted VoidsMatch
settled-match s t a = subst (λ (x : Words). MatchIn x.rec x.main x.annex) (sym a.1) (settled-in s.rec s.main s.queue s.annex a.0)

lent-match : (s t : Words) → Lends s t → VoidsMatch s → VoidsMatch t
unfolding VoidsMatch
lent-match s t l m =
    subst (λ (r : Filter). MatchIn r t.main t.annex) (sym l.same_record)
    (subst (λ (x : List ℕ). MatchIn s.rec x t.annex) (sym l.same_main)
    (λ a h. m a h ∙ ap (mothers_of a) (sym (tables-same (in_use s.rec) t.annex s.annex l.same_annex))))

-- and so after any accepted calls of which a settle is the last
pub after-settle : {cs : List Call} {s : Words} → AnyHistory (Settle ∷ cs) s → VoidsMatch s
after-settle (AnyHistory.called {s = s} {t = t} c a ac) = settled-match s t ac
after-settle (AnyHistory.lent {s = s} {t = t} a l) = lent-match s t l (after-settle a)

-- ---- any accepted calls, valid or not: the state stays sound, so Audit and Settle are never refused there

pub any-good : {cs : List Call} {s : Words} → AnyHistory cs s → GoodWords s
any-good (AnyHistory.begun {s = s} b) = (starts s b).0
any-good (AnyHistory.called {s = s} {t = t} c a ac) = (steps c s t (any-good a) ac).0
any-good (AnyHistory.lent {s = s} {t = t} a l) = (lends s t l (any-good a)).0

pub any-audit : {cs : List Call} {s : Words} → AnyHistory cs s → audit s.rec s.main s.queue s.annex ≡ 0
any-audit {cs} {s} a = good-audit s.rec s.main s.queue s.annex (any-good a)

pub any-settles : {cs : List Call} {s : Words} → AnyHistory cs s → (settle s.rec s.main s.queue s.annex).number ≡ 0
any-settles {cs} {s} a = good-settles s.rec s.main s.queue s.annex (any-good a)

-- a valid history is one of them
pub any_of : {cs : List Call} {s : Words} → History cs s → AnyHistory cs s
any_of (History.begun b) = AnyHistory.begun b
any_of (History.called c hi va ac) = AnyHistory.called c (any_of hi) ac
any_of (History.lent hi l) = AnyHistory.lent (any_of hi) l

-- ---- number 6, "nothing matches", is never given for a held hash

module _ {cs : List Call} {s : Words} (hi : History cs s) (h : ℕ) (l : IsHeld h cs) where
  abbrev r : Filter
  r = s.rec

  abbrev n : ℕ
  n = take_number s.rec s.main s.queue s.annex h

  -- Delete and Rejuvenate are accepted, or refused by 7: "the longest match is void and the queue is full"
  pub held_number : (take_number s.rec s.main s.queue s.annex h ≡ 0) ⊎ (take_number s.rec s.main s.queue s.annex h ≡ 7)
  unfolding take_number
  held_number =
      let g = (keeps-invariant hi).0 in
      let full : Test = record { right = not (best_is_void r s.main h && queue_full r s.queue); number = 7 } in
      seven full.right
      (zero-asked r s.main s.queue s.annex _ g.record-right g.slices-right
      ∙ refusal-passed (record { right = matched r s.main h; number = 6 }) (full ∷ []) (lt→ltb 0 (length (matches_in r s.main h)) (yes-matches s g h (held-yes hi h l))))
    where
      seven : (b : Bool) → n ≡ refusal (record { right = b; number = 7 } ∷ []) → (n ≡ 0) ⊎ (n ≡ 7)
      seven true e = inl (e ∙ (unfold refusal in refl))
      seven false e = inr (e ∙ (unfold refusal in refl))

  never-6 : (done : Outcome) → done.number ≡ 0 → (give n done (refused s.rec s.main s.queue s.annex n)).number ≡ 6 → ⊥
  unfolding refused
  never-6 done z = go held_number
    where
      by : ℕ → ℕ
      by m = (give m done (record { number = m; rec = s.rec; main = s.main; queue = s.queue; annex = s.annex })).number

      go : (n ≡ 0) ⊎ (n ≡ 7) → by n ≡ 6 → ⊥
      go (inl e) q = unfold give in omega (arith, ap by e)
      go (inr e) q = unfold give in omega (arith, ap by e)

  pub delete-never-6 : (delete s.rec s.main s.queue s.annex h).number ≡ 6 → ⊥
  unfolding delete
  delete-never-6 = never-6 (deleted r s.main s.queue s.annex h) (go (ℕ_discrete (best r s.main h) (void (width r))))
    where
      go : Dec (best r s.main h ≡ void (width r)) → (deleted r s.main s.queue s.annex h).number ≡ 0
      go (yes q) = ap (λ (o : Outcome). o.number) (deleted-void r s.main s.queue s.annex h q)
      go (no q) = ap (λ (o : Outcome). o.number) (deleted-bits r s.main s.queue s.annex h q)

  pub rejuvenate-never-6 : (rejuvenate s.rec s.main s.queue s.annex h).number ≡ 6 → ⊥
  unfolding rejuvenate
  rejuvenate-never-6 = never-6 (rejuvenated r s.main s.queue s.annex h) (go (dec_lt (length_of (width r) (best r s.main h)) (fresh r)))
    where
      go : Dec (length_of (width r) (best r s.main h) < fresh r) → (rejuvenated r s.main s.queue s.annex h).number ≡ 0
      go (yes q) = ap (λ (o : Outcome). o.number) (renewed r s.main s.queue s.annex h q)
      go (no q) = ap (λ (o : Outcome). o.number) (renewed-kept r s.main s.queue s.annex h (omega arith)) ∙ (unfold refused in refl)
