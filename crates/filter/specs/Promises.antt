-- Document 01, "How tight a contract has to be": "Each public call's contract determines its answer, record and every lent word for all inputs, refused ones too".
use Rattle.std.specs.Prelude.{◌≡◌, Bool, true, false, cond, List, [], ◌∷◌, ℕ, suc, ◌<◌, T, length, Option, Some, None, Result, Ok, Err}
use Rattle.rules.specs.Record.{Filter, change}
use Rattle.rules.specs.Refusals.{refusal, record_right, slices_right}
use Rattle.rules.specs.Sound.{sound}
use Rattle.rules.specs.Calls.{Outcome, refused, start}
use Rattle.rules.specs.Quick.{home, matched, best, query_number, insert, insert_number, delete, rejuvenate}
use Rattle.rules.specs.Slow.{audit, settle, hashes, room_for, double_number, double, second_main}
use Rattle.filter.specs.declared.Refusal.{Refusal}
use Rattle.filter.specs.Numbers.{number_of}

-- the number as far as 2 and 3 go, by the record and the lengths of main, queue and annex
unfoldable pub first_number : Filter → ℕ → ℕ → ℕ → ℕ
first_number r main queue annex =
    refusal (record { right = record_right r; number = 2 } ∷ record { right = slices_right r main queue annex; number = 3 } ∷ [])

-- number, record and words are those of the outcome
pub record Leaves (o : Outcome) (number : ℕ) (rec : Filter) (main queue annex : List ℕ) : Type 0 where
  pub number_is : number ≡ o.number
  pub rec_is : rec ≡ o.rec
  pub main_is : main ≡ o.main
  pub queue_is : queue ≡ o.queue
  pub annex_is : annex ≡ o.annex

-- A quick call that changes words. `o` is the outcome of its definition, `first` its number as far as the record and the lengths decide it, and `sound` the state's
-- soundness; r, main, queue and annex are what was handed in, and the primed ones what was left.
pub record Quick (o : Outcome) (first : ℕ) (sound : Bool) (r : Filter) (main queue annex : List ℕ)
    (number : ℕ) (rec' : Filter) (main' queue' annex' : List ℕ) : Type 0 where
  -- a refusal that record and lengths decide, for all input
  pub decided : (n : ℕ) → first ≡ suc n → Leaves o number rec' main' queue' annex'
  -- on a sound state everything is the definition's
  pub determined : T sound → Leaves o number rec' main' queue' annex'
  -- on any state: the annex and the settings stay, and a call that is refused changes nothing
  pub kept_annex : annex' ≡ annex
  pub kept_settings : rec' ≡ change r r.k rec'.used rec'.queued r.dir
  pub refused_record : (number ≡ 0 → ⊥) → rec' ≡ r
  pub refused_main : (number ≡ 0 → ⊥) → main' ≡ main
  pub refused_queue : (number ≡ 0 → ⊥) → queue' ≡ queue

-- ---- what each call promises: of the numbers, the record and the words that it leaves

abbrev pub Starts : ℕ → ℕ → ℕ → List ℕ → List ℕ → List ℕ → ℕ → Filter → List ℕ → List ℕ → List ℕ → Type 0
Starts power f regime main queue annex = Leaves (start power f regime main queue annex)

abbrev pub Inserts : Filter → List ℕ → List ℕ → List ℕ → ℕ → ℕ → Filter → List ℕ → List ℕ → List ℕ → Type 0
Inserts r main queue annex h = Quick (insert r main queue annex h) (insert_number r main queue annex) (sound r main queue annex) r main queue annex

abbrev pub Deletes : Filter → List ℕ → List ℕ → List ℕ → ℕ → ℕ → Filter → List ℕ → List ℕ → List ℕ → Type 0
Deletes r main queue annex h = Quick (delete r main queue annex h) (query_number r main queue annex) (sound r main queue annex) r main queue annex

abbrev pub Rejuvenates : Filter → List ℕ → List ℕ → List ℕ → ℕ → ℕ → Filter → List ℕ → List ℕ → List ℕ → Type 0
Rejuvenates r main queue annex h = Quick (rejuvenate r main queue annex h) (query_number r main queue annex) (sound r main queue annex) r main queue annex

-- Audit changes nothing, and answers its number
abbrev pub Audits : Filter → List ℕ → List ℕ → List ℕ → ℕ → Filter → List ℕ → List ℕ → List ℕ → Type 0
Audits r main queue annex = Leaves (refused r main queue annex (audit r main queue annex))

abbrev pub Settles : Filter → List ℕ → List ℕ → List ℕ → ℕ → Filter → List ℕ → List ℕ → List ℕ → Type 0
Settles r main queue annex = Leaves (settle r main queue annex)

-- Double is lent a second main, of which it leaves `second'`
pub record Doubles (r : Filter) (main queue annex second : List ℕ) (number : ℕ) (rec' : Filter) (main' queue' annex' second' : List ℕ) : Type 0 where
  pub left : Leaves (double r main queue annex (length second)) number rec' main' queue' annex'
  pub second_is : second' ≡ second_main r main queue annex second

-- ---- what holds between the parts of the quick calls

-- the longest match of h: 2 and 3 are not given, c is the canonical slot of h, and p is its longest match
pub record Chosen (r : Filter) (main queue annex : List ℕ) (h c p : ℕ) : Type 0 where
  pub lent : 0 ≡ first_number r (length main) (length queue) (length annex)
  pub slot : c ≡ home r h
  pub some : matched r main h ≡ true
  pub entry : p ≡ best r main h

-- what the walk to the longest match of h finds: a refusal that record and lengths decide, or else the match, if there is one
abbrev pub Sought : Filter → List ℕ → List ℕ → List ℕ → ℕ → Result (Option ℕ) Refusal → Type 0
Sought r main queue annex h (Err refusal) = number_of refusal ≡ first_number r (length main) (length queue) (length annex)
Sought r main queue annex h (Ok None) = (0 ≡ first_number r (length main) (length queue) (length annex)) × (matched r main h ≡ false)
Sought r main queue annex h (Ok (Some p)) = Chosen r main queue annex h (home r h) p

-- Double's number before the annex is asked for room: a refusal is the definition's, and where there is none only 10 is left
pub record BeforeRoom (r : Filter) (main queue annex : List ℕ) (second number : ℕ) : Type 0 where
  pub refused : (number ≡ 0 → ⊥) → number ≡ double_number r main queue annex second
  pub right : number ≡ 0 → T (record_right r)
  pub low : number ≡ 0 → r.k < 20
  pub accepted : number ≡ 0 → audit r main queue annex ≡ 0
  pub room : number ≡ 0 → (b : Bool) → b ≡ room_for r main queue annex (hashes r main queue annex) → double_number r main queue annex second ≡ cond b 0 10
