-- Document 01, "Refusal numbers and their order": "Where an answer is an enum, a definition lists this paper's number and values for each case. The promises
-- use that definition."
use Rattle.std.specs.Prelude.{ℕ, Bool, Result, Ok, Err}
use Rattle.lists.specs.Lists.{bit}
use Rattle.filter.specs.declared.Refusal.{Refusal}
use Rattle.filter.specs.declared.Refusal.TheVariants.{Record, Lengths, NotSound, Full, NothingThere, QueueFull, QueueInUse, LargestSize, AnnexTooShort}
use Rattle.filter.specs.declared.Refusal.TheVariants.{Settings}

-- of a refusal
abbrev pub number_of : Refusal → ℕ
number_of Record = 2
number_of Lengths = 3
number_of NotSound = 4
number_of Full = 5
number_of NothingThere = 6
number_of QueueFull = 7
number_of QueueInUse = 8
number_of LargestSize = 9
number_of AnnexTooShort = 10
number_of Settings = 11

-- of a call that is done, 0, or refused
abbrev pub outcome_number : Result Unit Refusal → ℕ
outcome_number (Ok done) = 0
outcome_number (Err refusal) = number_of refusal

-- of Query, which answers no, 0, or yes, 1, or is refused
abbrev pub answer_number : Result Bool Refusal → ℕ
answer_number (Ok found) = bit found
answer_number (Err refusal) = number_of refusal
