-- Document 01, "The record of a filter": "a thin layer lets the host lend one filter record and have it updated in place; a refused call through it, Start included,
-- leaves that record as it was." Start over a record that is there: its own outcome where it is done, and that record, with all words, where it is refused.
use Rattle.std.specs.Prelude.{ℕ, List, length}
use Rattle.rules.specs.Record.{Filter}
use Rattle.rules.specs.Calls.{Outcome, give, refused, start_number, start}

unfoldable pub restart : Filter → ℕ → ℕ → ℕ → List ℕ → List ℕ → List ℕ → Outcome
restart r power f regime main queue annex =
    give (start_number power f regime (length main)) (start power f regime main queue annex)
    (refused r main queue annex (start_number power f regime (length main)))
