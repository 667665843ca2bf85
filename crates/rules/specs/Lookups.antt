-- Document 01: the part lookup, "A caller may ask for the words of the annex table of one length and receives that part of the annex itself, or an empty part if the
-- directory has none"; "The part lookup has no number: where 2 holds, or the annex is shorter than the tables in use, it returns an empty part." And the exported
-- Query: "exported Query: k not 3 to 20, W not 4 to 26" is 2, "(exported: 4 times 2^k bytes)" is 3; "the answer is the same".
use Rattle.std.specs.Prelude.{ℕ, zero, suc, ◌*◌, ◌^◌, true, false, ◌&&◌, List, [], ◌∷◌, length, leb, ltb, eqb}
use Rattle.lists.specs.Lists.{bit, within}
use Rattle.lists.specs.Runs.{hits}
use Rattle.slots.specs.Payload.{canonical_slot, matches}
use Rattle.layout.specs.Decode.{run_at}
use Rattle.layout.specs.Bytes.{words_of}
use Rattle.directory.specs.Places.{part_in}
use Rattle.rules.specs.Record.{Filter, in_use, annex_used}
use Rattle.rules.specs.Refusals.{refusal, record_right}

unfoldable pub part : Filter → List ℕ → ℕ → List ℕ
part r annex b = elim (record_right r && leb (annex_used r) (length annex)) [ true ↦ part_in b (in_use r) annex | false ↦ [] ]

unfoldable pub bytes_number : ℕ → ℕ → ℕ → ℕ
bytes_number k w n =
    refusal (record { right = within 3 20 k && within 4 26 w; number = 2 } ∷ record { right = eqb n (4 * 2 ^ k); number = 3 } ∷ [])

unfoldable pub answer_in : ℕ → ℕ → List ℕ → ℕ → ℕ
answer_in k w main h = bit (ltb 0 (length (hits (matches w k h) (run_at main (canonical_slot k h)))))

unfoldable pub query_bytes : ℕ → ℕ → List ℕ → ℕ → ℕ
query_bytes k w bytes h = elim (bytes_number k w (length bytes)) [ zero ↦ answer_in k w (words_of bytes) h | suc n ↦ suc n ]
