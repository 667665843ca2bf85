-- Document 01, "What the calls do": "A state is sound if the main and annex tables are layouts of what they decode to, main payloads below 2^W with k+L at least
-- 6 for every entry with bits, annex payloads all of length b-s, with correct counts; queue addresses are below 2^k; each address has as many tombstones as even
-- queue words naming it; and its voids number the mother hashes matching it less the queue words naming it, or 0 if that is negative."
use Rattle.std.specs.Prelude.{ℕ, ◌+◌, ◌-◌, ◌*◌, ◌/◌, ◌^◌, Bool, true, ◌&&◌, ◌||◌, List, [], ◌∷◌, map, take, drop, leb, ltb, eqb}
use Rattle.lists.specs.Lists.{every, same, map_at}
use Rattle.lists.specs.Runs.{rising, count, total}
use Rattle.slots.specs.Payload.{void, tombstone, rest_of, length_of}
use Rattle.layout.specs.Machine.{layout}
use Rattle.layout.specs.Decode.{decode}
use Rattle.directory.specs.declared.Place.{Place}
use Rattle.rules.specs.Record.{Filter, width, in_use}
use Rattle.rules.specs.Tables.{Table, tables, mothers_of}

-- the words are a layout of rising runs: of what they decode to
unfoldable pub laid : List ℕ → Bool
laid words = let runs = decode words in every rising runs && same words (layout runs)

-- .. with n entries, all of which pass the test
unfoldable pub table_right : (ℕ → Bool) → ℕ → List ℕ → Bool
table_right f n words = laid words && (every (every f) (decode words) && eqb (total (decode words)) n)

-- a main entry: below 2^W, and k+L at least 6 if it has bits
unfoldable pub main_entry : ℕ → ℕ → ℕ → Bool
main_entry w k p = ltb p (2 ^ w) && (eqb (length_of w p) 0 || leb 6 (k + length_of w p))

-- an annex entry of length l: no tombstone, and l bits
unfoldable pub annex_entry : ℕ → ℕ → Bool
annex_entry l p = ltb p (2 ^ 18) && eqb (rest_of 18 p) (l + 1)

unfoldable pub annex_right : List Place → List ℕ → Bool
annex_right [] annex = true
annex_right (p ∷ ps) annex =
    table_right (annex_entry (p.b - p.s)) p.count (take (2 ^ p.s) annex) && annex_right ps (drop (2 ^ p.s) annex)

-- queue words that name c
unfoldable pub naming : ℕ → List ℕ → ℕ
naming c ws = count c (map (λ w. w / 2) ws)

-- tombstones and voids of address c, whose run is given; ws are the queue words
unfoldable pub address_right : ℕ → List Table → List ℕ → ℕ → List ℕ → Bool
address_right w ts ws c run = eqb (count (tombstone w) run) (count (c * 2) ws) && eqb (count (void w) run) (mothers_of c ts - naming c ws)

unfoldable pub main_right : Filter → List ℕ → Bool
main_right r main = table_right (main_entry (width r) r.k) r.used main

unfoldable pub queue_right : Filter → List ℕ → Bool
queue_right r queue = every (λ w. ltb (w / 2) (2 ^ r.k)) (take r.queued queue)

unfoldable pub addresses_right : Filter → List ℕ → List ℕ → List ℕ → Bool
addresses_right r main queue annex =
    let ws = take r.queued queue in
    let ts = tables (in_use r) annex in
    every (λ (b : Bool). b) (map_at (address_right (width r) ts ws) 0 (decode main))

unfoldable pub sound : Filter → List ℕ → List ℕ → List ℕ → Bool
sound r main queue annex = main_right r main && (annex_right (in_use r) annex && (queue_right r queue && addresses_right r main queue annex))
