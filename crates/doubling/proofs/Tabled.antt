-- All new mother hashes of main: how many there are, and the table that has been written when they have arrived.
use mathlib.Core.Path.{◌≡◌, ap, ◌∙◌}
use mathlib.Core.List.{List, []}
use Prim.Native.Nat.{ℕ, ◌+◌, ◌^◌, ◌≤◌, ◌<◌}
use native.Mathlib.Omega.{arith}
use lib.ListN.{length, take, replicate}
use Rattle.lists.specs.Runs.{Runs, total}
use Rattle.layout.specs.Machine.{layout}
use Rattle.layout.specs.Decode.{decode, run_at}
use Rattle.rules.specs.Doubling.{new_hashes, table_of}
use Rattle.keeps.proofs.Hashes.{hashes-few}
use Rattle.arriving.specs.Arrivals.{Arrival, arrive, Arrived, of_run, of_runs}
use Rattle.arriving.proofs.Whole.{main-end, main-part, in-empty}
use Rattle.doubling.specs.NewHashes.{new_hash, stored}
use Rattle.doubling.proofs.Stored.{all-hashes, all-stored, stored-length, tabled}

pub new-few : (w : ℕ) (main : List ℕ) (c m x : ℕ) → c < length main → total (decode main) ≤ 1048576 → m ≡ length (of_runs (new_hash w 0) 0 (take c (decode main)))
    → x ≡ length (of_run (new_hash w 0 c) (run_at main c)) → m + x ≤ 1048576
new-few w main c m x h t em ex =
    omega (arith, main-part (new_hash w 0) main c m x h em ex, ap length (all-hashes w 0 0 (decode main)), hashes-few w 0 0 (decode main))

pub new-all : (w k : ℕ) (main : List ℕ) (c m : ℕ) → length main ≤ c → m ≡ length (of_runs (new_hash w k) 0 (take c (decode main))) → m ≡ length (new_hashes w k 0 (decode main))
new-all w k main c m h e = e ∙ ap length (main-end (new_hash w k) main c h ∙ all-hashes w k 0 (decode main))

pub table_done : (main part : List ℕ) (w k s : ℕ) → length (new_hashes w k 0 (decode main)) < 2 ^ s → Arrived (replicate (2 ^ s) 0) part (of_runs (stored w k s) 0 (decode main))
    → part ≡ layout (table_of (k + 1) s (new_hashes w k 0 (decode main)))
table_done main part w k s few ar =
    let rs : Runs = decode main in
    in-empty (2 ^ s) part (of_runs (stored w k s) 0 rs) (omega (arith, stored-length w k s rs)) ar
    ∙ ap (λ (l : List Arrival). layout (arrive l (replicate (2 ^ s) []))) (all-stored w k s rs) ∙ ap layout (tabled (k + 1) s (new_hashes w k 0 rs))
