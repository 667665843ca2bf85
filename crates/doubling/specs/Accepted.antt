-- Document 01, "Refusal numbers and their order": "Double 2, 9, 3, 4, 8, 10." What the accepted case hands in, and what it has to give back.
use Rattle.std.specs.Prelude.{◌≡◌, List, ℕ, ◌+◌, length}
use Rattle.lists.specs.Runs.{total}
use Rattle.layout.specs.Machine.{layout}
use Rattle.directory.specs.declared.Place.{Place}
use Rattle.rules.specs.Record.{Filter, width, width_at, annex_used}
use Rattle.rules.specs.Slow.{hashes, double_number, doubled_runs, more_annex, more_dir}

-- the numbers of a record: k, width now and after, annex words in use, new mother hashes, directory
pub record Numbers (r : Filter) (main queue annex : List ℕ) (k w v taken n : ℕ) (places : List Place) : Type 0 where
  pub is_k : k ≡ r.k
  pub is_w : w ≡ width r
  pub is_v : v ≡ width_at r (r.k + 1)
  pub is_taken : taken ≡ annex_used r
  pub is_n : n ≡ length (hashes r main queue annex)
  pub is_places : places ≡ r.dir

-- they are those of some record and queue with which Double is not refused
pub record Accepted (main second annex : List ℕ) (k w v taken n : ℕ) (places : List Place) : Type 0 where
  pub r : Filter
  pub queue : List ℕ
  pub numbers : Numbers r main queue annex k w v taken n places
  pub number : double_number r main queue annex (length second) ≡ 0

-- the second main, annex, used count and directory after the call
pub record Done (r : Filter) (main queue annex : List ℕ) (second annex_after : List ℕ) (used : ℕ) (places : List Place) : Type 0 where
  pub second_is : second ≡ layout (doubled_runs r main queue annex)
  pub annex_is : annex_after ≡ more_annex r main queue annex (hashes r main queue annex)
  pub used_is : used ≡ total (doubled_runs r main queue annex)
  pub places_is : places ≡ more_dir r main queue annex (hashes r main queue annex)
