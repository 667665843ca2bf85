-- The part lookup: by its two tests it is the directory's part, or empty.
use mathlib.Core.Path.{◌≡◌}
use mathlib.Core.Bool.{true, false}
use mathlib.Core.List.{List, []}
use Prim.Native.Nat.{ℕ, ◌≤◌, ◌<◌}
use lib.ListN.{length}
use borrow.Author.Tests.{le-leb, lt-leb}
use Rattle.directory.specs.Places.{part_in}
use Rattle.rules.specs.Record.{Filter, in_use, annex_used}
use Rattle.rules.specs.Refusals.{record_right}
use Rattle.rules.specs.Lookups.{part}

module _ (r : Filter) (annex : List ℕ) (b : ℕ) where
  pub part-there : record_right r ≡ true → annex_used r ≤ length annex → part_in b (in_use r) annex ≡ part r annex b
  unfolding part
  part-there e l = rw (e, le-leb (annex_used r) (length annex) l, part)

  pub part-short : record_right r ≡ true → length annex < annex_used r → [] ≡ part r annex b
  unfolding part
  part-short e l = rw (e, lt-leb (annex_used r) (length annex) l, part)

  pub part_none : record_right r ≡ false → [] ≡ part r annex b
  unfolding part
  part_none e = rw (e, part)
