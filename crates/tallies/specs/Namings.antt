-- The counters of the queue words, each of an address: those of all words that name it, and those of the even ones.
use Rattle.std.specs.Prelude.{ℕ, ◌*◌, List, map}
use Rattle.lists.specs.Runs.{count}
use Rattle.rules.specs.Sound.{naming}
use Rattle.tallies.specs.declared.Naming.{Naming}
use Rattle.tallies.specs.Tally.{block_size, Raised}

abbrev pub words_of : List Naming → List ℕ
words_of counters = map (λ c. c.words) counters

abbrev pub evens_of : List Naming → List ℕ
evens_of counters = map (λ c. c.evens) counters

-- the counters of the block from base on rise by what these queue words say
pub record Named (base : ℕ) (ws : List ℕ) (before after : List Naming) : Type 0 where
  pub words : Raised (λ c. naming c ws) base block_size (words_of before) (words_of after)
  pub evens : Raised (λ c. count (c * 2) ws) base block_size (evens_of before) (evens_of after)
