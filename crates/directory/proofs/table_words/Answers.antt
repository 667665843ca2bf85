-- `table_words` is a power of two of at most 20.
use native.Mathlib.Omega.{arith}
use lib.Pow.{pow_mono}
use Rattle.directory.proofs.table_words.Goals as goal

pub returns : goal.returns
returns c = (c.pow2.ensures.0, omega (arith, pow_mono c.requires))
