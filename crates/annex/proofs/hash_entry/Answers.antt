-- `hash_entry` meets its contract: the b bits less the low s of them are a fingerprint of b-s bits.
use Rattle.annex.proofs.Entry.{entry-fits}
use borrow.Author.Rules.{rules}
use Rattle.annex.proofs.hash_entry.Goals as goal

pub encode-requires : goal.encode-requires
encode-requires c = (search rules, (search rules, entry-fits _ _ _ _ _ (search rules) c.pow2.ensures.0 c.pow2-2.ensures.0))
