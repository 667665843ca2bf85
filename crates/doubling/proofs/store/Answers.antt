-- An entry of one bit gives one mother hash, any other none.
use mathlib.Core.Path.{sym, ◌∙◌}
use Prim.Native.Nat.{◌<◌}
use native.Mathlib.Omega.{arith}
use borrow.Author.Rules.{rules}
use Rattle.doubling.proofs.Loops.{entry-small, stored_no, stored-yes}
use Rattle.doubling.proofs.store.Goals as goal

pub insert-requires : goal.insert-requires
insert-requires c =
    let a = c.args in
    let small : c.hash_entry-entry.result < 536870912 = entry-small _ a.s c.new_address-hash.result _ (omega arith) (omega arith) c.hash_entry-entry.ensures in
    search rules

pub returns-then-becomes_void : goal.returns-then-becomes_void
returns-then-becomes_void c =
    let a = c.args in
    let hash = c.new_address-hash.ensures in
    let new = sym c.becomes_void.ensures ∙ c.if-becomes_void.true in
    stored-yes a.w a.k a.c a.p a.s _ _ _ _ _ new hash.0 hash.1 c.hash_slot-slot.ensures.0 c.hash_entry-entry.ensures c.insert.ensures

pub returns-else-becomes_void : goal.returns-else-becomes_void
returns-else-becomes_void c =
    let a = c.args in
    stored_no a.w a.k a.c a.p a.s _ (sym c.becomes_void.ensures ∙ c.if-becomes_void.false)
