-- After i addresses their counters have risen, and the walk has reached the next.
use Prim.Native.Nat.{ℕ, suc, ◌+◌, ◌<◌, ◌-◌, ◌%◌, ◌^◌}
use mathlib.Core.Path.{◌≡◌, refl, ap, ◌∙◌}
use native.Mathlib.Omega.{arith}
use borrow.Author.Rules.{rules}
use lib.ListN.{length}
use Rattle.rules.specs.Tables.{hash_entry}
use Rattle.sound.specs.Reading.{read_at}
use Rattle.tallies.proofs.Sums.{room-20, room-1}
use Rattle.tallies.proofs.Walks.{reached-first, reached-in, reached-small, reached-count, reached-anew, reached-next, few-found}
use Rattle.tallies.proofs.Walks.{raised-none, raised-small, raised-one}
use Rattle.tallies.proofs.tally_table.Goals as goal
use Rattle.tallies.proofs.tally_table.Goals.{then-a-eq0, else-a-eq0}

pub locate-k-requires : goal.locate-k-requires
locate-k-requires c = (omega arith, search (rules, room-20), search (rules, room-1))

pub loop-i-init : goal.loop-i-init
loop-i-init c = (search (rules, reached-first), raised-none _ _ _)

pub read_run-run-requires : goal.read_run-run-requires
read_run-run-requires c = (search (rules, reached-in), search (rules, reached-small), search (rules, room-20))

pub overflow_add-mothers : goal.overflow_add-mothers
overflow_add-mothers c =
    let l = c.loop-i in
    let part = c.args.part.now in
    let whole = room-20 c.args.s c.args.b _ c.requires.3 c.requires.1 c.requires.2 in
    let in_block : l.i < length c.args.mothers.now = omega (arith, c.requires.7) in
    record {
      fits =
          omega (
            arith,
            raised-small _ _ _ l.i l.mothers l.invariant.1 in_block 15728640 c.requires.8,
            (few-found part _ _ _ _ _ _ _ whole c.read_run-run.ensures).1,
          );
    }

pub onward-k-requires : goal.onward-k-requires
onward-k-requires c =
    let l = c.loop-i in
    let whole = room-20 c.args.s c.args.b _ c.requires.3 c.requires.1 c.requires.2 in
    (omega (arith, whole, reached-small _ _ _ c.requires.4 c.requires.3 _ _ _ _ l.invariant.0), (few-found _ _ _ _ _ _ _ _ whole c.read_run-run.ensures).0)

pub after-a-requires : goal.after-a-requires
after-a-requires c = (search (rules, reached-in), search (rules, room-20))

pub loop-i-preserved : goal.loop-i-preserved
loop-i-preserved c =
    let l = c.loop-i in
    let a = c.args in
    let r = c.read_run-run.ensures in
    let in_block : l.i < length a.mothers.now = omega (arith, c.requires.7) in
    let next : a.base + (l.i + 1) ≡ suc (a.base + l.i) = omega arith in
    let sum : a.base + l.i + 1 ≡ a.base + (l.i + 1) = omega arith in
    let ek : c.onward-k.result ≡ l.k + length (read_at a.part.now l.a l.k) - 1 = omega (arith, c.onward-k.ensures, r.size) in (
      elim c.if-a-eq0.branch [
        | then-a-eq0 w ↦ reached-anew _ _ _ c.requires.4 c.requires.3 _ _ _ _ l.invariant.0 _ _ _ next c.after-a.ensures.0 ek _
            (w.p-is ∙ w.hash_entry-p-then-a-eq0.ensures ∙ ap (λ (x : ℕ). hash_entry a.b a.s (x % 2 ^ a.b)) sum)
        | else-a-eq0 w ↦ rw w.p-is
            (reached-next _ _ _ c.requires.4 c.requires.3 _ _ _ _ l.invariant.0 _ _ _ next c.after-a.ensures.0 ek c.requires.1 w.if-a-eq0.false)
      ],
      raised-one _ _ _ l.i l.mothers l.invariant.1 in_block _ _ (reached-count _ _ _ c.requires.4 c.requires.3 _ _ _ _ l.invariant.0 _ r.voids) refl,
    )

pub returns : goal.returns
returns c =
    let l = c.loop-i in
    let e : l.i ≡ c.args.n = omega arith in
    rw e at l.invariant.1
