-- `lookup::first_from` meets its contract: the loop carries the slot and the payload of the next entry, by the laws of `Scanning`.
use Rattle.std.proofs.Common.{sym, arith}
use Rattle.slots.specs.Payload.{matches}
use Rattle.layout.proofs.RunLaws.{run_length}
use Rattle.layout.proofs.Searches.{seeking-start}
use Rattle.lookup.proofs.Finds.{first-none}
use Rattle.lookup.proofs.Scans.{scan-start, scan-found, scan-stop, scan-on, scan-end}
use Rattle.lookup.proofs.first_from.Goals as goal

pub returns-then-n-run : goal.returns-then-n-run
returns-then-n-run g c =
    let a = c.args in
    first-none _ _ 0 (seeking-start _ _) (omega (arith, run_length (g.W.Words.words a.table) a.run.home a.run.from))

pub loop-init : goal.loop-init
loop-init g c =
    let a = c.args in
    record {
      inside = omega arith;
      scan =
          scan-start (matches a.w a.k a.hash) (g.W.Words.words a.table) a.run.home a.run.from _ (omega arith) (sym c.size-n.ensures) c.if-n-run.false
          _ _ c.around-slot.ensures.0 c.word-payload.ensures;
    }

pub returns-then-matches : goal.returns-then-matches
returns-then-matches g c =
    let a = c.args in
    let l = c.loop in
    scan-found (matches a.w a.k a.hash) (g.W.Words.words a.table) a.run.home a.run.from _ (omega arith) (sym c.size-n.ensures)
    l.counter l.slot l.payload l.invariant.scan (omega arith) _ c.matches.ensures c.if-matches.true

pub loop-preserved : goal.loop-preserved
loop-preserved g c =
    let a = c.args in
    let l = c.loop in
    record {
      inside = omega arith;
      scan =
          scan-on (matches a.w a.k a.hash) (g.W.Words.words a.table) a.run.home a.run.from _ (omega arith) (sym c.size-n.ensures)
          l.counter l.slot l.payload l.invariant.scan (omega arith)
          _ c.matches.ensures c.if-matches.false _ _ c.after-slot.ensures.0 c.word-word.ensures c.if-word-eq0.false;
    }

pub returns-after-loop : goal.returns-after-loop
returns-after-loop g c =
    let a = c.args in
    let l = c.loop in
    scan-end (matches a.w a.k a.hash) (g.W.Words.words a.table) a.run.home a.run.from _ (omega arith) (sym c.size-n.ensures)
    l.counter l.slot l.payload l.invariant.scan (omega arith)

pub returns-then-word-eq0 : goal.returns-then-word-eq0
returns-then-word-eq0 g c =
    let a = c.args in
    let l = c.loop in
    scan-stop (matches a.w a.k a.hash) (g.W.Words.words a.table) a.run.home a.run.from _ (omega arith) (sym c.size-n.ensures)
    l.counter l.slot l.payload l.invariant.scan (omega arith)
    _ c.matches.ensures c.if-matches.false _ _ c.after-slot.ensures.0 c.word-word.ensures c.if-word-eq0.true
