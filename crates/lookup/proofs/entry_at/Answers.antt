-- `lookup::entry_at` meets its contract: the first entry is there, and each later one where its word continues the run.
use Rattle.std.proofs.Common.{refl, arith}
use Rattle.layout.specs.Reading.{run_from}
use Rattle.layout.proofs.RunLaws.{run_length, step-out, step-first, step-stop, step-on}
use Rattle.lookup.proofs.Finds.{some-read, none-read}
use Rattle.lookup.proofs.entry_at.Goals as goal
use Rattle.lookup.proofs.entry_at.Goals.{else-t-gt0-via-then-t-gt0+else-w-eq0, else-t-gt0-via-else-t-gt0}

pub overflow_add-place : goal.overflow_add-place
overflow_add-place c = let a = c.args in omega (arith, run_length a.ws.now a.run.home a.run.from)

pub returns-then-n-place : goal.returns-then-n-place
returns-then-n-place c =
    let a = c.args in
    none-read (run_from a.ws.now a.run.home a.run.from) a.t _ (step-out a.ws.now a.run.home a.run.from a.t _ (omega arith) refl (omega arith) c.if-n-place.true)

pub returns-then-w-eq0 : goal.returns-then-w-eq0
returns-then-w-eq0 c =
    let a = c.args in
    none-read (run_from a.ws.now a.run.home a.run.from) a.t _
    (step-stop a.ws.now a.run.home a.run.from a.t _ (omega arith) refl (omega arith) _ c.if-n-place.false c.around.ensures.0 (omega arith) c.if-w-eq0.true)

pub returns-else-t-gt0 : goal.returns-else-t-gt0
returns-else-t-gt0 c =
    let a = c.args in
    let read = some-read (run_from a.ws.now a.run.home a.run.from) a.t in
    elim c.else-t-gt0.branch [
      | else-t-gt0-via-then-t-gt0+else-w-eq0 w ↦
          read _
          (step-on a.ws.now a.run.home a.run.from a.t _ (omega arith) refl (omega arith) _ c.if-n-place.false c.around.ensures.0 (omega arith) w.if-w-eq0.false)
      | else-t-gt0-via-else-t-gt0 w ↦
          read _ (step-first a.ws.now a.run.home a.run.from a.t _ (omega arith) refl (omega arith) _ c.if-n-place.false c.around.ensures.0 (omega arith))
    ]
