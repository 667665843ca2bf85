-- The longest match goes and the fresh entry comes at the same address, where a void needs room in the queue.
use mathlib.Core.Path.{◌≡◌, refl, sym, ap, ◌∙◌, subst}
use Prim.Native.Nat.{ℕ, ◌<◌}
use native.Mathlib.Omega.{arith}
use Rattle.std.proofs.lemmas.Result.{err_from_is_err_and}
use Rattle.slots.specs.Payload.{void, tombstone, length_of}
use mathlib.Core.Bool.{false}
use Rattle.rules.specs.Record.{change, width}
use Rattle.rules.specs.Quick.{queue_full}
use Rattle.filter.specs.Plain.{plain}
use Rattle.filter.proofs.Refused.{not-0, none-err}
use Rattle.filter.proofs.Quicks.{right, bounds_of, sought-lent, sought-none, sought-some}
use Rattle.filter.proofs.Takes.{place, roomy}
use Rattle.filter.proofs.Renews.{below, renewing, renew-refused, renew-6, renew-kept, renew-full, renew-none, renew-void, renew-bits}
use Rattle.filter.proofs.Record.rejuvenate_in.Goals as goal
use Rattle.filter.proofs.Record.rejuvenate_in.Goals.{else-is_void-via-then-is_void+else-queue_full, else-is_void-via-else-is_void}

pub returns-in_err-longest_match : goal.returns-in_err-longest_match
returns-in_err-longest_match c =
    let a = c.args in
    let p = err_from_is_err_and c.from_residual.result c.from_residual.ensures.1 in
    rw (p.1, p.2) (renew-refused (plain a.self.now) a.main.now a.queue.now a.annex.now a.hash _ c.in_err-longest_match.ensures (not-0 _))

pub returns-in_err-payload : goal.returns-in_err-payload
returns-in_err-payload c =
    let a = c.args in
    let s = c.in_ok-longest_match.ensures in
    let p = err_from_is_err_and c.from_residual-in_err-payload.result c.from_residual-in_err-payload.ensures.1 in
    let n = none-err _ _ _ c.in_err-payload.ensures.value in
    rw (p.1, p.2, n.1)
    (renew-6 (plain a.self.now) a.main.now a.queue.now a.annex.now a.hash (sought-lent (plain a.self.now) a.main.now a.queue.now a.annex.now a.hash _ s)
    (sought-none (plain a.self.now) a.main.now a.queue.now a.annex.now a.hash _ n.0 s))

pub home-home-requires : goal.home-home-requires
home-home-requires c =
    let a = c.args in right (plain a.self.now) _ _ _ (sought-lent (plain a.self.now) a.main.now a.queue.now a.annex.now a.hash _ c.in_ok-longest_match.ensures)

pub width-width-requires : goal.width-width-requires
width-width-requires c =
    let a = c.args in
    let r = plain a.self.now in
    let ch = sought-some r a.main.now a.queue.now a.annex.now a.hash _ _ _ c.in_ok-payload.ensures.ok_part c.home-home.ensures c.in_ok-longest_match.ensures in
    right r _ _ _ ch.lent

pub fresh_length-requires : goal.fresh_length-requires
fresh_length-requires c =
    let a = c.args in
    let r = plain a.self.now in
    let ch = sought-some r a.main.now a.queue.now a.annex.now a.hash _ _ _ c.in_ok-payload.ensures.ok_part c.home-home.ensures c.in_ok-longest_match.ensures in
    right r _ _ _ ch.lent

pub fresh_entry-fresh-requires : goal.fresh_entry-fresh-requires
fresh_entry-fresh-requires c =
    let a = c.args in
    let r = plain a.self.now in
    let ch = sought-some r a.main.now a.queue.now a.annex.now a.hash _ _ _ c.in_ok-payload.ensures.ok_part c.home-home.ensures c.in_ok-longest_match.ensures in
    right r _ _ _ ch.lent

pub length_of-requires : goal.length_of-requires
length_of-requires c =
    let a = c.args in
    let r = plain a.self.now in
    let ch = sought-some r a.main.now a.queue.now a.annex.now a.hash _ _ _ c.in_ok-payload.ensures.ok_part c.home-home.ensures c.in_ok-longest_match.ensures in
    let b = bounds_of r a.main.now a.queue.now a.annex.now ch.lent in (
      omega (arith, b.width_26, c.width-width.ensures.0),
      subst (λ (x : ℕ). c.in_ok-payload.payload < tombstone x) (sym c.width-width.ensures.0)
          (below r a.main.now a.queue.now a.annex.now a.hash _ _ ch),
    )

pub returns-then-fresh_length-length_of : goal.returns-then-fresh_length-length_of
returns-then-fresh_length-length_of c =
    let a = c.args in
    let r = plain a.self.now in
    let ch = sought-some r a.main.now a.queue.now a.annex.now a.hash _ _ _ c.in_ok-payload.ensures.ok_part c.home-home.ensures c.in_ok-longest_match.ensures in
    renew-kept r a.main.now a.queue.now a.annex.now a.hash _ _ ch
    (omega (
      arith,
      c.fresh_length.ensures.0,
      c.length_of.ensures,
      ap (λ (w : ℕ). length_of w c.in_ok-payload.payload) c.width-width.ensures.0,
      c.if-fresh_length-length_of.true,
    ))

pub returns-then-queue_full : goal.returns-then-queue_full
returns-then-queue_full c =
    let a = c.args in
    let r = plain a.self.now in
    let ch = sought-some r a.main.now a.queue.now a.annex.now a.hash _ _ _ c.in_ok-payload.ensures.ok_part c.home-home.ensures c.in_ok-longest_match.ensures in
    let re = renewing r a.main.now a.queue.now a.annex.now a.hash _ _ ch _ _ _ _ c.width-width.ensures.0 c.fresh_length.ensures.0 c.length_of.ensures
    c.if-fresh_length-length_of.false c.fresh_entry-fresh.ensures.0 in
    let vo = c.if-is_void.true ∙ c.void_of.ensures ∙ ap void c.width-width.ensures.0 in
    renew-full r a.main.now a.queue.now a.annex.now a.hash _ _ ch _ re vo (sym c.queue_full.ensures ∙ c.if-queue_full.true)

pub exchange-requires : goal.exchange-requires
exchange-requires c =
    let a = c.args in
    let r = plain a.self.now in
    let ch = sought-some r a.main.now a.queue.now a.annex.now a.hash _ _ _ c.in_ok-payload.ensures.ok_part c.home-home.ensures c.in_ok-longest_match.ensures in
    let v = place r a.main.now a.queue.now a.annex.now a.hash _ _ ch in (v.inside, v.most, v.more, c.fresh_entry-fresh.ensures.1)

pub returns-then-not-exchange : goal.returns-then-not-exchange
returns-then-not-exchange c =
    let a = c.args in
    let r = plain a.self.now in
    let ch = sought-some r a.main.now a.queue.now a.annex.now a.hash _ _ _ c.in_ok-payload.ensures.ok_part c.home-home.ensures c.in_ok-longest_match.ensures in
    let re = renewing r a.main.now a.queue.now a.annex.now a.hash _ _ ch _ _ _ _ c.width-width.ensures.0 c.fresh_length.ensures.0 c.length_of.ensures
    c.if-fresh_length-length_of.false c.fresh_entry-fresh.ensures.0 in
    renew-none r a.main.now a.queue.now a.annex.now a.hash _ _ ch _ re _ _ c.exchange.ensures c.if-not-exchange.true

pub overflow_cast-home : goal.overflow_cast-home
overflow_cast-home c =
    let a = c.args in
    let r = plain a.self.now in
    let ch = sought-some r a.main.now a.queue.now a.annex.now a.hash _ _ _ c.in_ok-payload.ensures.ok_part c.home-home.ensures c.in_ok-longest_match.ensures in
    let v = place r a.main.now a.queue.now a.annex.now a.hash _ _ ch in omega (arith, v.slots)

pub overflow_mul-home : goal.overflow_mul-home
overflow_mul-home c =
    let a = c.args in
    let r = plain a.self.now in
    let ch = sought-some r a.main.now a.queue.now a.annex.now a.hash _ _ _ c.in_ok-payload.ensures.ok_part c.home-home.ensures c.in_ok-longest_match.ensures in
    let v = place r a.main.now a.queue.now a.annex.now a.hash _ _ ch in omega (arith, v.slots)

pub overflow_add-home : goal.overflow_add-home
overflow_add-home c =
    let a = c.args in
    let r = plain a.self.now in
    let ch = sought-some r a.main.now a.queue.now a.annex.now a.hash _ _ _ c.in_ok-payload.ensures.ok_part c.home-home.ensures c.in_ok-longest_match.ensures in
    let v = place r a.main.now a.queue.now a.annex.now a.hash _ _ ch in omega (arith, v.slots)

pub push-requires : goal.push-requires
push-requires c =
    let a = c.args in
    let r = plain a.self.now in
    let ch = sought-some r a.main.now a.queue.now a.annex.now a.hash _ _ _ c.in_ok-payload.ensures.ok_part c.home-home.ensures c.in_ok-longest_match.ensures in
    elim c.else-is_void.branch [
      | else-is_void-via-then-is_void+else-queue_full w ↦ roomy r a.main.now a.queue.now a.annex.now a.hash _ _ ch
          (sym w.queue_full.ensures ∙ w.if-queue_full.false)
      | else-is_void-via-else-is_void w ↦ absurd (w.if-is_void.false c.if-is_void-2.true)
    ]

pub returns-then-is_void-2 : goal.returns-then-is_void-2
unfolding change
returns-then-is_void-2 c =
    let a = c.args in
    let r = plain a.self.now in
    let ch = sought-some r a.main.now a.queue.now a.annex.now a.hash _ _ _ c.in_ok-payload.ensures.ok_part c.home-home.ensures c.in_ok-longest_match.ensures in
    let re = renewing r a.main.now a.queue.now a.annex.now a.hash _ _ ch _ _ _ _ c.width-width.ensures.0 c.fresh_length.ensures.0 c.length_of.ensures
    c.if-fresh_length-length_of.false c.fresh_entry-fresh.ensures.0 in
    let vo = c.if-is_void-2.true ∙ c.void_of.ensures ∙ ap void c.width-width.ensures.0 in
    let roomy : queue_full r a.queue.now ≡ false =
    elim c.else-is_void.branch [
      | else-is_void-via-then-is_void+else-queue_full w ↦ sym w.queue_full.ensures ∙ w.if-queue_full.false
      | else-is_void-via-else-is_void w ↦ absurd (w.if-is_void.false c.if-is_void-2.true)
    ] in
    rw (c.push.ensures.0, c.push.ensures.1)
    (renew-void r a.main.now a.queue.now a.annex.now a.hash _ _ ch _ re vo _ _ _ c.exchange.ensures c.if-not-exchange.false refl roomy)

pub returns-else-is_void-2 : goal.returns-else-is_void-2
returns-else-is_void-2 c =
    let a = c.args in
    let r = plain a.self.now in
    let ch = sought-some r a.main.now a.queue.now a.annex.now a.hash _ _ _ c.in_ok-payload.ensures.ok_part c.home-home.ensures c.in_ok-longest_match.ensures in
    let re = renewing r a.main.now a.queue.now a.annex.now a.hash _ _ ch _ _ _ _ c.width-width.ensures.0 c.fresh_length.ensures.0 c.length_of.ensures
    c.if-fresh_length-length_of.false c.fresh_entry-fresh.ensures.0 in
    let ne : c.in_ok-payload.payload ≡ void (width r) → ⊥ = λ e. c.if-is_void-2.false (e ∙ sym (c.void_of.ensures ∙ ap void c.width-width.ensures.0)) in
    renew-bits r a.main.now a.queue.now a.annex.now a.hash _ _ ch _ re ne _ _ c.exchange.ensures c.if-not-exchange.false
