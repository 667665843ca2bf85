-- On a sound state the longest match is in its run and the used count is not 0, so the tests that fail there show memory that is not sound.
use mathlib.Core.Path.{◌≡◌, refl, sym, ap, ◌∙◌}
use native.Mathlib.Omega.{arith}
use Rattle.std.proofs.lemmas.Result.{err_from_is_err_and}
use Rattle.slots.specs.Payload.{void}
use Rattle.rules.specs.Record.{change, width}
use Rattle.filter.specs.Plain.{plain}
use Rattle.filter.proofs.Refused.{not-0, none-err}
use Rattle.filter.proofs.Quicks.{right, sought-lent, sought-none, sought-some}
use Rattle.filter.proofs.Takes.{place, roomy}
use Rattle.filter.proofs.Deletes.{delete-refused, delete-6, bits_none, bits-gone, bits-done, void-full, void-none, void-done, void-small}
use Rattle.filter.proofs.Record.delete_from.Goals as goal

pub returns-in_err-longest_match : goal.returns-in_err-longest_match
returns-in_err-longest_match c =
    let a = c.args in
    let p = err_from_is_err_and c.from_residual.result c.from_residual.ensures.1 in
    rw (p.1, p.2) (delete-refused (plain a.self.now) a.main.now a.queue.now a.annex.now a.hash _ c.in_err-longest_match.ensures (not-0 _))

pub returns-in_err-payload : goal.returns-in_err-payload
returns-in_err-payload c =
    let a = c.args in
    let s = c.in_ok-longest_match.ensures in
    let p = err_from_is_err_and c.from_residual-in_err-payload.result c.from_residual-in_err-payload.ensures.1 in
    let n = none-err _ _ _ c.in_err-payload.ensures.value in
    rw (p.1, p.2, n.1)
    (delete-6 (plain a.self.now) a.main.now a.queue.now a.annex.now a.hash (sought-lent (plain a.self.now) a.main.now a.queue.now a.annex.now a.hash _ s)
    (sought-none (plain a.self.now) a.main.now a.queue.now a.annex.now a.hash _ n.0 s))

pub home-home-requires : goal.home-home-requires
home-home-requires c =
    let a = c.args in right (plain a.self.now) _ _ _ (sought-lent (plain a.self.now) a.main.now a.queue.now a.annex.now a.hash _ c.in_ok-longest_match.ensures)

pub width-requires : goal.width-requires
width-requires c = let a = c.args in
    right (plain a.self.now) _ _ _ (sought-lent (plain a.self.now) a.main.now a.queue.now a.annex.now a.hash _ c.in_ok-longest_match.ensures)

pub returns-then-queue_full : goal.returns-then-queue_full
returns-then-queue_full c =
    let a = c.args in
    let r = plain a.self.now in
    let ch = sought-some r a.main.now a.queue.now a.annex.now a.hash _ _ _ c.in_ok-payload.ensures.ok_part c.home-home.ensures c.in_ok-longest_match.ensures in
    let vo = c.if-payload-void_of.true ∙ c.void_of.ensures ∙ ap void c.width.ensures.0 in
    void-full r a.main.now a.queue.now a.annex.now a.hash _ _ ch vo (sym c.queue_full.ensures ∙ c.if-queue_full.true)

pub raise_last-requires : goal.raise_last-requires
raise_last-requires c =
    let a = c.args in
    let r = plain a.self.now in
    let ch = sought-some r a.main.now a.queue.now a.annex.now a.hash _ _ _ c.in_ok-payload.ensures.ok_part c.home-home.ensures c.in_ok-longest_match.ensures in
    let vo = c.if-payload-void_of.true ∙ c.void_of.ensures ∙ ap void c.width.ensures.0 in
    let v = place r a.main.now a.queue.now a.annex.now a.hash _ _ ch in
    (v.inside, v.most, v.more, void-small r a.main.now a.queue.now a.annex.now a.hash _ _ ch vo)

pub returns-then-not-raise_last : goal.returns-then-not-raise_last
returns-then-not-raise_last c =
    let a = c.args in
    let r = plain a.self.now in
    let ch = sought-some r a.main.now a.queue.now a.annex.now a.hash _ _ _ c.in_ok-payload.ensures.ok_part c.home-home.ensures c.in_ok-longest_match.ensures in
    let vo = c.if-payload-void_of.true ∙ c.void_of.ensures ∙ ap void c.width.ensures.0 in
    void-none r a.main.now a.queue.now a.annex.now a.hash _ _ ch vo _ _ c.raise_last.ensures c.if-not-raise_last.true

pub overflow_cast-home : goal.overflow_cast-home
overflow_cast-home c =
    let a = c.args in
    let r = plain a.self.now in
    let ch = sought-some r a.main.now a.queue.now a.annex.now a.hash _ _ _ c.in_ok-payload.ensures.ok_part c.home-home.ensures c.in_ok-longest_match.ensures in
    let v = place r a.main.now a.queue.now a.annex.now a.hash _ _ ch in omega (arith, v.slots)

pub overflow_mul-home : goal.overflow_mul-home
overflow_mul-home c =
    let a = c.args in
    let r = plain a.self.now in
    let ch = sought-some r a.main.now a.queue.now a.annex.now a.hash _ _ _ c.in_ok-payload.ensures.ok_part c.home-home.ensures c.in_ok-longest_match.ensures in
    let v = place r a.main.now a.queue.now a.annex.now a.hash _ _ ch in omega (arith, v.slots)

pub push-requires : goal.push-requires
push-requires c =
    let a = c.args in
    let r = plain a.self.now in
    let ch = sought-some r a.main.now a.queue.now a.annex.now a.hash _ _ _ c.in_ok-payload.ensures.ok_part c.home-home.ensures c.in_ok-longest_match.ensures in
    roomy r a.main.now a.queue.now a.annex.now a.hash _ _ ch (sym c.queue_full.ensures ∙ c.if-queue_full.false)

pub returns-then-payload-void_of : goal.returns-then-payload-void_of
unfolding change
returns-then-payload-void_of c =
    let a = c.args in
    let r = plain a.self.now in
    let ch = sought-some r a.main.now a.queue.now a.annex.now a.hash _ _ _ c.in_ok-payload.ensures.ok_part c.home-home.ensures c.in_ok-longest_match.ensures in
    let vo = c.if-payload-void_of.true ∙ c.void_of.ensures ∙ ap void c.width.ensures.0 in
    rw (c.push.ensures.0, c.push.ensures.1)
    (void-done r a.main.now a.queue.now a.annex.now a.hash _ _ ch vo _ _ _ c.raise_last.ensures c.if-not-raise_last.false refl
    (sym c.queue_full.ensures ∙ c.if-queue_full.false))

pub returns-then-self-eq0 : goal.returns-then-self-eq0
returns-then-self-eq0 c =
    let a = c.args in
    let r = plain a.self.now in
    let ch = sought-some r a.main.now a.queue.now a.annex.now a.hash _ _ _ c.in_ok-payload.ensures.ok_part c.home-home.ensures c.in_ok-longest_match.ensures in
    let ne : c.in_ok-payload.payload ≡ void (width r) → ⊥ = λ e. c.if-payload-void_of.false (e ∙ sym (c.void_of.ensures ∙ ap void c.width.ensures.0)) in
    bits_none r a.main.now a.queue.now a.annex.now a.hash _ _ ch ne c.if-self-eq0.true

pub remove-requires : goal.remove-requires
remove-requires c =
    let a = c.args in
    let r = plain a.self.now in
    let ch = sought-some r a.main.now a.queue.now a.annex.now a.hash _ _ _ c.in_ok-payload.ensures.ok_part c.home-home.ensures c.in_ok-longest_match.ensures in
    let v = place r a.main.now a.queue.now a.annex.now a.hash _ _ ch in (v.inside, v.most, v.more)

pub returns-then-not-remove : goal.returns-then-not-remove
returns-then-not-remove c =
    let a = c.args in
    let r = plain a.self.now in
    let ch = sought-some r a.main.now a.queue.now a.annex.now a.hash _ _ _ c.in_ok-payload.ensures.ok_part c.home-home.ensures c.in_ok-longest_match.ensures in
    let ne : c.in_ok-payload.payload ≡ void (width r) → ⊥ = λ e. c.if-payload-void_of.false (e ∙ sym (c.void_of.ensures ∙ ap void c.width.ensures.0)) in
    bits-gone r a.main.now a.queue.now a.annex.now a.hash _ _ ch ne _ _ c.remove.ensures c.if-not-remove.true

pub returns : goal.returns
unfolding change
returns c =
    let a = c.args in
    let r = plain a.self.now in
    let ch = sought-some r a.main.now a.queue.now a.annex.now a.hash _ _ _ c.in_ok-payload.ensures.ok_part c.home-home.ensures c.in_ok-longest_match.ensures in
    let ne : c.in_ok-payload.payload ≡ void (width r) → ⊥ = λ e. c.if-payload-void_of.false (e ∙ sym (c.void_of.ensures ∙ ap void c.width.ensures.0)) in
    bits-done r a.main.now a.queue.now a.annex.now a.hash _ _ ch ne _ _ c.remove.ensures
