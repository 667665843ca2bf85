-- The entry that encodes the hash's bits, which are below the power of their length.
use mathlib.Core.Path.{◌∙◌, ap}
use Rattle.slots.specs.Payload.{pay, fresh_payload}
use Rattle.slots.proofs.fresh.Goals as goal

pub returns : goal.returns
unfolding fresh_payload
returns c =
    let a = c.args in
    c.encode.ensures ∙ ap (pay a.w a.l) c.hash_bits.ensures.0
