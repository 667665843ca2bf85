-- `thin::query_bytes` meets its contract: a refusal is that of `bytes_refusal`, and an answer says whether the walk over the bytes found a match.
use mathlib.Core.Path.{ap, ◌∙◌}
use Rattle.std.proofs.lemmas.Result.{err_from_is_err_and}
use Rattle.lists.specs.Lists.{bit}
use Rattle.filter.proofs.Refused.{not-0}
use Rattle.thin.proofs.Bytes.{low, walk, bytes-refused, bytes-answered}
use Rattle.thin.proofs.query_bytes.Goals as goal

pub returns-in_err-bytes_refusal : goal.returns-in_err-bytes_refusal
returns-in_err-bytes_refusal c =
    let p = err_from_is_err_and c.from_residual.result c.from_residual.ensures.1 in
    rw (p.1, p.2) (bytes-refused _ _ _ _ _ c.in_err-bytes_refusal.ensures (not-0 _))

pub canonical-home-requires : goal.canonical-home-requires
canonical-home-requires c = low _ _ _ c.in_ok-bytes_refusal.ensures

pub first_match-found-requires : goal.first_match-found-requires
first_match-found-requires c =
    let a = c.args in
    let v = walk a.k a.w a.main.now c.in_ok-bytes_refusal.ensures _ c.canonical-home.ensures.1 in
    (v.inside, v.most, v.more, v.wide, low a.k a.w a.main.now c.in_ok-bytes_refusal.ensures)

pub returns : goal.returns
returns c =
    let a = c.args in
    ap bit c.is_some.ensures ∙ bytes-answered a.k a.w a.main.now a.hash c.in_ok-bytes_refusal.ensures _ c.canonical-home.ensures.0 _ c.first_match-found.ensures
