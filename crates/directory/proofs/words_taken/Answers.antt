-- `words_taken` sums the words of the first n places, which are in use.
use Rattle.std.proofs.Common.{◌≡◌, ◌<◌, ◌^◌, length, take, sum, map, sum_by, refl, arith, rules}
use Rattle.std.proofs.lemmas.Iterator.{YieldsList-from_slice, YieldsList-from_map}
use Rattle.std.proofs.lemmas.Iterator.Adapters.{serves_from_places}
use Rattle.std.proofs.lemmas.Iterator.Consumers.{fits_from_yields_list, sum_by_from_yields_List}
use Rattle.std.proofs.lemmas.List.Sums.{sum-map}
use Rattle.directory.proofs.Laws.{in-use-most}
use Rattle.directory.proofs.Loops.{words_of, small-at, words-bounded, words-summed}
use Rattle.directory.proofs.words_taken.Goals as goal

pub slice_bounds-places-end : goal.slice_bounds-places-end
slice_bounds-places-end c = let l : length c.args.places ≡ 15 = search rules in let m = in-use-most _ _ l c.requires.0 in omega arith

pub slice_bounds-iter-end : goal.slice_bounds-iter-end
slice_bounds-iter-end c = let l : length c.args.places ≡ 15 = search rules in let m = in-use-most _ _ l c.requires.0 in search rules

pub sum-requires-clause-can : goal.sum-requires-clause-can
sum-requires-clause-can c =
    let ps = take c.args.n c.args.places in (
      tt,
      serves_from_places (YieldsList-from_slice ps (search rules)) (λ x q k. refl)
          (λ x k h e. let s = small-at c.args.places c.requires.1 c.args.n x.now k h e in search rules),
    )

pub sum-requires-clause-fits : goal.sum-requires-clause-fits
sum-requires-clause-fits c =
    let ps = take c.args.n c.args.places in
    let l : length c.args.places ≡ 15 = search rules in
    let most = words-bounded c.args.places c.requires.1 c.args.n (in-use-most _ _ l c.requires.0) in
    let total : sum (map words_of ps) < 2 ^ 64 = omega (arith, most, sum-map words_of ps) in
    fits_from_yields_list _ _ (YieldsList-from_map _ words_of (YieldsList-from_slice ps (search rules)) refl (λ x r q k. search rules)) total

pub returns : goal.returns
returns c =
    let ps = take c.args.n c.args.places in
    let l : length c.args.places ≡ 15 = search rules in
    let most = words-bounded c.args.places c.requires.1 c.args.n (in-use-most _ _ l c.requires.0) in
    let summed : c.sum.result ≡ sum_by words_of ps =
    sum_by_from_yields_List words_of ps _ _ c.sum.ensures.ran
    (YieldsList-from_map _ words_of (YieldsList-from_slice ps (search rules)) refl (λ x r q k. search rules)) in
    (words-summed c.args.places c.args.n _ c.requires.0 summed, omega arith)
