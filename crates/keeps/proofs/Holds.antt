-- One table that passes its test, as facts over its runs: its words are their layout, and the layout of any rising runs below the limit passes.
use mathlib.Core.Path.{◌≡◌, refl, ap, ◌∙◌, subst}
use mathlib.Core.Bool.{Bool, ◌&&◌}
use mathlib.Core.List.{List, []}
use Prim.Native.Nat.{ℕ, zero, suc, ◌^◌, ◌<◌}
use native.Mathlib.Omega.{arith}
use lib.Dec.{eqb, T, eqb→eq, eqb_refl}
use lib.ListN.{length, get_or}
use Rattle.lists.specs.Lists.{every, same}
use Rattle.lists.specs.Runs.{Runs, rising, total}
use Rattle.lists.proofs.Tests.{and_left, and_right, and_both, same→eq, same_refl}
use Rattle.lists.proofs.Alls.{All, every-all, all-every, all_map}
use Rattle.lists.proofs.RunLaws.{Rises, rising-rises, rises-rising}
use Rattle.layout.specs.Machine.{layout}
use Rattle.layout.specs.Decode.{decode, run_at, runs_from}
use Rattle.layout.proofs.Puts.{layout-length}
use Rattle.layout.proofs.Round.{decode-layout, run-at}
use Rattle.rules.specs.Sound.{laid, table_right}

-- the words are the layout of runs, each rising and of entries that pass the test, n in all
pub record Holds (f : ℕ → Bool) (k n : ℕ) (words : List ℕ) (runs : Runs) : Type 0 where
  pub size : length runs ≡ 2 ^ k
  pub held : decode words ≡ runs
  pub laid : words ≡ layout runs
  pub rises : All Rises runs
  pub passes : All (All (λ p. T (f p))) runs
  pub counted : total runs ≡ n
  pub room : total runs < 2 ^ k

length_from : (words : List ℕ) (c n : ℕ) → length (runs_from words c n) ≡ n
unfolding runs_from
length_from words c zero = refl
length_from words c (suc n) = ap suc (length_from words (suc c) n)

pub length-decode : (words : List ℕ) → length (decode words) ≡ length words
unfolding decode
length-decode words = length_from words 0 (length words)

pub length-words : {f : ℕ → Bool} {k n : ℕ} {words : List ℕ} {runs : Runs} → Holds f k n words runs → length words ≡ 2 ^ k
length-words {runs = runs} t = ap length t.laid ∙ layout-length runs ∙ t.size

-- laying out is enough
pub laid_out : (f : ℕ → Bool) (k : ℕ) (runs : Runs) → length runs ≡ 2 ^ k → total runs < 2 ^ k → All Rises runs → All (All (λ p. T (f p))) runs
    → Holds f k (total runs) (layout runs) runs
laid_out f k runs len few ri pa =
    record { size = len; held = decode-layout runs (omega arith); laid = refl; rises = ri; passes = pa; counted = refl; room = few }

pub holds-right : {f : ℕ → Bool} {k n : ℕ} {words : List ℕ} {runs : Runs} → Holds f k n words runs → T (table_right f n words)
unfolding table_right laid
holds-right {f} {k} {n} {words} {runs} t =
    rw t.held
    (and_both (every rising runs && same words (layout runs)) (every (every f) runs && eqb (total runs) n)
    (and_both (every rising runs) (same words (layout runs))
    (all-every rising runs (all_map Rises (λ x. T (rising x)) rises-rising runs t.rises))
    (subst (λ (l : List ℕ). T (same words l)) t.laid (same_refl words)))
    (and_both (every (every f) runs) (eqb (total runs) n)
    (all-every (every f) runs (all_map (All (λ p. T (f p))) (λ x. T (every f x)) (all-every f) runs t.passes))
    (subst (λ (m : ℕ). T (eqb (total runs) m)) t.counted (eqb_refl (total runs)))))

pub right-holds : (f : ℕ → Bool) (k n : ℕ) (words : List ℕ) → length words ≡ 2 ^ k → n < 2 ^ k → T (table_right f n words) → Holds f k n words (decode words)
unfolding table_right laid
right-holds f k n words len few t =
    let runs : Runs = decode words in
    let A = every rising runs in
    let B = same words (layout runs) in
    let C = every (every f) runs in
    let D = eqb (total runs) n in
    let l = and_left (A && B) (C && D) t in
    let m = and_right (A && B) (C && D) t in
    let tot : total runs ≡ n = eqb→eq (total runs) n (and_right C D m) in
    record {
      size = length-decode words ∙ len;
      held = refl;
      laid = same→eq words (layout runs) (and_right A B l);
      rises = all_map (λ x. T (rising x)) Rises rising-rises runs (every-all rising runs (and_left A B l));
      passes = all_map (λ x. T (every f x)) (All (λ p. T (f p))) (every-all f) runs (every-all (every f) runs (and_left C D m));
      counted = tot;
      room = omega arith;
    }

-- the run that a call reads
pub run-read : {f : ℕ → Bool} {k n : ℕ} {words : List ℕ} {runs : Runs} → Holds f k n words runs → (c : ℕ) → c < 2 ^ k → run_at words c ≡ get_or runs c []
run-read {runs = runs} t c h =
    let s = t.size in
    let m = t.room in
    ap (λ (l : List ℕ). run_at l c) t.laid ∙ run-at runs c (omega arith) (omega arith)
