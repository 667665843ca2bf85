-- An accepted Start leaves a good state: an empty table is all zero and holds no entry, and there are no queue words and no mother hashes.
use mathlib.Core.Path.{◌≡◌, refl, sym, ap, ◌∙◌, subst}
use mathlib.Core.List.{List, []}
use Prim.Native.Nat.{ℕ, ◌^◌, ◌<◌}
use native.Mathlib.Omega.{arith}
use lib.Dec.{eqb, T, eqb→eq}
use lib.Pow.{pow_pos}
use lib.ListN.{length, get_or, replicate, length-replicate, get_or-replicate}
use Rattle.lists.specs.Lists.{every, front, behind, sum}
use Rattle.lists.specs.Runs.{Runs, count}
use Rattle.lists.proofs.Alls.{All, all_same}
use Rattle.lists.proofs.RunLaws.{Rises, total-none}
use Rattle.layout.specs.Decode.{decode}
use Rattle.layout.proofs.Keeps.{layout-none}
use Rattle.rules.specs.Record.{Filter, all_zero, width}
use Rattle.rules.specs.Refusals.{settings_right}
use Rattle.rules.specs.Tables.{mothers_of, table_words}
use Rattle.rules.specs.Sound.{main_entry, naming}
use Rattle.rules.specs.Calls.{refused, start_number, started, start}
use Rattle.keeps.proofs.Refusals.{refusal-zero, given-done}
use Rattle.keeps.proofs.Holds.{Holds, laid_out}
use Rattle.keeps.proofs.State.{Address, Fine, good}
use Rattle.keeps.proofs.Bounds.{sizes}
use Rattle.keeps.proofs.Quick.{GoodOutcome}
use Rattle.keeps.proofs.Parts.{Parts, parts-fine}

module _ (power f regime : ℕ) (main queue annex : List ℕ) where
  abbrev r : Filter
  r = started power f regime

  abbrev none : Runs
  none = replicate (2 ^ power) []

  pub record StartDone : Type 0 where
    pub out : start power f regime main queue annex ≡ record { number = 0; rec = r; main = replicate (2 ^ power) 0; queue = queue; annex = annex }
    pub settings : T (settings_right power f regime)
    pub long : length main ≡ 2 ^ power

  pub start-done : (start power f regime main queue annex).number ≡ 0 → StartDone
  unfolding start refused start_number
  start-done z =
      let n = start_number power f regime (length main) in
      let d = given-done n (record { number = 0; rec = r; main = replicate (2 ^ power) 0; queue = queue; annex = annex }) (refused all_zero main queue annex n) refl z in
      let a = refusal-zero (settings_right power f regime) 10 _ d.0 in
      let b = refusal-zero (eqb (length main) (2 ^ power)) 2 _ a.1 in
      record { out = d.1; settings = a.0; long = eqb→eq (length main) (2 ^ power) b.0 }

  holds : Holds (main_entry (width r) power) power 0 (replicate (2 ^ power) 0) none
  holds =
      let l = laid_out (main_entry (width r) power) power none (length-replicate (2 ^ power) []) (omega (arith, total-none (2 ^ power), pow_pos power))
      (all_same Rises (2 ^ power) [] (unfold Rises in tt)) (all_same (All (λ p. T (main_entry (width r) power p))) (2 ^ power) [] tt) in
      let e = layout-none (2 ^ power) in
      record { size = l.size; held = ap decode (sym e) ∙ l.held; laid = sym e; rises = l.rises; passes = l.passes; counted = total-none (2 ^ power); room = l.room }

  each : (c : ℕ) → c < 2 ^ power → Address (width r) [] [] c (get_or none c [])
  each c h = subst (Address (width r) [] [] c) (sym (get_or-replicate (2 ^ power) c [] [] h)) (unfold mothers_of sum naming count in record { tombstones = refl; voids = refl })

  started-parts : T (settings_right power f regime) → Parts r (replicate (2 ^ power) 0) queue annex annex none []
  unfolding started
  started-parts t =
      let z = sizes power f regime t in
      record {
        settings = t;
        low_k = omega arith;
        high_k = omega (arith, z.start_10);
        used_fits = omega arith;
        queue_fits = omega arith;
        queue_long = omega arith;
        are = tt;
        places = unfold front in refl;
        zeros = unfold every behind in tt;
        words = unfold table_words in refl;
        table = holds;
        queue-right = tt;
        address = each;
      }

  pub started-fine : T (settings_right power f regime) → Fine r (replicate (2 ^ power) 0) queue annex none
  started-fine t = parts-fine (started-parts t)

  pub start-good : (start power f regime main queue annex).number ≡ 0 → GoodOutcome (start power f regime main queue annex)
  start-good z = let d = start-done z in subst GoodOutcome (sym d.out) (good _ _ _ _ _ (started-fine d.settings))
