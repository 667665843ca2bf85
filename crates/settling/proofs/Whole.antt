-- From the numbers of a record for which Settle is not refused to what Settle leaves: tombstones stay while voids go, so that at the end one for each even
-- queue word is all of them.
use mathlib.Core.Path.{◌≡◌, refl, sym, ap, ap₂, ◌∙◌, subst}
use mathlib.Core.List.{List, [], ◌∷◌, ◌++◌, map}
use Prim.Native.Nat.{ℕ, zero, suc, ◌+◌, ◌-◌, ◌*◌, ◌/◌, ◌^◌, ◌≤◌, ◌<◌}
use native.Mathlib.Omega.{arith}
use lib.Dec.{T, ltb, lt→ltb}
use lib.ListN.{length, get_or, take, drop, length-take}
use Rattle.lists.specs.Lists.{every}
use Rattle.lists.specs.Runs.{Runs, count, total}
use Rattle.lists.proofs.Tests.{and_both}
use Rattle.lists.proofs.Alls.{All, all-every, all_map}
use Rattle.lists.proofs.RunLaws.{count-erase-other}
use Rattle.slots.specs.Payload.{void, tombstone}
use Rattle.slots.proofs.PayloadLaws.{void-tombstone}
use Rattle.layout.specs.Machine.{layout}
use Rattle.layout.specs.Decode.{decode}
use Rattle.directory.specs.declared.Place.{Place}
use Rattle.directory.specs.Places.{places_in_use, places_not_in_use, places_right, zero_place, directory_right, words_taken, trim, fifteen}
use Rattle.directory.proofs.Laws.{right-rest}
use Rattle.rules.specs.Record.{Filter, change, width, in_use}
use Rattle.rules.specs.Tables.{Table, tables, table_words, place_of}
use Rattle.rules.specs.Sound.{main_entry}
use Rattle.rules.specs.Settling.{Held, longest, take_voids, settle_found, settle_word, settle_all, no_tombstones}
use Rattle.rules.specs.Slow.{held_after, settled}
use Rattle.keeps.proofs.Holds.{Holds, length-words, holds-right}
use Rattle.keeps.proofs.State.{Fine, fine}
use Rattle.keeps.proofs.Bounds.{Bounds, bounds}
use Rattle.keeps.proofs.Cuts.{cut-is, cut-length, cut_at}
use Rattle.keeps.proofs.Annex.{Read}
use Rattle.annex.proofs.Entry.{size-20, size-8}
use Rattle.settling.specs.State.{held_in, Right, Holding, Lost, take_tombstones}
use Rattle.settling.specs.Ready.{Numbers, Ready, Leaves}
use Rattle.settling.proofs.Losses.{rises-all}
use Rattle.settling.proofs.Tombstones.{Named, all-taken}
use Rattle.settling.proofs.Words.{table, is_read}

-- ---- tombstones stay while voids go

module _ (w : ℕ) (h : 0 < w) where
  Same : Runs → Runs → Type 0
  Same xs ys = (length xs ≡ length ys) × ((a : ℕ) → a < length ys → count (tombstone w) (get_or xs a []) ≡ count (tombstone w) (get_or ys a []))

  voids-same : (c b : ℕ) (runs : Runs) → Same (take_voids w c b runs) runs
  unfolding Same
  voids-same c b runs = (
    cut-length w c b runs,
    λ a l.
        ap (count (tombstone w)) (cut_at w c b runs a l)
        ∙ cut-is (λ (run : List ℕ). count (tombstone w) run ≡ count (tombstone w) (get_or runs a [])) w c b a (get_or runs a []) refl
        (count-erase-other (void w) (tombstone w) (get_or runs a []) (λ e. void-tombstone w h (sym e))),
  )

  found-same : (c b : ℕ) (x : Held) → Same (settle_found w c b x).main x.main
  unfolding settle_found Same
  found-same c zero x = (refl, λ a l. refl)
  found-same c (suc b) x = voids-same c (suc b) x.main

  all_same : (ws : List ℕ) (x : Held) → Same (settle_all w ws x).main x.main
  unfolding settle_all settle_word Same
  all_same [] x = (refl, λ a l. refl)
  all_same (q ∷ ws) x =
      let y = settle_word w (q / 2) x in
      let s = all_same ws y in
      let u = found-same (q / 2) (longest (q / 2) x.annex) x in
      (s.0 ∙ u.0, λ a l. s.1 a (omega (arith, u.0)) ∙ u.1 a l)

  pub named-after : (us ws : List ℕ) (x : Held) → Named w us x.main → Named w us (settle_all w ws x).main
  unfolding Same
  named-after us ws x n a l = let s = all_same ws x in s.1 a (omega (arith, s.0)) ∙ n a (omega (arith, s.0))

-- ---- what the three tests leave

module _ {k w used queued : ℕ} {places : List Place} {main queue annex : List ℕ} (g : Ready k w used queued places main queue annex) where
  abbrev r : Filter
  r = g.r

  v : Fine r main queue annex (decode main)
  v = fine r main queue annex (record { record-right = g.record-right; slices-right = g.slices-right; is_sound = g.is_sound })

  z : Bounds r
  z = bounds r g.record-right

  n : Numbers r k w used queued places
  n = g.numbers

  right-r : Right r.k (width r) r.used main annex r.dir
  unfolding directory_right
  right-r =
      record {
        k_3 = z.k_3;
        k_20 = z.k_20;
        w_1 = omega (arith, z.width_4);
        w_26 = z.width_26;
        used_fits = v.used_fits;
        main_long = length-words v.table;
        main-right = holds-right v.table;
        directory = and_both (places_right r.k 5 (in_use r)) (every zero_place (places_not_in_use r.dir)) v.places v.zeros;
        annex_long = v.annex_long;
        annex-right = v.annex-right;
      }

  pub right : Right k w used main annex places
  right =
      subst (λ (x : ℕ). Right x w used main annex places) n.k_is
      (subst (λ (x : ℕ). Right r.k x used main annex places) n.w_is
      (subst (λ (x : ℕ). Right r.k (width r) x main annex places) n.used_is
      (subst (λ (x : List Place). Right r.k (width r) r.used main annex x) n.places_are right-r)))

  pub queue_long : queued ≤ length queue
  queue_long = omega (arith, v.queue_long, n.queued_is)

  pub queue-small : queued ≤ 1048576
  queue-small = omega (arith, z.queued_small, n.queued_is)

  abbrev words : List ℕ
  words = take queued queue

  named : Named w words (decode main)
  named a l =
      let c = (v.address a (omega (arith, l, v.table.size))).tombstones in
      ap (λ (x : ℕ). count (tombstone x) (get_or (decode main) a [])) (sym n.w_is) ∙ c ∙ ap (λ (x : ℕ). count (a * 2) (take x queue)) n.queued_is

  names : All (λ q. q / 2 < 2 ^ k) words
  names =
      subst (λ (x : ℕ). All (λ q. q / 2 < 2 ^ x) words) n.k_is
      (subst (λ (x : ℕ). All (λ q. q / 2 < 2 ^ r.k) (take x queue)) n.queued_is v.queue-right)

  -- what the queue words leave
  abbrev pub after : Held
  after = settle_all w words (held_in main annex places)

  module _ (left : ℕ) (main₁ annex₁ : List ℕ) (dir : List Place)
      (hold : Holding after (drop (words_taken (places_in_use places)) annex) k w left main₁ annex₁ dir) where
    t : Holds (main_entry w k) k left main₁ (decode main₁)
    t = table k w left main₁ annex₁ dir hold.right

    is : decode main₁ ≡ after.main
    is = ap (λ (x : Held). x.main) hold.holds

    inside : All (λ q. q / 2 < length (decode main₁)) words
    inside = subst (λ (x : ℕ). All (λ q. q / 2 < x) words) (sym t.size) names

    pub tombstones-ready : (w ≤ 26) × (1 < length main₁) × (length main₁ ≤ 1048576) × (length words ≤ 1048576)
        × T (every (λ q. ltb (q / 2) (length main₁)) words)
    tombstones-ready =
        let l = hold.right.main_long in (
          hold.right.w_26,
          omega (arith, l, size-8 k hold.right.k_3),
          omega (arith, l, size-20 k hold.right.k_20),
          omega (arith, queue-small, length-take queued queue),
          all-every (λ q. ltb (q / 2) (length main₁)) words
              (subst (λ (x : ℕ). All (λ q. T (ltb (q / 2) x)) words) (sym l)
              (all_map (λ q. q / 2 < 2 ^ k) (λ q. T (ltb (q / 2) (2 ^ k))) (λ q h. lt→ltb (q / 2) (2 ^ k) h) words names)),
        )

    pub zeros-left : T (every zero_place (places_not_in_use dir))
    zeros-left = right-rest k dir hold.right.directory

    module _ (main₂ : List ℕ) (gone : ℕ) (lost : Lost (take_tombstones w words) main₁ main₂ gone) where
      few : total (decode main₁) < length (decode main₁)
      few = omega (arith, t.room, t.size)

      all-gone : take_tombstones w words (decode main₁) ≡ no_tombstones w after.main
      all-gone =
          all-taken w words (decode main₁) inside
          (subst (Named w words) (sym is) (named-after w hold.right.w_1 words words (held_in main annex places) named))
          ∙ ap (no_tombstones w) is

      main-left : main₂ ≡ layout (no_tombstones w after.main)
      main-left = lost.words (decode main₁) t.laid few (rises-all (decode main₁) t.rises) ∙ ap layout all-gone

      counted : gone + total (no_tombstones w after.main) ≡ left
      counted = ap (λ (x : Runs). gone + total x) (sym all-gone) ∙ lost.counted (decode main₁) t.laid few (rises-all (decode main₁) t.rises) ∙ t.counted

      pub fewer : gone ≤ left
      fewer = omega (arith, counted)

      rd : Read k 5 (places_in_use dir) annex₁
      rd = is_read k w left main₁ annex₁ dir hold.right

      tables-are : tables (places_in_use dir) annex₁ ≡ after.annex
      tables-are = ap (λ (x : Held). x.annex) hold.holds

      pub leaves : (kept : List Place) → kept ≡ fifteen (trim (places_in_use dir)) → (s : Filter) → Numbers s k w used queued places
          → Leaves (settled s main queue annex (held_after s main queue annex)) main₂ annex₁ (left - gone) kept
      unfolding settled change
      leaves kept e s m =
          record {
            main_is = main-left ∙ ap₂ (λ (x : ℕ) (y : Held). layout (no_tombstones x y.main)) (sym m.w_is) held;
            annex_is = rd.words ∙ ap₂ (λ (x : List Table) (y : List ℕ). table_words x ++ y) tables-are hold.past
                ∙ ap₂ (λ (y : Held) (d : List Place). table_words y.annex ++ drop (words_taken (places_in_use d)) annex) held (sym m.places_are);
            used_is = here ∙ ap₂ (λ (x : ℕ) (y : Held). total (no_tombstones x y.main)) (sym m.w_is) held;
            places_are =
                e ∙ ap (λ (x : List Place). fifteen (trim x)) (sym rd.of ∙ ap (map place_of) tables-are)
                ∙ ap (λ (y : Held). fifteen (trim (map place_of y.annex))) held;
          }
        where
          here : left - gone ≡ total (no_tombstones w after.main)
          here = omega (arith, counted)

          held : after ≡ held_after s main queue annex
          held = unfold held_after in
              ap₂ (λ (x y : ℕ). settle_all x (take y queue) (held_in main annex places)) (sym m.w_is) (sym m.queued_is)
              ∙ ap (λ (d : List Place). settle_all (width s) (take s.queued queue) (held_in main annex d)) (sym m.places_are)
