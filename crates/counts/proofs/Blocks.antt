-- From address to address and from block to block: with the carry of the address in hand the code reads its run, and the next carry follows from the run's
-- length.
use mathlib.Core.Path.{◌≡◌, refl, sym, ap, ap₂, ◌∙◌}
use mathlib.Core.Bool.{Bool, true, false, ◌&&◌}
use mathlib.Core.List.{List, []}
use Prim.Native.Nat.{ℕ, suc, ◌+◌, ◌-◌, ◌*◌, ◌≤◌, ◌<◌}
use native.Mathlib.Omega.{arith}
use native.Mathlib.Nat.{mod-eq_of_lt}
use native.Mathlib.Numerals.{add-one}
use native.Mathlib.Decide.{ℕ_discrete}
use lib.Dec.{eqb}
use lib.ListN.{length, drop, get_or, get_or-map}
use Rattle.std.specs.Prelude.{Some, None}
use lib.Seq.{drop-cons}
use Rattle.lists.specs.Lists.{every, map_at}
use Rattle.lists.specs.Runs.{Runs, count}
use Rattle.slots.specs.Payload.{tombstone, void}
use Rattle.layout.specs.Decode.{decode, place_of}
use Rattle.layout.specs.Document.{carry}
use Rattle.rules.specs.Tables.{Table, mothers_of}
use Rattle.rules.specs.Sound.{naming, address_right}
use Rattle.sound.specs.Reading.{Laid, read_at}
use Rattle.tallies.specs.declared.Naming.{Naming}
use Rattle.tallies.specs.Tally.{block_size, Tallied, Stored}
use Rattle.tallies.specs.Namings.{words_of, evens_of}
use Rattle.counts.specs.Blocks.{right_from, Block}
use Rattle.counts.proofs.Pairs.{no_naming}
use Rattle.tallies.proofs.Carries.{same_size, in-runs, carry-is, carry-small, read_is, carry-on}

-- k entries wait on arrival at address c of the table, if it has that address
abbrev pub Waits : List ℕ → ℕ → ℕ → Type 0
Waits words c k = c < length words → k ≡ carry (decode words) c

-- of the addresses from `from` on, those from c on are right exactly if all are, and k entries wait on arrival at c
pub record Stand (f : ℕ → List ℕ → Bool) (words : List ℕ) (from c k : ℕ) : Type 0 where
  pub here : Waits words c k
  pub gone : right_from f from (decode words) ≡ right_from f c (decode words)

module _ (words : List ℕ) (p : Laid words) where
  module _ (c k : ℕ) (hc : c < length words) (ek : k ≡ carry (decode words) c) where
    -- the code's test of the address
    test-is : (w : ℕ) (ts : List Table) (ws : List ℕ) (good : Bool) (named even mothers : ℕ) → named ≡ naming c ws → even ≡ count (c * 2) ws
        → mothers ≡ mothers_of c ts
        → good ≡ (eqb (count (tombstone w) (read_at words c k)) even && eqb (count (void w) (read_at words c k)) (mothers - named))
        → good ≡ address_right w ts ws c (get_or (decode words) c [])
    unfolding address_right
    test-is w ts ws good named even mothers en ee em eg =
        let r = get_or (decode words) c [] in
        eg ∙ ap (λ (b : List ℕ). eqb (count (tombstone w) b) even && eqb (count (void w) b) (mothers - named)) (read_is words p c k hc ek)
        ∙ ap₂ (λ (x y : ℕ). eqb (count (tombstone w) r) x && eqb (count (void w) r) y) ee (ap₂ (λ (x y : ℕ). x - y) em en)

  module _ (f : ℕ → List ℕ → Bool) where
    one_more : (c : ℕ) (good : Bool) → c < length words → good ≡ f c (get_or (decode words) c [])
        → right_from f c (decode words) ≡ (good && right_from f (c + 1) (decode words))
    unfolding right_from every map_at
    one_more c good hc g =
        let runs = decode words in
        ap (λ (l : Runs). every (λ (b : Bool). b) (map_at f c l)) (drop-cons runs c [] (in-runs words p c 0 hc))
        ∙ ap₂ (λ (b : Bool) (j : ℕ). b && every (λ (b : Bool). b) (map_at f j (drop j runs))) (sym g) (sym (add-one c))

    right-out : (c : ℕ) → length words ≤ c → right_from f c (decode words) ≡ true
    unfolding right_from every map_at
    right-out c h =
        ap (λ (l : Runs). every (λ (b : Bool). b) (map_at f c l)) (lib.ListN.drop_of_length-le (decode words) {i = c} (omega (arith, same_size words p)))

-- ---- the addresses of a block

module _ (words : List ℕ) (base : ℕ) (p : Laid words) where
  module _ (i k : ℕ) (s : Waits words (base + i) k) (hc : base + i < length words) where
    pub waits-small : k < length words
    waits-small = carry-small words p (base + i) k hc (s hc)

    pub waits-next : (j : ℕ) → j ≡ i → (k' : ℕ) → k' ≡ k + length (read_at words (base + j) k) - 1 → Waits words (base + (i + 1)) k'
    waits-next j same k' e h =
        let l : suc (base + i) < length words = omega arith in
        let z : suc (base + i) ≡ base + (i + 1) = omega arith in
        carry-on words p (base + i) k hc (s hc) k' (e ∙ ap (λ (x : ℕ). k + length (read_at words (base + x) k) - 1) same)
        ∙ ap (carry (decode words)) (mod-eq_of_lt l ∙ z)

module _ (words ws : List ℕ) (w : ℕ) (ts : List Table) (base : ℕ) (p : Laid words) where
  module _ (i n k : ℕ) (good : Bool) (queued : List Naming) (mothers : List ℕ) (s : Stand (address_right w ts ws) words base (base + i) k)
      (hn : n ≤ block_size) (hc : base + i < length words) (y : Tallied base ws (words_of queued) (evens_of queued)) (m : Stored base n ts mothers)
      (j : ℕ) (named : Naming) (matched : ℕ)
      (at : (i < n) × (j ≡ i) × (named ≡ get_or queued i no_naming) × (matched ≡ get_or mothers i 0))
      (eg : good ≡ (eqb (count (tombstone w) (read_at words (base + j) k)) named.evens
      && eqb (count (void w) (read_at words (base + j) k)) (matched - named.words))) where
    in_block : i < block_size
    in_block = omega (arith, at.0)

    tested : good ≡ (eqb (count (tombstone w) (read_at words (base + i) k)) named.evens
        && eqb (count (void w) (read_at words (base + i) k)) (matched - named.words))
    tested =
        eg
        ∙ ap (λ (x : ℕ). eqb (count (tombstone w) (read_at words (base + x) k)) named.evens
        && eqb (count (void w) (read_at words (base + x) k)) (matched - named.words)) at.1

    split : right_from (address_right w ts ws) base (decode words) ≡ (good && right_from (address_right w ts ws) (base + i + 1) (decode words))
    split =
        s.gone
        ∙ one_more words p (address_right w ts ws) (base + i) good hc
        (test-is words p (base + i) k hc (s.here hc) w ts ws good named.words named.evens matched
        (ap (λ (c : Naming). c.words) at.2 ∙ sym (get_or-map (λ (c : Naming). c.words) queued i no_naming) ∙ y.named i in_block)
        (ap (λ (c : Naming). c.evens) at.2 ∙ sym (get_or-map (λ (c : Naming). c.evens) queued i no_naming) ∙ y.even i in_block)
        (at.3 ∙ m.stored i at.0) tested)

    pub stand-on : good ≡ true → (k' : ℕ) → k' ≡ k + length (read_at words (base + j) k) - 1 → Stand (address_right w ts ws) words base (base + (i + 1)) k'
    stand-on g k' ek =
        let z : base + i + 1 ≡ base + (i + 1) = omega arith in
        record {
          here = waits-next words base p i k s.here hc j at.1 k' ek;
          gone =
              split ∙ ap (λ (b : Bool). b && right_from (address_right w ts ws) (base + i + 1) (decode words)) g
              ∙ ap (λ (c : ℕ). right_from (address_right w ts ws) c (decode words)) z;
        }

    pub stand-off : good ≡ false → Block (address_right w ts ws) (decode words) base None
    stand-off g = record { splits = split ∙ ap (λ (b : Bool). b && right_from (address_right w ts ws) (base + i + 1) (decode words)) g; onward = tt }

  -- after all n addresses of the block, which are fewer than its size only where the table ends
  module _ (i n k : ℕ) (s : Stand (address_right w ts ws) words base (base + i) k) (hi : i ≤ n) (hn : n ≤ i) (most : n ≤ block_size) where
    pub stand-end : (n < block_size → base + n ≡ length words) → Block (address_right w ts ws) (decode words) base (Some k)
    stand-end h = go (ℕ_discrete n block_size)
      where
        go : Dec (n ≡ block_size) → Block (address_right w ts ws) (decode words) base (Some k)
        go (yes e) =
            let z : base + i ≡ base + block_size = omega arith in
            record {
              splits = s.gone ∙ ap (λ (c : ℕ). right_from (address_right w ts ws) c (decode words)) z;
              onward = λ l. s.here (omega (arith, same_size words p)) ∙ ap (carry (decode words)) z;
            }
        go (no e) =
            let z : base + n ≡ length words = h (omega arith) in
            record {
              splits =
                  s.gone ∙ right-out words p (address_right w ts ws) (base + i) (omega arith)
                  ∙ sym (right-out words p (address_right w ts ws) (base + block_size) (omega arith));
              onward = λ l. absurd (omega (arith, same_size words p));
            }

-- ---- block after block

module _ (words : List ℕ) (f : ℕ → List ℕ → Bool) (p : Laid words) where
  pub blocks_start : (k : ℕ) → k ≡ place_of words 0 → Stand f words 0 0 k
  blocks_start k e = record { here = λ h. carry-is words p 0 k h e; gone = refl }

  module _ (base k : ℕ) (s : Stand f words 0 base k) where
    pub blocks-on : (k' : ℕ) → Block f (decode words) base (Some k') → Stand f words 0 (base + block_size) k'
    blocks-on k' b = record { here = λ h. b.onward (omega (arith, same_size words p)); gone = s.gone ∙ b.splits }

    pub blocks_end : length words ≤ base → true ≡ right_from f 0 (decode words)
    blocks_end h = sym (s.gone ∙ right-out words p f base h)
