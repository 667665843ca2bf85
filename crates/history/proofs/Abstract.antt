-- A filter by what its words stand for: the entries with fingerprints and the mother hashes as strings, and the queue's addresses. Each call keeps the invariant
-- that the strings can be dealt out to the held hashes and the queued addresses, each to one that continues it, and are as many; so a held hash finds a match.
use mathlib.Core.Path.{◌≡◌, refl, sym, ap, ap₂, ◌∙◌}
use mathlib.Core.Logic.{◌⊎◌, inl, inr}
use mathlib.Core.List.{List, [], ◌∷◌, ◌++◌, map}
use Prim.Native.Nat.{ℕ, suc, ◌+◌, ◌-◌, ◌%◌, ◌^◌, ◌≤◌, ◌<◌}
use native.Mathlib.Omega.{arith}
use native.Mathlib.Nat.{mod-mod}
use native.Mathlib.Decide.{dec_le, dec_lt, ℕ_discrete}
use lib.ListN.{length, length-append, length-map}
use Rattle.lists.specs.Lists.{sum}
use Rattle.lists.specs.Runs.{erase, count}
use Rattle.lists.proofs.Tests.{is, is-yes, is-no}
use Rattle.lists.proofs.Alls.{All}
use Rattle.lists.proofs.Sums.{Same, sum-eq, sum-le, sum-append, sum-zero}
use Rattle.lists.proofs.RunLaws.{count-sum, erase_same}
use Rattle.keeps.proofs.Mothers.{low_bits}
use Rattle.history.specs.History.{Call, Query, Insert, Delete, Rejuvenate, Audit, Settle, Double, after}
use Rattle.history.proofs.Strings.{Item, under, under-yes, under-long, under-other, Hall, Prefix, Clear, Dealt, dealt-same, dealt-put, dealt-cut, dealt-take, path, path-more}

-- ---- what a state stands for

pub record State : Type 0 where
  pub k : ℕ
  -- the entries with fingerprints: k + L bits, the address lowest
  pub bits : List Item
  pub mothers : List Item
  -- the addresses of the queue's words, first to last
  pub queue : List ℕ

-- the string agrees with the hash's lowest bits
abbrev pub Matches : ℕ → Item → Type 0
Matches h i = i.val % 2 ^ i.len ≡ h % 2 ^ i.len

abbrev pub Long : ℕ → Item → Type 0
Long k i = (k < i.len) × (i.len ≤ 64)

-- entries with fingerprints have more than k bits, mother hashes at most k
pub record Shape (s : State) : Type 0 where
  pub wide : s.k < 64
  pub long : All (Long s.k) s.bits
  pub short : All (λ i. i.len ≤ s.k) s.mothers

abbrev full : ℕ → Item
full h = record { len = 64; val = h }

abbrev address : ℕ → ℕ → Item
address k a = record { len = k; val = a }

-- the voids of an address, in a sound state
unfoldable pub voids : State → ℕ → ℕ
voids s a = sum (under (suc s.k) a) s.mothers - count a s.queue

-- the answer to a query is yes: an entry with bits matches, or the address has a void
unfoldable pub Yes : State → ℕ → Type 0
Yes s h = (0 < sum (under 65 h) s.bits) ⊎ (0 < voids s (h % 2 ^ s.k))

-- ---- the calls, by what they do to it

pub record Kept (s t : State) : Type 0 where
  pub size : t.k ≡ s.k
  pub bits : Same t.bits s.bits
  pub mothers : Same t.mothers s.mothers
  pub queue : Same t.queue s.queue

-- a fresh entry of the hash comes in
pub record Inserted (h : ℕ) (s t : State) : Type 0 where
  pub size : t.k ≡ s.k
  pub entry : Item
  pub of : Prefix entry (full h)
  pub bits : Same t.bits (entry ∷ s.bits)
  pub mothers : Same t.mothers s.mothers
  pub queue : Same t.queue s.queue

-- the longest match goes
pub record Removed (h : ℕ) (s t : State) : Type 0 where
  pub size : t.k ≡ s.k
  pub entry : Item
  pub of : Prefix entry (full h)
  pub beyond : s.k < entry.len
  pub longest : All (λ i. Matches h i → i.len ≤ entry.len) s.bits
  pub bits : Same s.bits (entry ∷ t.bits)
  pub mothers : Same t.mothers s.mothers
  pub queue : Same t.queue s.queue

-- the longest match is a void: a word in the queue
pub record Queued (h : ℕ) (s t : State) : Type 0 where
  pub size : t.k ≡ s.k
  pub none : All (λ i. Matches h i → ⊥) s.bits
  pub bits : Same t.bits s.bits
  pub mothers : Same t.mothers s.mothers
  pub queue : Same t.queue ((h % 2 ^ s.k) ∷ s.queue)

-- one queue word: the longest mother hash that matches it goes, or none matches
pub data Takes (k q : ℕ) (M N : List Item) : Type 0 where
  hit : (m : Item) → Prefix m (address k q) → sum (under (suc k) q) M ≤ sum (under (suc m.len) q) M → Same M (m ∷ N) → Takes k q M N
  miss : sum (under (suc k) q) M ≡ 0 → Takes k q M N

-- first to last
pub data TakesAll (k : ℕ) : List ℕ → List Item → List Item → Type 0 where
  none : {M : List Item} → TakesAll k [] M M
  more : {q : ℕ} {Q : List ℕ} {M N R : List Item} → Takes k q M N → TakesAll k Q N R → TakesAll k (q ∷ Q) M R

pub record Settled (s t : State) : Type 0 where
  pub bits : Same t.bits s.bits
  pub left : List Item
  pub taken : TakesAll s.k s.queue s.mothers left
  pub mothers : Same t.mothers left
  pub queue : t.queue ≡ []

-- no string changes; which are entries and which are mother hashes may
pub record Doubled (s t : State) : Type 0 where
  pub empty : s.queue ≡ []
  pub queue : t.queue ≡ []
  pub strings : Same (t.bits ++ t.mothers) (s.bits ++ s.mothers)

-- ---- the invariant

-- the held hashes and the queued addresses
unfoldable pub owners : List ℕ → ℕ → List ℕ → List Item
owners H k Q = map full H ++ map (address k) Q

-- the strings E and M are dealt out to them
abbrev pub Deals : List ℕ → ℕ → List Item → List Item → List ℕ → Type 0
Deals H k E M Q = Dealt (E ++ M) (owners H k Q)

abbrev pub Inv : List ℕ → State → Type 0
Inv H s = Deals H s.k s.bits s.mothers s.queue

-- so they are as many
pub inv-count : (H : List ℕ) (s : State) → Inv H s → length s.bits + length s.mothers ≡ length H + length s.queue
unfolding owners
inv-count H s v =
    omega (
      arith,
      v.count,
      length-append s.bits s.mothers,
      length-append (map full H) (map (address s.k) s.queue),
      length-map H full,
      length-map s.queue (address s.k),
    )

sum-map : {A B : Type 0} (g : A → B) (f : B → ℕ) (l : List A) → sum f (map g l) ≡ sum (λ a. f (g a)) l
unfolding sum
sum-map g f [] = refl
sum-map g f (x ∷ l) = ap (λ m. f (g x) + m) (sum-map g f l)

owners-sum : (H : List ℕ) (k : ℕ) (Q : List ℕ) (f : Item → ℕ) → sum f (owners H k Q) ≡ sum (λ h. f (full h)) H + sum (λ a. f (address k a)) Q
unfolding owners
owners-sum H k Q f = sum-append f (map full H) (map (address k) Q) ∙ ap₂ ◌+◌ (sum-map full f H) (sum-map (address k) f Q)

-- the same strings
same-strings : {A : Type 0} (E E' M M' : List A) → Same E' E → Same M' M → Same (E ++ M) (E' ++ M')
unfolding Same
same-strings E E' M M' e m f = omega (arith, sum-append f E M, sum-append f E' M', e f, m f)

-- the same owners, if k is the same
same-owners : (H H' : List ℕ) (k k' : ℕ) (Q Q' : List ℕ) → k' ≡ k → Same H' H → Same Q' Q → Same (owners H k Q) (owners H' k' Q')
unfolding Same
same-owners H H' k k' Q Q' e eh eq f =
    omega (arith, owners-sum H k Q f, owners-sum H' k' Q' f, eh (λ h. f (full h)), eq (λ a. f (address k a)), ap (λ j. sum (λ a. f (address j a)) Q') e)

same_self : {A : Type 0} (l : List A) → Same l l
unfolding Same
same_self l f = refl

-- ---- paths that are clear

pub all-le : {A : Type 0} (P : A → Type 0) (f g : A → ℕ) → ((a : A) → P a → f a ≤ g a) → (l : List A) → All P l → sum f l ≤ sum g l
unfolding sum
all-le P f g e [] a = omega arith
all-le P f g e (x ∷ l) a = omega (arith, e x a.0, all-le P f g e l a.1)

-- where what matches has at most d bits, d + 1 bits count it all
pub under-cut : (j d h : ℕ) (i : Item) → (Matches h i → i.len ≤ d) → under j h i ≤ under (suc d) h i
under-cut j d h i m = go (dec_lt i.len j) (ℕ_discrete (i.val % 2 ^ i.len) (h % 2 ^ i.len))
  where
    go : Dec (i.len < j) → Dec (Matches h i) → under j h i ≤ under (suc d) h i
    go (no a) b = omega (arith, under-long j h i (omega arith))
    go (yes a) (no b) = omega (arith, under-other j h i b)
    go (yes a) (yes b) = omega (arith, under-yes j h i a b, under-yes (suc d) h i (omega (arith, m b)) b)

-- entries with fingerprints are too long for an address
bits_none : (s : State) → Shape s → (h : ℕ) → sum (under (suc s.k) h) s.bits ≡ 0
bits_none s sh h =
    omega (
      arith,
      all-le (Long s.k) (under (suc s.k) h) (λ _. 0) (λ i m. omega (arith, under-long (suc s.k) h i m.0)) s.bits sh.long,
      sum-zero (λ (_ : Item). 0) (λ _. refl) s.bits,
    )

mothers-cut : (s : State) → Shape s → (h d : ℕ) → s.k ≤ d → sum (under 65 h) s.mothers ≤ sum (under (suc d) h) s.mothers
mothers-cut s sh h d kd = all-le (λ i. i.len ≤ s.k) (under 65 h) (under (suc d) h) (λ i l. under-cut 65 d h i (λ _. omega arith)) s.mothers sh.short

-- the path of a hash is clear beyond d among all strings
clear-full : (s : State) → Shape s → (h d : ℕ) → s.k ≤ d → sum (under 65 h) s.bits ≤ sum (under (suc d) h) s.bits → Clear d (full h) (s.bits ++ s.mothers)
unfolding Clear
clear-full s sh h d kd le =
    omega (arith, sum-append (under 65 h) s.bits s.mothers, sum-append (under (suc d) h) s.bits s.mothers, le, mothers-cut s sh h d kd)

clear-address : (s : State) → Shape s → (q d : ℕ) (M : List Item) → sum (under (suc s.k) q) M ≤ sum (under (suc d) q) M → Clear d (address s.k q) (s.bits ++ M)
unfolding Clear
clear-address s sh q d M le = omega (arith, sum-append (under (suc s.k) q) s.bits M, sum-append (under (suc d) q) s.bits M, bits_none s sh q, le)

-- ---- each call keeps the invariant

keep_same : (H : List ℕ) (s t : State) → Kept s t → Inv H s → Inv H t
keep_same H s t c v =
    dealt-same (s.bits ++ s.mothers) (owners H s.k s.queue) (t.bits ++ t.mothers) (owners H t.k t.queue) v
    (same-strings s.bits t.bits s.mothers t.mothers c.bits c.mothers)
    (same-owners H H s.k t.k s.queue t.queue c.size (same_self H) c.queue)

keep-insert : (H : List ℕ) (s t : State) (h : ℕ) → Inserted h s t → Inv H s → Inv (h ∷ H) t
unfolding Same sum
keep-insert H s t h c v =
    let X : List Item = owners H s.k s.queue in
    dealt-put (s.bits ++ s.mothers) X (t.bits ++ t.mothers) (owners (h ∷ H) t.k t.queue) c.entry (full h) v
    (λ f. omega (arith, sum-append f t.bits t.mothers, sum-append f s.bits s.mothers, c.bits f, c.mothers f))
    (λ f. omega (
      arith,
      same-owners H H s.k t.k s.queue t.queue c.size (same_self H) c.queue f,
      owners-sum (h ∷ H) t.k t.queue f,
      owners-sum H t.k t.queue f,
    ))
    c.of

-- one of the held hashes goes
module _ (H H' : List ℕ) (s t : State) (h : ℕ) (sh : Shape s) (held : Same H (h ∷ H')) (v : Inv H s) where
  one_less : Same (owners H s.k s.queue) (full h ∷ owners H' s.k s.queue)
  unfolding Same sum
  one_less f = omega (arith, owners-sum H s.k s.queue f, owners-sum H' s.k s.queue f, held (λ x. f (full x)))

  keep-remove : Removed h s t → Inv H' t
  unfolding Same sum
  keep-remove c =
      let d : ℕ = c.entry.len in
      dealt-take (s.bits ++ s.mothers) (owners H s.k s.queue) (t.bits ++ t.mothers) (owners H' t.k t.queue) c.entry (full h) v
      (λ f. omega (arith, sum-append f t.bits t.mothers, sum-append f s.bits s.mothers, c.bits f, c.mothers f))
      (λ f. omega (arith, one_less f, same-owners H' H' s.k t.k s.queue t.queue c.size (same_self H') c.queue f))
      c.of
      (clear-full s sh h d (omega (arith, c.beyond))
      (all-le (λ i. Matches h i → i.len ≤ d) (under 65 h) (under (suc d) h) (λ i m. under-cut 65 d h i m) s.bits c.longest))

  keep-queue : Queued h s t → Inv H' t
  unfolding Same sum
  keep-queue c =
      let I : List Item = s.bits ++ s.mothers in
      let X' : List Item = owners H' s.k s.queue in
      let y : Item = address s.k (h % 2 ^ s.k) in
      let cut : Dealt I (y ∷ X') = dealt-cut I (owners H s.k s.queue) X' (full h) y v one_less
      (record { short = omega (arith, sh.wide); bits = mod-mod h (2 ^ s.k) })
      (clear-full s sh h s.k (omega arith)
      (all-le (λ i. Matches h i → ⊥) (under 65 h) (under (suc s.k) h) (λ i n. under-cut 65 s.k h i (λ m. absurd (n m))) s.bits c.none)) in
      dealt-same I (y ∷ X') (t.bits ++ t.mothers) (owners H' t.k t.queue) cut
      (same-strings s.bits t.bits s.mothers t.mothers c.bits c.mothers)
      (λ f. omega (
        arith,
        same-owners H' H' s.k t.k ((h % 2 ^ s.k) ∷ s.queue) t.queue c.size (same_self H') c.queue f,
        owners-sum H' s.k ((h % 2 ^ s.k) ∷ s.queue) f,
        owners-sum H' s.k s.queue f,
      ))

keep-double : (H : List ℕ) (s t : State) → Doubled s t → Inv H s → Inv H t
unfolding Same sum
keep-double H s t c v =
    dealt-same (s.bits ++ s.mothers) (owners H s.k s.queue) (t.bits ++ t.mothers) (owners H t.k t.queue) v
    (λ f. sym (c.strings f))
    (λ f. omega (
      arith,
      owners-sum H t.k t.queue f,
      owners-sum H s.k s.queue f,
      ap (sum (λ a. f (address t.k a))) c.queue,
      ap (sum (λ a. f (address s.k a))) c.empty,
    ))

-- one queue word at a time
module _ (H : List ℕ) (s : State) (sh : Shape s) where
  abbrev Left : List Item → List ℕ → Type 0
  Left M Q = Deals H s.k s.bits M Q

  word-owner : (q : ℕ) (Q : List ℕ) → Same (owners H s.k (q ∷ Q)) (address s.k q ∷ owners H s.k Q)
  unfolding Same sum
  word-owner q Q f = omega (arith, owners-sum H s.k (q ∷ Q) f, owners-sum H s.k Q f)

  -- a queued address always finds a mother hash
  always-found : (q : ℕ) (Q : List ℕ) (M : List Item) → Left M (q ∷ Q) → sum (under (suc s.k) q) M ≡ 0 → ⊥
  unfolding Same sum
  always-found q Q M v z =
      let k = s.k in
      omega (
        arith,
        path (s.bits ++ M) (owners H k (q ∷ Q)) v q (suc k),
        word-owner q Q (under (suc k) q),
        under-yes (suc k) q (address k q) (omega arith) refl,
        sum-append (under (suc k) q) s.bits M,
        bits_none s sh q,
      )

  keep_word : (q : ℕ) (Q : List ℕ) (M N : List Item) → Takes s.k q M N → Left M (q ∷ Q) → Left N Q
  unfolding Same sum
  keep_word q Q M N (hit m p le sm) v =
      dealt-take (s.bits ++ M) (owners H s.k (q ∷ Q)) (s.bits ++ N) (owners H s.k Q) m (address s.k q) v
      (λ f. omega (arith, sum-append f s.bits M, sum-append f s.bits N, sm f)) (word-owner q Q) p (clear-address s sh q m.len M le)
  keep_word q Q M N (miss z) v = absurd (always-found q Q M v z)

  keep-words : (Q : List ℕ) (M R : List Item) → TakesAll s.k Q M R → Left M Q → Left R []
  keep-words Q M R none v = v
  keep-words Q M R (more {q = q} {Q = Q'} {N = N} t rest) v = keep-words Q' N R rest (keep_word q Q' M N t v)

  keep-settle : (t : State) → Settled s t → Inv H s → Inv H t
  unfolding Same sum
  keep-settle t c v =
      dealt-same (s.bits ++ c.left) (owners H s.k []) (t.bits ++ t.mothers) (owners H t.k t.queue) (keep-words s.queue s.mothers c.left c.taken v)
      (same-strings s.bits t.bits c.left t.mothers c.bits c.mothers)
      (λ f. omega (arith, owners-sum H s.k [] f, owners-sum H t.k t.queue f, ap (sum (λ a. f (address t.k a))) c.queue))

-- ---- any call

-- what an accepted call does
unfoldable pub Step : Call → State → State → Type 0
Step (Query h) s t = Kept s t
Step (Insert h) s t = Inserted h s t
Step (Delete h) s t = Removed h s t ⊎ Queued h s t
Step (Rejuvenate h) s t = Kept s t ⊎ ((m : State) × (Removed h s m ⊎ Queued h s m) × Inserted h m t)
Step Audit s t = Kept s t
Step Settle s t = Settled s t
Step Double s t = Doubled s t

-- delete and rejuvenate name one of the hashes H
unfoldable pub Names : Call → List ℕ → Type 0
Names (Query h) H = Unit {0}
Names (Insert h) H = Unit {0}
Names (Delete h) H = 0 < count h H
Names (Rejuvenate h) H = 0 < count h H
Names Audit H = Unit {0}
Names Settle H = Unit {0}
Names Double H = Unit {0}

pub record Fresh (s : State) : Type 0 where
  pub bits : s.bits ≡ []
  pub mothers : s.mothers ≡ []
  pub queue : s.queue ≡ []

pub inv-start : (s : State) → Fresh s → Inv [] s
unfolding Same Hall sum owners
inv-start s f =
    dealt-same [] [] (s.bits ++ s.mothers) (map (address s.k) s.queue) (record { hall = λ n v. omega arith; count = refl })
    (λ g. omega (arith, sum-append g s.bits s.mothers, ap (sum g) f.bits, ap (sum g) f.mothers))
    (λ g. sym (ap (λ (l : List ℕ). sum g (map (address s.k) l)) f.queue))

inv-delete : (H : List ℕ) (s t : State) (h : ℕ) → Shape s → 0 < count h H → Removed h s t ⊎ Queued h s t → Inv H s → Inv (erase h H) t
inv-delete H s t h sh n (inl c) v = keep-remove H (erase h H) s t h sh (erase_same h H n) v c
inv-delete H s t h sh n (inr c) v = keep-queue H (erase h H) s t h sh (erase_same h H n) v c

-- the hash that goes comes again
inv-renew : (H : List ℕ) (s m t : State) (h : ℕ) → Shape s → 0 < count h H → Removed h s m ⊎ Queued h s m → Inserted h m t → Inv H s → Inv H t
unfolding Same
inv-renew H s m t h sh n c d v =
    dealt-same (t.bits ++ t.mothers) (owners (h ∷ erase h H) t.k t.queue) (t.bits ++ t.mothers) (owners H t.k t.queue)
    (keep-insert (erase h H) m t h d (inv-delete H s m h sh n c v)) (same_self (t.bits ++ t.mothers))
    (same-owners (h ∷ erase h H) H t.k t.k t.queue t.queue refl (erase_same h H n) (same_self t.queue))

inv-rejuvenate : (H : List ℕ) (s t : State) (h : ℕ) → Shape s → 0 < count h H → Kept s t ⊎ ((m : State) × (Removed h s m ⊎ Queued h s m) × Inserted h m t) → Inv H s
    → Inv H t
inv-rejuvenate H s t h sh n (inl c) v = keep_same H s t c v
inv-rejuvenate H s t h sh n (inr c) v = inv-renew H s c.0 t h sh n c.1 c.2 v

pub inv-next : (c : Call) (H : List ℕ) (s t : State) → Shape s → Names c H → Step c s t → Inv H s → Inv (after c H) t
unfolding after Names Step
inv-next (Query h) H s t sh n st v = keep_same H s t st v
inv-next (Insert h) H s t sh n st v = keep-insert H s t h st v
inv-next (Delete h) H s t sh n st v = inv-delete H s t h sh n st v
inv-next (Rejuvenate h) H s t sh n st v = inv-rejuvenate H s t h sh n st v
inv-next Audit H s t sh n st v = keep_same H s t st v
inv-next Settle H s t sh n st v = keep-settle H s sh t st v
inv-next Double H s t sh n st v = keep-double H s t st v

-- ---- what it gives: every held hash is answered yes

-- up to k bits, a hash and its address match alike
under-address : (k h : ℕ) (i : Item) → under (suc k) h i ≡ under (suc k) (h % 2 ^ k) i
under-address k h i = go (dec_le i.len k) (ℕ_discrete (i.val % 2 ^ i.len) (h % 2 ^ i.len))
  where
    e : i.len ≤ k → h % 2 ^ i.len ≡ h % 2 ^ k % 2 ^ i.len
    e le = low_bits i.len k h (h % 2 ^ k) le (sym (mod-mod h (2 ^ k)))

    go : Dec (i.len ≤ k) → Dec (Matches h i) → under (suc k) h i ≡ under (suc k) (h % 2 ^ k) i
    go (no a) b = under-long (suc k) h i (omega arith) ∙ sym (under-long (suc k) (h % 2 ^ k) i (omega arith))
    go (yes a) (yes b) = under-yes (suc k) h i (omega arith) b ∙ sym (under-yes (suc k) (h % 2 ^ k) i (omega arith) (b ∙ e a))
    go (yes a) (no b) = under-other (suc k) h i b ∙ sym (under-other (suc k) (h % 2 ^ k) i (λ m. b (m ∙ sym (e a))))

-- a queued address of the hash is on its path
is-under : (k h a : ℕ) → is (h % 2 ^ k) a ≤ under (suc k) h (address k a)
is-under k h a = go (ℕ_discrete (h % 2 ^ k) a)
  where
    go : Dec (h % 2 ^ k ≡ a) → is (h % 2 ^ k) a ≤ under (suc k) h (address k a)
    go (yes e) =
        omega (arith, under-yes (suc k) h (address k a) (omega arith) (ap (λ x. x % 2 ^ k) (sym e) ∙ mod-mod h (2 ^ k)), is-yes (h % 2 ^ k) a e)
    go (no e) = omega (arith, is-no (h % 2 ^ k) a e)

module _ (H : List ℕ) (s : State) (h : ℕ) (sh : Shape s) (v : Inv H s) (n : 0 < count h H) where
  abbrev k : ℕ
  k = s.k

  -- no entry with bits matches: on the hash's path, the mother hashes are more than the queue's words at its address
  void-there : sum (under 65 h) s.bits ≡ 0 → count (h % 2 ^ s.k) s.queue + 1 ≤ sum (under (suc s.k) (h % 2 ^ s.k)) s.mothers
  void-there z =
      let X' : List Item = owners (erase h H) k s.queue in
      omega (
        arith,
        path-more (s.bits ++ s.mothers) (owners H k s.queue) X' (full h) k v (one_less H (erase h H) s s h sh (erase_same h H n) v) (omega (arith, sh.wide))
            (clear-full s sh h k (omega arith) (omega arith)),
        owners-sum (erase h H) k s.queue (under (suc k) h),
        count-sum (h % 2 ^ k) s.queue,
        sum-le (is (h % 2 ^ k)) (λ a. under (suc k) h (address k a)) (is-under k h) s.queue,
        sum-append (under (suc k) h) s.bits s.mothers,
        sum-eq (under (suc k) h) (under (suc k) (h % 2 ^ k)) (under-address k h) s.mothers,
        bits_none s sh h,
      )

  pub inv-yes : Yes s h
  unfolding Yes voids
  inv-yes = go (ℕ_discrete (sum (under 65 h) s.bits) 0)
    where
      go : Dec (sum (under 65 h) s.bits ≡ 0) → (0 < sum (under 65 h) s.bits) ⊎ (0 < sum (under (suc k) (h % 2 ^ k)) s.mothers - count (h % 2 ^ k) s.queue)
      go (no a) = inl (omega arith)
      go (yes a) = inr (omega (arith, void-there a))
