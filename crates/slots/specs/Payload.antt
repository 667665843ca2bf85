-- Document 01, "Slots": "A payload of width W holds, from the top, W-1-L ones, a zero, and the L fingerprint bits. L = 0 is a void entry. W ones are a
-- tombstone."
use Rattle.std.specs.Prelude.{ℕ, zero, suc, ◌+◌, ◌-◌, ◌/◌, ◌%◌, ◌^◌, Bool, cond, ◌&&◌, ltb, eqb}

-- width w, fingerprint f of length l
unfoldable pub pay : ℕ → ℕ → ℕ → ℕ
pay w l f = 2 ^ w - 2 ^ (l + 1) + f

unfoldable pub void : ℕ → ℕ
void w = pay w 0 0

unfoldable pub tombstone : ℕ → ℕ
tombstone w = 2 ^ w - 1

-- what is left of a payload of width w from its first zero bit on: L + 1 bits, and 0 where all bits are ones
unfoldable pub rest_of : ℕ → ℕ → ℕ
rest_of zero p = zero
rest_of (suc j) p = cond (ltb p (2 ^ j)) (suc j) (rest_of j (p - 2 ^ j))

-- L (also 0 for a tombstone, which `rest_of` tells apart), and the L bits
unfoldable pub length_of : ℕ → ℕ → ℕ
length_of w p = rest_of w p - 1

unfoldable pub fingerprint_of : ℕ → ℕ → ℕ
fingerprint_of w p = p % 2 ^ length_of w p

-- "The lowest k bits of a hash are its canonical slot; the next L bits are a fingerprint of length L."
unfoldable pub canonical_slot : ℕ → ℕ → ℕ
canonical_slot k h = h % 2 ^ k

unfoldable pub hash_bits : ℕ → ℕ → ℕ → ℕ
hash_bits h k l = h / 2 ^ k % 2 ^ l

-- "An entry matches a hash if it .. is no tombstone, and its L bits equal the hash's bits k to k+L-1. A void matches always."
unfoldable pub matches : ℕ → ℕ → ℕ → ℕ → Bool
matches w k h p = ltb 0 (rest_of w p) && eqb (fingerprint_of w p) (hash_bits h k (length_of w p))

-- the fresh entry of a hash: width w, fresh length l
unfoldable pub fresh_payload : ℕ → ℕ → ℕ → ℕ → ℕ
fresh_payload w l k h = pay w l (hash_bits h k l)
