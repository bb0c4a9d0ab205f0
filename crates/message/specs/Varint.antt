-- Varints: groups of 7 bits, lowest first, the top bit set in all bytes but the last.
use Rattle.std.specs.Prelude.{◌≡◌, ℕ, zero, suc, ◌+◌, ◌-◌, ◌*◌, ◌/◌, ◌%◌, ◌^◌, ◌<◌, cond, List, [], ◌∷◌, ◌++◌, length, take, Some, None, Option, ◌==◌, nat_lt}
use Rattle.std.specs.List.{AllByRecursion}
use Rattle.ratchet.specs.Bytes.{Byte}

-- the shortest form of a number in at most n + 1 groups
unfoldable pub groups : ℕ → ℕ → List ℕ
groups zero v = v ∷ []
groups (suc n) v = cond (nat_lt v 128) (v ∷ []) ((v % 128 + 128) ∷ groups n (v / 128))

-- five groups serve every number below 2^32
abbrev pub varint : ℕ → List ℕ
varint v = groups 4 v

-- a group before the number that the groups above it write; those above may not write 0, which would be a longer form
abbrev pub beneath : ℕ → Option (ℕ × ℕ) → Option (ℕ × ℕ)
beneath low None = None
beneath low (Some (high, k)) = cond (high == 0) None (Some (low + 128 * high, k + 1))

-- the number in the bytes up to the first below 128, and how many these are; none where they are cut off or not the shortest form
unfoldable pub read_groups : List ℕ → Option (ℕ × ℕ)
read_groups [] = None
read_groups (b ∷ bs) = cond (nat_lt b 128) (Some (b, 1)) (beneath (b - 128) (read_groups bs))

abbrev pub within : Option (ℕ × ℕ) → Option (ℕ × ℕ)
within None = None
within (Some (v, k)) = cond (nat_lt v (2 ^ 32)) (Some (v, k)) None

-- a lawful varint is the shortest form of at most 2^32 - 1
abbrev pub read_varint : List ℕ → Option (ℕ × ℕ)
read_varint bs = within (read_groups bs)

pub record VarintLaws : Type 0 where
  -- what is written is read again, whatever follows
  pub back : (v : ℕ) (rest : List ℕ) → v < 2 ^ 32 → read_varint (varint v ++ rest) ≡ Some (v, length (varint v))
  -- what is read is written so, and no number has a second form
  pub forth : (bs : List ℕ) (v k : ℕ) → AllByRecursion Byte bs → read_varint bs ≡ Some (v, k) → (take k bs ≡ varint v) × (v < 2 ^ 32)
