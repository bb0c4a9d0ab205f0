-- How a text is cut at a separator, and how bytes are written in a script.
use Rattle.std.specs.Prelude.{◌≡◌, ◌≢◌, ℕ, ◌+◌, ◌/◌, ◌%◌, cond, List, [], ◌∷◌, length, slice_index, Some, None, Option, ◌==◌, nat_lt}

-- what stands before the first separator, or all
abbrev pub upto : ℕ → List ℕ → List ℕ
upto s [] = []
upto s (c ∷ cs) = cond (c == s) [] (c ∷ upto s cs)

-- what stands behind the first separator, if there is one
abbrev pub behind : ℕ → List ℕ → Option (List ℕ)
behind s [] = None
behind s (c ∷ cs) = cond (c == s) (Some cs) (behind s cs)

-- a number with no sign (43), and no zero (48) before other digits
abbrev pub IsPlain : List ℕ → Type 0
IsPlain w = (slice_index w 0 ≢ 43) × (slice_index w 0 ≡ 48 → length w ≡ 1)

-- bytes in hex, two digits each
abbrev pub hex_digit : ℕ → ℕ
hex_digit n = cond (nat_lt n 10) (n + 48) (n + 87)

abbrev pub hex : List ℕ → List ℕ
hex [] = []
hex (b ∷ bs) = hex_digit (b / 16) ∷ (hex_digit (b % 16) ∷ hex bs)

-- bytes as a word: `-` for none
abbrev pub hex_word : List ℕ → List ℕ
hex_word bs = cond (length bs == 0) (45 ∷ []) (hex bs)
