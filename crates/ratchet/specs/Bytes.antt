-- Numbers as big-endian bytes, and bytes laid over an output.
use Rattle.std.specs.Prelude.{ℕ, zero, suc, ◌/◌, ◌%◌, ◌^◌, ◌<◌, List, [], ◌∷◌, ◌++◌, length, drop}

abbrev pub Byte : ℕ → Type 0
Byte b = b < 256

-- the lowest n bytes of a number, the highest first; back again it is `number 256`
abbrev pub be : ℕ → ℕ → List ℕ
be zero v = []
be (suc n) v = (v / 256 ^ n % 256) ∷ be n v

-- a list laid over the front of an output: what lies behind it stays
abbrev pub laid : List ℕ → List ℕ → List ℕ
laid xs old = xs ++ drop (length xs) old
