-- An id as a number and as its 32 bytes.
use Rattle.std.specs.Prelude.{ℕ, ◌+◌, ◌*◌, ◌%◌, ◌^◌, List, ◌++◌, take, drop}
use Rattle.std.proofs.Common.{mod-lt, pow_pos}
use Rattle.std.specs.Int.Digits.{number_from_digits}
use Rattle.ratchet.specs.declared.ids.Id.{Id}
use Rattle.ratchet.specs.Bytes.{be}

-- ids are compared as unsigned numbers
abbrev pub id_number : Id → ℕ
id_number k = ((k.w0 * 2 ^ 64 + k.w1) * 2 ^ 64 + k.w2) * 2 ^ 64 + k.w3

unfoldable pub id_bytes : Id → List ℕ
id_bytes k = be 8 k.w0 ++ (be 8 k.w1 ++ (be 8 k.w2 ++ be 8 k.w3))

-- the big-endian word in the first 8 of some bytes
abbrev pub word : List ℕ → ℕ
word bs = number_from_digits 256 (take 8 bs) % 2 ^ 64

-- the id in the first 32 of some bytes
unfoldable pub id_of : List ℕ → Id
id_of bs = record {
  w0 = word bs;
  w1 = word (drop 8 bs);
  w2 = word (drop 16 bs);
  w3 = word (drop 24 bs);
  fits0 = mod-lt (number_from_digits 256 (take 8 bs)) (pow_pos 64);
  fits1 = mod-lt (number_from_digits 256 (take 8 (drop 8 bs))) (pow_pos 64);
  fits2 = mod-lt (number_from_digits 256 (take 8 (drop 16 bs))) (pow_pos 64);
  fits3 = mod-lt (number_from_digits 256 (take 8 (drop 24 bs))) (pow_pos 64);
}
