-- The bench suite: a part is a 64-bit number, and the cipher of a text is the text itself.
use Rattle.std.specs.Prelude.{ℕ, ◌+◌, ◌-◌, ◌*◌, ◌/◌, ◌%◌, ◌^◌, ◌<◌, Some, fold, ◌==◌, bit_or, bit_xor, nat_le}
use Rattle.std.proofs.Common.{mod-lt, arith}
use Rattle.std.proofs.lemmas.Nat.{xor_lt}
use Rattle.std.specs.Int.Digits.{number_from_digits}
use Rattle.ratchet.specs.Bytes.{be}
use Rattle.ratchet.specs.Suite.{Meaning, Parts}
use Rattle.ratchet.specs.declared.copies.Level.{Level}
use Rattle.ratchet.specs.declared.copies.Level.TheVariants.{L0, L1, L2, L3}
use Rattle.bench_suite.specs.declared.word.Word.{Word}

-- any number as a word: its lowest 64 bits
abbrev pub word : ℕ → Word
word n = record { value = n % 2 ^ 64; fits = mod-lt n (omega arith) }

-- a 64-bit number rotated left by k, which is 1 to 63
abbrev pub rotated : ℕ → ℕ → ℕ
rotated k v = bit_or ((v * 2 ^ k) % 2 ^ 64) (v / 2 ^ (64 - k))

-- the number j of a hash Hj
abbrev pub number_of : Level → ℕ
number_of L0 = 0
number_of L1 = 1
number_of L2 = 2
number_of L3 = 3

pub number_fits : (j : Level) → number_of j < 2 ^ 64
number_fits L0 = omega arith
number_fits L1 = omega arith
number_fits L2 = omega arith
number_fits L3 = omega arith

-- rotated left by 7, plus a constant modulo 2^64, exclusive-or j
abbrev pub hashed : ℕ → ℕ → ℕ
hashed j v = bit_xor ((rotated 7 v + 0x9E3779B97F4A7C15) % 2 ^ 64) j

pub hashed_fits : (j v : ℕ) → j < 2 ^ 64 → hashed j v < 2 ^ 64
hashed_fits j v h = xor_lt 64 _ j (mod-lt (rotated 7 v + 0x9E3779B97F4A7C15) (omega arith)) h

abbrev pub hash : Level → Word → Word
hash j p = record { value = hashed (number_of j) p.value; fits = hashed_fits (number_of j) p.value (number_fits j) }

-- a tag takes in a byte: rotated left by 5, plus the byte modulo 2^64
abbrev pub mixed : ℕ → ℕ → ℕ
mixed t b = (rotated 5 t + b) % 2 ^ 64

-- a tag starts from the exclusive-or of the four parts
abbrev pub start : Parts Word → ℕ
start k = bit_xor (bit_xor (bit_xor k.p0.value k.p1.value) k.p2.value) k.p3.value

abbrev pub bench : Meaning Word
bench = record {
  width = 8;
  message_byte = 0x43;
  share_byte = 0x42;
  export_byte = 0x41;
  hash = hash;
  same = λ p q. (p.value == q.value);
  encode = λ p. be 8 p.value;
  decode = λ bs. word (number_from_digits 256 bs);
  cipher = λ k text. text;
  decipher = λ k cipher. Some cipher;
  tag = λ k bs. be 8 (fold mixed (start k) bs);
  allowed = λ n. nat_le n 4096;
}
