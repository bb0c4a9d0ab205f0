-- What a suite means, over its part type P, and what every suite must show.
use Rattle.std.specs.Prelude.{◌≡◌, ℕ, ◌≤◌, Bool, true, List, length, Some, None, Decides, Option}
use Rattle.std.specs.List.{AllByRecursion}
use Rattle.ratchet.specs.declared.copies.Level.{Level}
use Rattle.ratchet.specs.declared.copies.SessionCopy.{SessionCopy}
use Rattle.ratchet.specs.Bytes.{Byte, laid}

-- the four parts R0 to R3
pub record Parts (P : Type 0) : Type 0 where
  pub p0 : P
  pub p1 : P
  pub p2 : P
  pub p3 : P

pub record Meaning (P : Type 0) : Type 0 where
  pub width : ℕ
  -- the first byte of a message, of a shared copy and of an exported copy
  pub message_byte : ℕ
  pub share_byte : ℕ
  pub export_byte : ℕ
  pub hash : Level → P → P
  pub same : P → P → Bool
  pub encode : P → List ℕ
  pub decode : List ℕ → P
  pub cipher : Parts P → List ℕ → List ℕ
  pub decipher : Parts P → List ℕ → Option (List ℕ)
  pub tag : Parts P → List ℕ → List ℕ
  -- the cipher lengths that a message may have
  pub allowed : ℕ → Bool

pub record Lawful {P : Type 0} (m : Meaning P) : Type 0 where
  pub wide : (1 ≤ m.width) × (m.width ≤ 1024)
  pub formats : Byte m.message_byte × Byte m.share_byte × Byte m.export_byte
  pub sameness : (p q : P) → Decides (m.same p q) (p ≡ q)
  pub encoded : (p : P) → (length (m.encode p) ≡ m.width) × AllByRecursion Byte (m.encode p)
  pub back : (p : P) → m.decode (m.encode p) ≡ p
  pub forth : (bs : List ℕ) → length bs ≡ m.width → AllByRecursion Byte bs → m.encode (m.decode bs) ≡ bs
  pub deciphers : (k : Parts P) (text : List ℕ) → length text ≤ 4096 → AllByRecursion Byte text → m.decipher k (m.cipher k text) ≡ Some text
  pub lengths : (k : Parts P) (text : List ℕ) → length text ≤ 4096 → (m.allowed (length (m.cipher k text)) ≡ true) × (length (m.cipher k text) ≤ 4112)
  pub texts : (k : Parts P) (bs text : List ℕ) → m.allowed (length bs) ≡ true → length bs ≤ 4116 → m.decipher k bs ≡ Some text → length text ≤ 4111
  pub tagged : (k : Parts P) (bs : List ℕ) → length (m.tag k bs) ≡ 8

abbrev pub parts : {P : Type 0} → SessionCopy P → Parts P
parts c = record { p0 = c.r0; p1 = c.r1; p2 = c.r2; p3 = c.r3 }

-- what deciphering into an output answers, and what the output then holds
abbrev pub Deciphered : Option (List ℕ) → Option ℕ → List ℕ → List ℕ → Type 0
Deciphered (Some text) r old new = (r ≡ Some (length text)) × (new ≡ laid text old)
Deciphered None r old new = (r ≡ None) × (new ≡ old)
