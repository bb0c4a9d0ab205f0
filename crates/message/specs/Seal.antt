-- The message that a copy seals for a text.
use Rattle.std.specs.Prelude.{ℕ, List, ◌++◌}
use Rattle.ratchet.specs.declared.copies.SessionCopy.{SessionCopy}
use Rattle.ratchet.specs.Suite.{Meaning, parts}
use Rattle.message.specs.Frame.{body}

-- some bytes, and the copy's tag of them
abbrev pub tagged : {P : Type 0} → Meaning P → SessionCopy P → List ℕ → List ℕ
tagged m copy bs = bs ++ m.tag (parts copy) bs

abbrev pub cipher_sealed : {P : Type 0} → Meaning P → SessionCopy P → List ℕ → List ℕ
cipher_sealed m copy cipher = tagged m copy (body m copy.index cipher)

unfoldable pub sealed : {P : Type 0} → Meaning P → SessionCopy P → List ℕ → List ℕ
sealed m copy text = cipher_sealed m copy (m.cipher (parts copy) text)
