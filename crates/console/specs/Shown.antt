-- What is printed of a session, each word with a space before it.
use Rattle.std.specs.Prelude.{ℕ, List, ◌∷◌, ◌++◌, codes, decimal}
use Rattle.ratchet.specs.declared.copies.SessionCopy.{SessionCopy}
use Rattle.ratchet.specs.declared.copies.Holding.{Holding}
use Rattle.ratchet.specs.declared.copies.Holding.TheVariants.{Held, Disputed}
use Rattle.ratchet.specs.Suite.{Meaning}
use Rattle.script.specs.Words.{hex_word}

abbrev pub shown_part : {P : Type 0} → Meaning P → P → List ℕ
shown_part m p = 32 ∷ hex_word (m.encode p)

-- the index, and the parts R0 to R3
abbrev pub shown_copy : {P : Type 0} → Meaning P → SessionCopy P → List ℕ
shown_copy m c = (32 ∷ decimal c.index) ++ (shown_part m c.r0 ++ (shown_part m c.r1 ++ (shown_part m c.r2 ++ shown_part m c.r3)))

abbrev pub shown_holding : {P : Type 0} → Meaning P → Holding P → List ℕ
shown_holding m (Held c) = shown_copy m c
shown_holding m Disputed = codes " disputed"
