-- For private contracts: what stands behind the word of a call, by what a call answered and the output that it left.
use Rattle.std.specs.Prelude.{ℕ, List, ◌∷◌, ◌++◌, Ok, Err, Result, decimal, take}
use Rattle.ratchet.specs.Suite.{Meaning}
use Rattle.copy_bytes.specs.declared.named.NamedCopy.{NamedCopy}
use Rattle.copy_bytes.specs.declared.named.Version.TheVariants.{Export}
use Rattle.copy_bytes.specs.CopyBytes.{copy_bytes}
use Rattle.opening.specs.declared.unseal.Opened.{Opened}
use Rattle.opening.specs.declared.unseal.OpenRefusal.{OpenRefusal}
use Rattle.opening.specs.Numbers.{open_number}
use Rattle.console.specs.declared.answers.Refusal.{Refusal}
use Rattle.console.specs.Lines.{refused}
use Rattle.script.specs.Words.{hex_word}

-- bytes that stand in front of the output
abbrev pub written_front : Result ℕ Refusal → List ℕ → List ℕ
written_front (Ok n) out = 32 ∷ hex_word (take n out)
written_front (Err refusal) out = refused refusal.0

unfoldable pub opened_front : Result Opened OpenRefusal → List ℕ → List ℕ
opened_front (Ok o) out = (32 ∷ decimal o.index) ++ ((32 ∷ decimal o.hashes) ++ (32 ∷ hex_word (take o.size out)))
opened_front (Err e) out = refused (open_number e)

-- the hashes of an advance, and the copy that it reaches
abbrev pub moved_words : {P : Type 0} → Meaning P → Result (ℕ × NamedCopy P) Refusal → List ℕ
moved_words m (Ok there) = (32 ∷ decimal there.0) ++ (32 ∷ hex_word (copy_bytes m Export there.1))
moved_words m (Err refusal) = refused refusal.0
