use Rattle.std.proofs.Common.{◌≡◌, ◌++◌, length, vec_items}
use Rattle.std.specs.List.{AllByRecursion}
use Rattle.ratchet.specs.Bytes.{Byte}
use Rattle.script.specs.Words.{hex}
use Rattle.script.proofs.words.read_pairs.Given as goal

-- the bytes so far, in hex, and what is left are the whole
abbrev pub invariant-loop-rest : goal.invariant-loop-rest
invariant-loop-rest l = (l.word ≡ hex (vec_items l.read) ++ l.rest) × AllByRecursion Byte (vec_items l.read)

abbrev pub decreases-loop-rest : goal.decreases-loop-rest
decreases-loop-rest l = length l.rest
