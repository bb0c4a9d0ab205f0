use Rattle.std.proofs.Common.{◌≡◌, ◌<◌, length, [], ◌∷◌, vec_items, rules}
use Rattle.script.specs.declared.fault.LineFault.TheVariants.{BadLine}
use Rattle.script.proofs.Hex.{as_word, empty_word}
use Rattle.script.proofs.words.read_bytes.Goals as goal
use Rattle.script.proofs.words.read_bytes.Goals.{in_default-via-then-word-lt2+in_default-1, in_default-via-else-word-lt2}

pub returns-in-empty : goal.returns-in-empty
returns-in-empty c = λ _ bs _.
    let none : length c.args.word.now ≡ 0 = search rules in
    empty_word c.args.word.now bs none

pub returns-in_default : goal.returns-in_default
returns-in_default c =
    let some : 0 < length c.args.word.now = elim c.in_default.branch [ in_default-via-then-word-lt2+in_default-1 w ↦ search rules | in_default-via-else-word-lt2 w ↦ search rules ] in
    let dash : c.args.word.now ≡ 45 ∷ [] → ⊥ = elim c.in_default.branch [ in_default-via-then-word-lt2+in_default-1 w ↦ search rules | in_default-via-else-word-lt2 w ↦ search rules ] in
    as_word vec_items c.read_pairs.result BadLine c.args.word.now some dash c.read_pairs.ensures
