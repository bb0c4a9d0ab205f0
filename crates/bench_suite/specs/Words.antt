-- Two words with one value are one word.
use Rattle.std.specs.Prelude.{◌≡◌, ◌^◌, ◌<◌}
use mathlib.Core.HLevel.{is_prop→PathP}
use Rattle.std.proofs.Math.Bridge.{le_prop}
use Rattle.bench_suite.specs.declared.word.Word.{Word}

pub word_path : (a b : Word) → a.value ≡ b.value → a ≡ b
word_path a b e = λ i. record { value = e i; fits = is_prop→PathP (λ j. e j < 2 ^ 64) (λ j. le_prop) a.fits b.fits i }
