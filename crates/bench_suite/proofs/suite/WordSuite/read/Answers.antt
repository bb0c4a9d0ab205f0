use Rattle.std.proofs.Common.{◌≡◌, ◌%◌, ◌^◌, arith}
use Rattle.std.proofs.lemmas.Grind.{common_steps}
use Rattle.std.specs.Int.Digits.{number_from_digits}
use Rattle.bench_suite.specs.Words.{word_path}
use Rattle.bench_suite.proofs.suite.WordSuite.read.Goals as goal

pub returns : goal.returns
returns c =
    let number : c.from_be_bytes.result ≡ number_from_digits 256 c.args.bytes.now % 2 ^ 64 = grind (arith, common_steps) in
    word_path _ _ number
