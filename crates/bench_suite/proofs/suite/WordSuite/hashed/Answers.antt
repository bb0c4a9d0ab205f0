use Rattle.std.proofs.Common.{rules, ap, ◌∙◌}
use Rattle.bench_suite.specs.Bench.{hashed}
use Rattle.bench_suite.specs.Words.{word_path}
use Rattle.bench_suite.proofs.suite.WordSuite.hashed.Goals as goal

pub returns : goal.returns
returns c = word_path _ _ (c.hash_number.ensures ∙ ap (λ j. hashed j c.args.self.value) (search rules))
