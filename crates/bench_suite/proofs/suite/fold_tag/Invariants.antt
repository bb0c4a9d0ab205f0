use Rattle.std.proofs.Common.{◌≡◌, drop, fold}
use Rattle.bench_suite.specs.Bench.{mixed}
use Rattle.bench_suite.proofs.suite.fold_tag.Given as goal

abbrev pub invariant-loop-b : goal.invariant-loop-b
invariant-loop-b l = fold mixed l.tag (drop l.b-index l.bytes) ≡ fold mixed l.initial.tag l.bytes
