use Rattle.std.proofs.Common.{◌≡◌}
use Rattle.ratchet.specs.Ratchet.{rep}
use Rattle.ratchet.proofs.advance.hash_times.Given as goal

abbrev pub invariant-loop-i : goal.invariant-loop-i
invariant-loop-i g l = l.q ≡ rep (g.P.Suite.suite.hash l.level) l._i l.initial.q
