use Rattle.std.proofs.Common.{◌-◌}
use Rattle.message.proofs.Varints.{Reading}
use Rattle.message.proofs.varint.read_varint.Given as goal

abbrev pub invariant-loop-at : goal.invariant-loop-at
invariant-loop-at l = Reading l.bytes l.at l.value l.unit

abbrev pub decreases-loop-at : goal.decreases-loop-at
decreases-loop-at l = 5 - l.at
