use Rattle.message.proofs.Varints.{takes}
use Rattle.message.proofs.frame.read_keyed.Goals as goal

pub returns-clause-taken : goal.returns-clause-taken
returns-clause-taken c = rw c.read_varint.ensures (takes _ _ c.in_ok-first.ensures.cases.1)
