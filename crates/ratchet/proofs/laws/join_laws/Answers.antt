use Rattle.ratchet.proofs.Joins.{join_laws_lem}
use Rattle.ratchet.proofs.laws.join_laws.Goals as goal

pub returns : goal.returns
returns g c = join_laws_lem g.P.Suite.suite g.met.P.Suite.lawful
