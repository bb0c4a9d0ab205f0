use Rattle.ratchet.proofs.Raises.{raise_laws_lem}
use Rattle.ratchet.proofs.laws.raise_laws.Goals as goal

pub returns : goal.returns
returns g c = raise_laws_lem g.P.Suite.suite g.met.P.Suite.lawful
