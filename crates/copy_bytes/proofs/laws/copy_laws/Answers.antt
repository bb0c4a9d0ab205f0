use Rattle.copy_bytes.proofs.RoundTrips.{copy_laws_lem}
use Rattle.copy_bytes.proofs.laws.copy_laws.Goals as goal

pub returns : goal.returns
returns g c = copy_laws_lem g.P.Suite.suite g.met.P.Suite.lawful
