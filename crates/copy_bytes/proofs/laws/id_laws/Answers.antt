use Rattle.copy_bytes.proofs.Ids.{id_back, id_forth, id_numbered, id_one}
use Rattle.copy_bytes.proofs.laws.id_laws.Goals as goal

pub returns : goal.returns
returns c = record { back = id_back; again = id_forth; numbered = id_numbered; one = id_one }
