use Rattle.message.proofs.LaidOut.{frame_laws_lem}
use Rattle.message.proofs.frame.frame_laws.Goals as goal

pub returns : goal.returns
returns g c = frame_laws_lem _
