use Rattle.std.proofs.Common.{refl}
use Rattle.message.specs.Frame.{head, framed}
use Rattle.message.specs.Seal.{sealed}
use Rattle.message.specs.Varint.{groups, read_groups}
use Rattle.opening.specs.Open.{unsealed}
use Rattle.figures.proofs.worked.figures_hold.Goals as goal

pub returns : goal.returns
unfolding head framed sealed groups read_groups unsealed
returns c = refl
