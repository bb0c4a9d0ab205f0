use Rattle.script.specs.Script.{unread, extent}
use Rattle.console.proofs.ToGo.{to_go}
use Rattle.console.proofs.run.Given as goal

abbrev pub decreases-loop-plan : goal.decreases-loop-plan
decreases-loop-plan g l = to_go l.plan (extent (unread l.session.script).rest)
