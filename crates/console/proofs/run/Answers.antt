use Rattle.script.specs.Script.{unread, extent}
use Rattle.console.proofs.ToGo.{falls}
use Rattle.console.proofs.run.Goals as goal

pub loop-plan-smaller : goal.loop-plan-smaller
loop-plan-smaller g c =
    falls c.in_ok-plan-2.plan c.loop-plan.plan c.in-Some.p (extent (unread c.serve.new.session.script).rest) (extent (unread c.loop-plan.session.script).rest) c.in-Some.is c.in_ok-plan-2.ensures
