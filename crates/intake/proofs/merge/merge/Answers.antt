use Rattle.std.proofs.Common.{rules}
use Rattle.intake.proofs.Walking.{left_next}
use Rattle.intake.proofs.merge.merge.Goals as goal

pub loop-key-preserved : goal.loop-key-preserved
loop-key-preserved g c = (
  tt,
  tt,
  left_next g.K.Key.rank g.V.Value.join g.V.Value.raise _ _ _ _ (c.in-Some.key, c.in-Some.value) c.next.new.self c.loop-key.key-iterator (search rules) c.take.ensures.after c.loop-key.invariant.2,
  g.A.Store.lasts.on _ _ _ c.loop-key.invariant.3 c.take.ensures.steady,
)
