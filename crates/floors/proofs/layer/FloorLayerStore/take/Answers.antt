use Rattle.std.proofs.Common.{refl}
use Rattle.floors.proofs.Raising.{floored_answer, floored_below, floored_after}
use Rattle.floors.proofs.layer.FloorLayerStore.take.Goals as goal

pub returns : goal.returns
returns g c =
    let rank = g.K.Key.rank in
    let join = g.V.Value.join in
    let raise = g.V.Value.raise in
    let laws = g.met.V.Value.laws in
    let f = c.args.self.now.floor in
    let m = g.T.Store.means c.args.self.now.below in
    let below = floored_below rank join raise laws f m c.args.key c.args.value c.raised.result _ c.take.ensures.after c.raised.ensures in
    record {
      answer = floored_answer rank join raise laws f m c.args.key c.take.result c.take.ensures.answer;
      after = floored_after rank join raise laws f m c.args.key c.args.value _ below;
      steady = (refl, c.take.ensures.steady);
      refused = c.take.ensures.refused;
      below = below;
    }
