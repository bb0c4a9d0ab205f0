use Rattle.std.proofs.Common.{◌≡◌, option_map, sym, ◌∙◌, rules}
use Rattle.store.specs.Meaning.{nexted}
use Rattle.floors.proofs.Raising.{each_first}
use Rattle.floors.proofs.layer.FloorLayerStore.next.Goals as goal

pub returns : goal.returns
returns g c =
    let up = g.V.Value.raise c.args.self.now.floor in
    let m = g.T.Store.means c.args.self.now.below in
    let is : c.map.result ≡ option_map (λ e. (e.0, up e.1)) (nexted g.K.Key.rank m c.args.last.now) = search rules in
    is ∙ sym (each_first g.K.Key.rank up m.entries c.args.last.now)
