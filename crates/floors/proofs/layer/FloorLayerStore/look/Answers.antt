use Rattle.std.proofs.Common.{◌≡◌, option_map, sym, ◌∙◌, rules}
use Rattle.store.specs.Meaning.{looked}
use Rattle.store.proofs.Lookups.{each_found}
use Rattle.floors.proofs.layer.FloorLayerStore.look.Goals as goal

pub returns : goal.returns
returns g c =
    let up = g.V.Value.raise c.args.self.now.floor in
    let m = g.T.Store.means c.args.self.now.below in
    let is : c.map.result ≡ option_map up (looked g.K.Key.rank m c.args.key) = search rules in
    is ∙ sym (each_found g.K.Key.rank up m.entries c.args.key)
