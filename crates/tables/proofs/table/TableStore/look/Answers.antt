use Rattle.std.proofs.Common.{rules}
use Rattle.std.specs.List.{filter_map}
use Rattle.store.proofs.Orders.{eq_ranks}
use Rattle.tables.proofs.Rows.{held, found_by}
use Rattle.tables.proofs.table.TableStore.look.Goals as goal

pub returns : goal.returns
returns g c =
    let same = eq_ranks g.K.Key.rank g.met.K.Key.ordered g.met.K.Ord.matches_eq in
    rw (← c.used.ensures, ← held c.used.result.now) (found_by g.K.Key.rank same (filter_map (λ s. s) c.used.result.now) c.args.key c.map.result (search rules))
