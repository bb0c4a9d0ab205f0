use Rattle.std.specs.List.{filter_map}
use Rattle.store.proofs.Orders.{lt_ranks}
use Rattle.tables.proofs.Rows.{held, lowest_by}
use Rattle.tables.proofs.table.TableStore.next.Goals as goal

pub returns : goal.returns
returns g c =
    let below = lt_ranks g.K.Key.rank g.met.K.Key.ordered g.met.K.Ord.matches_partial_cmp in
    rw (← c.used.ensures, ← held c.used.result.now)
    (lowest_by g.K.Key.rank below c.args.last.now (filter_map (λ s. s) c.used.result.now) c.lowest_above.result c.lowest_above.ensures)
