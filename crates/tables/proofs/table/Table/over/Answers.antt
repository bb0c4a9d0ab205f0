use Rattle.std.proofs.Common.{rules}
use Rattle.tables.proofs.Rows.{cleared_mean}
use Rattle.tables.proofs.table.Table.over.Goals as goal

pub returns-clause-means : goal.returns-clause-means
returns-clause-means g c = cleared_mean g.K.Key.rank _ g.K.TableKey.MOST _ (search rules)
