use Rattle.std.proofs.Common.{◌≡◌, Some, sym, ◌∙◌, rules}
use Rattle.store.specs.Maps.{beyond, first}
use Rattle.store.proofs.Lookups.{next_rest, next_less}
use Rattle.store.proofs.entries.EntriesIterator.next.Goals as goal

pub returns-clause-steps : goal.returns-clause-steps
returns-clause-steps g c =
    let it = c.self.inside in
    let came : Some c.in_ok-entry.entry ≡ first (beyond g.K.Key.rank (g.S.Store.means it.store.now).entries it.last) = search rules in
    sym c.self.view_is ∙ next_rest g.K.Key.rank _ it.last c.in_ok-entry.entry (g.met.S.Store.ascends it.store.now) came

pub returns-clause-goes : goal.returns-clause-goes
returns-clause-goes g c =
    let it = c.self.inside in
    let came : Some c.in_ok-entry.entry ≡ first (beyond g.K.Key.rank (g.S.Store.means it.store.now).entries it.last) = search rules in
    let less = next_less g.K.Key.rank _ it.last c.in_ok-entry.entry (g.met.S.Store.ascends it.store.now) came in
    rw (← c.self.view_is) (search rules)
