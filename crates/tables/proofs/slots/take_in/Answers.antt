use Rattle.std.proofs.Common.{◌≡◌, Some, None, Err, MatchOption, sym, ◌∙◌, rules}
use Rattle.store.specs.declared.refusal.StoreRefusal.TheVariants.{NoPlace}
use Rattle.store.proofs.Orders.{eq_ranks}
use Rattle.tables.proofs.Takes.{chosen, takes, takes_none}
use Rattle.tables.proofs.slots.take_in.Goals as goal

pub returns-in_err-i : goal.returns-in_err-i
returns-in_err-i g c =
    let same = eq_ranks g.K.Key.rank g.met.K.Key.ordered g.met.K.Ord.matches_eq in
    let place : chosen g.K.Key.rank g.V.Value.join g.V.Value.raise g.met.V.Value.laws c.args.slots.now c.args.key c.args.value same ≡ None = search rules in
    let r : c.from_residual.result ≡ Err NoPlace = search rules in
    let t = takes_none g.K.Key.rank g.V.Value.join g.V.Value.raise g.met.V.Value.laws c.args.slots.now c.args.key c.args.value same place in
    record { answer = r ∙ t.answer; after = t.after; refused = λ x. t.refused (sym r ∙ x) }

pub returns : goal.returns
returns g c =
    let same = eq_ranks g.K.Key.rank g.met.K.Key.ordered g.met.K.Ord.matches_eq in
    let place : chosen g.K.Key.rank g.V.Value.join g.V.Value.raise g.met.V.Value.laws c.args.slots.now c.args.key c.args.value same ≡ Some c.in_ok-i.i = search rules in
    let joined : MatchOption c.index-slots-i.result (c.map_or.result ≡ c.args.value) (λ e. c.map_or.result ≡ g.V.Value.join e.1 c.args.value) = search rules in
    let t = takes g.K.Key.rank g.V.Value.join g.V.Value.raise g.met.V.Value.laws c.args.slots.now c.args.key c.args.value same c.in_ok-i.i c.index-slots-i.result c.map_or.result place c.index-slots-i.is joined in
    record { answer = t.answer; after = t.after; refused = t.refused }
