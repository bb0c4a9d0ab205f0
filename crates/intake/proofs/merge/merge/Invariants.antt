use Rattle.intake.proofs.Walking.{Left}
use Rattle.intake.proofs.merge.merge.Given as goal

abbrev pub invariant-loop-key : goal.invariant-loop-key
invariant-loop-key g l =
    let s = (g.B.Store.means l.src).entries in
    let it = l.key-iterator in
    (goal.iterator-loop-key g).can_next it × (goal.iterator-loop-key g).is_finite it
    × Left g.K.Key.rank g.V.Value.join g.V.Value.raise (g.A.Store.means l.initial.dst) s (g.A.Store.means l.dst) it
    × g.A.Store.steady l.initial.dst l.dst
