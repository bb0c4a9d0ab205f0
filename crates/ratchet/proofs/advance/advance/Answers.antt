use Rattle.std.proofs.Common.{sym, ◌∙◌, arith, Ok}
use Rattle.std.proofs.lemmas.Bool.{le-leb, cond-true}
use Rattle.ratchet.proofs.Passes.{walked, cost_le}
use Rattle.ratchet.proofs.advance.advance.Goals as goal

pub overflow_add-result-3 : goal.overflow_add-result-3
overflow_add-result-3 g c =
    let s =
    walked g.P.Suite.suite.hash c.args.copy _ _ _ _ c.args.target _ _ _ _ c.if-target-copy.false
    c.pass-a.ensures.copy c.pass-a.ensures.hashes c.pass-b.ensures.copy c.pass-b.ensures.hashes
    c.pass-c.ensures.copy c.pass-c.ensures.hashes c.pass-d.ensures.copy c.pass-d.ensures.hashes in
    omega (arith, s.1, cost_le c.args.copy.index c.args.target c.if-target-copy.false c.ranges.target.fits)

pub returns : goal.returns
returns g c =
    let s =
    walked g.P.Suite.suite.hash c.args.copy _ _ _ _ c.args.target _ _ _ _ c.if-target-copy.false
    c.pass-a.ensures.copy c.pass-a.ensures.hashes c.pass-b.ensures.copy c.pass-b.ensures.hashes
    c.pass-c.ensures.copy c.pass-c.ensures.hashes c.pass-d.ensures.copy c.pass-d.ensures.hashes in
    (λ i. Ok (record { copy = s.0 i; hashes = s.1 i })) ∙ sym (cond-true _ _ _ (le-leb _ _ c.if-target-copy.false))
