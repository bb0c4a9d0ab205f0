use Rattle.script.proofs.Cuts.{cut_at, uncut}
use Rattle.script.proofs.words.split_once.Goals as goal

pub returns-in_err-n-clause-cut : goal.returns-in_err-n-clause-cut
returns-in_err-n-clause-cut c = rw c.from_residual.ensures (uncut c.args.separator c.args.bytes.now c.in_err-n.ensures).0

pub returns-in_err-n-clause-whole : goal.returns-in_err-n-clause-whole
returns-in_err-n-clause-whole c = rw c.from_residual.ensures (uncut c.args.separator c.args.bytes.now c.in_err-n.ensures).1

pub returns-clause-cut : goal.returns-clause-cut
returns-clause-cut c =
    let first = c.in_ok-n.ensures in
    cut_at c.args.separator c.in_ok-n.n c.args.bytes.now first.0 first.2 first.1
