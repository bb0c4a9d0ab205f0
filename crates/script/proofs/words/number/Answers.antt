use Rattle.std.proofs.Common.{rules}
use Rattle.script.specs.Words.{IsPlain}
use Rattle.script.proofs.Numbers.{not_plain, not_text, parsed_text}
use Rattle.script.proofs.words.number.Goals as goal

pub returns-then-not-is_plain : goal.returns-then-not-is_plain
returns-then-not-is_plain c = let h : IsPlain c.args.word.now → ⊥ = search rules in not_plain c.args.word.now h

pub returns-in_err-ok : goal.returns-in_err-ok
returns-in_err-ok c = rw c.from_residual.ensures (not_text c.args.word.now (search rules))

pub returns : goal.returns
returns c =
    let plain : IsPlain c.args.word.now = search rules in
    rw c.ok-2.ensures.value (parsed_text c.args.word.now c.in_ok-ok.field-0.now c.parse.result (search rules) plain c.parse.ensures.value.0)
