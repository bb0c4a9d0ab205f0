use Rattle.std.proofs.Common.{rules, ◌≡◌, ◌∙◌}
use Rattle.std.proofs.Output.{has_written_of_eq}
use Rattle.hex.specs.Hex.{encode_lower}
use Rattle.console.proofs.Hexed.{encoded}
use Rattle.console.proofs.answers.write_few.Goals as goal

pub returns : goal.returns
returns g c = λ plain ok.
    let text : c.in_ok-map_err-2.field-0.now ≡ encode_lower c.args.bytes.now = search rules in
    has_written_of_eq _ _ _ _ _ (text ∙ encoded c.args.bytes.now c.type_inv.bytes) (c.write_str.ensures.writes plain ok)
