use Rattle.std.proofs.Common.{vec_items, ap, ◌∙◌}
use Rattle.script.specs.declared.fault.LineFault.TheVariants.{BadLine}
use Rattle.copy_bytes.specs.CopyBytes.{read_id}
use Rattle.script.proofs.Ids.{written_id}
use Rattle.script.proofs.commands.read_name.Goals as goal

pub returns : goal.returns
returns c =
    let bs = vec_items c.in_ok-bytes.bytes in
    written_id c.args.word.now bs c.read_id.result c.map_err.result _ BadLine c.in_ok-bytes.ensures (c.read_id.ensures ∙ ap read_id c.deref.ensures.value) c.map_err.ensures.cases
