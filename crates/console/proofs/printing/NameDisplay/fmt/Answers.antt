use Rattle.std.proofs.Common.{replicate, ap}
use Rattle.std.proofs.Output.{has_written_of_eq}
use Rattle.ratchet.specs.Ids.{id_bytes}
use Rattle.copy_bytes.proofs.Ids.{length_id}
use Rattle.script.specs.Words.{hex_word}
use Rattle.console.proofs.Hexed.{filled_whole}
use Rattle.console.proofs.printing.NameDisplay.fmt.Goals as goal

pub returns-clause-writes : goal.returns-clause-writes
returns-clause-writes g c = λ plain ok.
    let id = c.args.self.now.0 in
    has_written_of_eq _ _ _ _ _ (ap hex_word (filled_whole (id_bytes id) (replicate 32 0) _ (length_id id) c.write_id.ensures.after)) (c.fmt.ensures.writes plain ok)
