use Rattle.std.proofs.Common.{◌≡◌, ◌≢◌, codes, rules}
use Rattle.script.specs.declared.fault.LineFault.TheVariants.{BadLine}
use Rattle.script.specs.declared.commands.Command.{Command}
use Rattle.script.specs.Commands.{spaced, command_line, Lawful}
use Rattle.script.proofs.Beginnings.{no_archive}
use Rattle.script.proofs.commands.read_with.Goals as goal

pub returns-in_err-read_archive-in-Archive : goal.returns-in_err-read_archive-in-Archive
returns-in_err-read_archive-in-Archive c =
    let none : c.in_err-read_archive-in-Archive.field-0.0 ≡ BadLine → (d : Command) → Lawful d → spaced (codes "archive") c.args.rest.now ≢ command_line d = λ is.
    no_archive c.args.rest.now (c.in_err-read_archive-in-Archive.ensures is) in
    search rules
