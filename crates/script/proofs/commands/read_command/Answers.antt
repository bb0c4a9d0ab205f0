use Rattle.std.proofs.Common.{◌≢◌, rules}
use Rattle.script.specs.declared.commands.Command.{Command}
use Rattle.script.specs.Commands.{command_line}
use Rattle.script.proofs.Beginnings.{no_verb}
use Rattle.script.proofs.commands.read_command.Goals as goal

pub returns-in_err-try_from-in-Some : goal.returns-in_err-try_from-in-Some
returns-in_err-try_from-in-Some c =
    let none : (d : Command) → c.args.line.now ≢ command_line d = no_verb c.args.line.now c.in-Some.word.now (search rules) c.in_err-try_from-in-Some.ensures in
    search rules

pub returns-in_err-try_from-in-None : goal.returns-in_err-try_from-in-None
returns-in_err-try_from-in-None c =
    let none : (d : Command) → c.args.line.now ≢ command_line d = no_verb c.args.line.now c.args.line.now (search rules) c.in_err-try_from-in-None.ensures in
    search rules
