use Rattle.std.proofs.Common.{◌≤◌}
use Rattle.script.specs.Script.{unread, extent}
use Rattle.console.proofs.walk.Session.walk.Given as goal

abbrev pub invariant-loop-line : goal.invariant-loop-line
invariant-loop-line g l = extent (unread l.self.script).rest ≤ extent (unread l.initial.self.script).rest

abbrev pub decreases-loop-line : goal.decreases-loop-line
decreases-loop-line g l = extent (unread l.self.script).rest
