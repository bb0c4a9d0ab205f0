use Rattle.std.proofs.Common.{◌≡◌, ℕ, List, ◌++◌}
use Rattle.std.specs.Fmt.{HasWritten, IsPlainFormatter}
use Rattle.script.specs.Words.{hex}
use Rattle.console.proofs.answers.write_pairs.Given as goal

-- the pieces so far are written in hex
abbrev pub invariant-loop-piece : goal.invariant-loop-piece
invariant-loop-piece g l =
    (l.piece-iterator.size ≡ 64)
    × (IsPlainFormatter l.initial.f → (done : List ℕ) × (l.bytes ≡ done ++ l.piece-iterator.rest.now) × HasWritten g.W.Write.write_str_gives l.initial.f (hex done) l.f)
