-- What a line of a script does, by what the calls of a server say and leave.
use Rattle.std.specs.Prelude.{◌≡◌, ◌^◌, ◌≢◌, ℕ, Bool, true, List, [], ◌∷◌, ◌++◌, Some, None, Option, IsSomeAnd, codes, decimal, ◌==◌, length, ◌⊎◌}
use Rattle.store.specs.Meaning.{Meaning}
use Rattle.script.specs.declared.commands.Call.{Call as AnyCall}
use Rattle.script.specs.declared.commands.Command.{Command}
use Rattle.script.specs.declared.commands.Command.TheVariants.{Archive, Space, Call}
use Rattle.script.specs.declared.commands.Plan.{Plan}
use Rattle.script.specs.Commands.{call_line, command_line, LawfulCall, Lawful}
use Rattle.console.specs.declared.desk.Desk.{Desk}
use Rattle.console.specs.Lines.{Adds, offered, KeepsRest}

-- empty lines and comments
abbrev pub silent : List ℕ → Bool
silent [] = true
silent (b ∷ bs) = b == 35

abbrev pub ended : List ℕ → List ℕ
ended line = line ++ (10 ∷ [])

-- the free places and the floor of a new archive
abbrev pub archive_line : {K V : Type 0} → Meaning K V → List ℕ
archive_line m = codes "archive " ++ (decimal m.places ++ (32 ∷ decimal m.floor))

-- what calls are offered at most, and at first
abbrev pub most_space : ℕ
most_space = 2 ^ 20

abbrev pub space_line : ℕ → List ℕ
space_line n = codes "space " ++ decimal n

abbrev pub bad_line : ℕ → List ℕ
bad_line number = codes "bad line " ++ decimal number

-- the line of no lawful command, or of a call for which the server says nothing
abbrev pub Bad : {S : Type 0} → (S → List ℕ → AnyCall → Option (List ℕ)) → List ℕ → S → Desk → Type 0
Bad says line s d =
    ((c : Command) → Lawful c → line ≢ command_line c)
    ⊎ ((c : AnyCall) × (line ≡ call_line c) × LawfulCall c × (says s (offered d) c ≡ None))

module _ {S : Type 0} (says : S → List ℕ → AnyCall → Option (List ℕ)) (leaves : S → List ℕ → AnyCall → S → List ℕ → Type 0) where
  -- an archive is asked for, the space is set, or a call is served
  abbrev pub Done : Command → S → Desk → Option Plan → S → Desk → Type 0
  Done (Archive p) s d plan t e = (plan ≡ Some p) × (t ≡ s) × (e ≡ d)
  Done (Space n) s d plan t e = (plan ≡ None) × (t ≡ s) × (length (offered e) ≡ n) × Adds d (ended (space_line n)) e
  Done (Call c) s d plan t e = (plan ≡ None) × leaves s (offered d) c t (offered e) × IsSomeAnd (says s (offered d) c) (λ line. Adds d (ended line) e) × KeepsRest d e

  -- a line is done as a lawful command that is written so, or is bad and called so
  abbrev pub Answered : List ℕ → ℕ → S → Desk → Option Plan → S → Desk → Type 0
  Answered line number s d plan t e =
      ((c : Command) × (line ≡ command_line c) × Lawful c × Done c s d plan t e)
      ⊎ (Bad says line s d × (plan ≡ None) × (t ≡ s) × (e.output ≡ d.output) × (e.space ≡ d.space) × Adds d (ended (bad_line number)) e)
