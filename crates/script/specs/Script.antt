-- A script as its lines.
use Rattle.std.specs.Prelude.{◌≡◌, ℕ, suc, ◌+◌, ◌-◌, ◌^◌, ◌<◌, min, List, length, Some, None, Option, MatchOption, OnSome}
use Rattle.std.specs.Option.{option_map}
use Rattle.script.specs.declared.lines.Script.{Script}
use Rattle.script.specs.Words.{upto, behind}

-- what is left of a script, none once its last line was given out, and how many lines were given out
pub record Unread : Type 0 where
  pub rest : Option (List ℕ)
  pub lines : ℕ

-- a script seen so, wherever its bytes lie
abbrev pub unread : Script → Unread
unread s = record { rest = option_map (λ x. x.now) s.rest; lines = s.lines }

-- the first line of what is left of a script
abbrev pub first_line : Option (List ℕ) → Option (List ℕ)
first_line None = None
first_line (Some text) = Some (upto 10 text)

-- what is left behind that line
abbrev pub later_lines : Option (List ℕ) → Option (List ℕ)
later_lines None = None
later_lines (Some text) = behind 10 text

-- how much is left; it falls with each line
abbrev pub extent : Option (List ℕ) → ℕ
extent None = 0
extent (Some text) = suc (length text)

-- less is left
abbrev pub IsShorter : Unread → Unread → Type 0
IsShorter new old = extent new.rest < extent old.rest

-- the first line of what was left is given out and counted, and what stands behind it is left, which is less
pub record GivesLine (old : Unread) (line : Option (List ℕ)) (new : Unread) : Type 0 where
  pub line_is : line ≡ first_line old.rest
  pub rest_is : new.rest ≡ later_lines old.rest
  pub falls : OnSome line (IsShorter new old)
  pub counted : MatchOption line (new.lines ≡ old.lines) (λ _. new.lines ≡ min (old.lines + 1) (2 ^ 64 - 1))
