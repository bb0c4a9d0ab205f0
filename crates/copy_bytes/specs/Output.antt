-- What a call that fills an output answers, and what the output then holds.
use Rattle.std.specs.Prelude.{◌≡◌, ℕ, Bool, cond, List, length, Ok, Err, Result, nat_le}
use Rattle.ratchet.specs.Bytes.{laid}
use Rattle.copy_bytes.specs.declared.output.SpaceRefusal.{SpaceRefusal}
use Rattle.copy_bytes.specs.declared.output.SpaceRefusal.TheVariants.{TooSmall}

abbrev pub fits : List ℕ → List ℕ → Bool
fits xs out = nat_le (length xs) (length out)

-- the length of what was written
abbrev pub answered : List ℕ → List ℕ → Result ℕ SpaceRefusal
answered xs out = cond (fits xs out) (Ok (length xs)) (Err TooSmall)

-- what does not fit alters nothing
abbrev pub filled : List ℕ → List ℕ → List ℕ
filled xs out = cond (fits xs out) (laid xs out) out

-- a call fills an output with some bytes, or refuses
pub record Fills (xs old : List ℕ) (answer : Result ℕ SpaceRefusal) (new : List ℕ) : Type 0 where
  pub value : answer ≡ answered xs old
  pub after : new ≡ filled xs old
