-- What a single step and an advance answer.
use Rattle.std.specs.Prelude.{ℕ, ◌-◌, ◌^◌, cond, Some, None, Ok, Err, Option, Result, ◌==◌, nat_le}
use Rattle.ratchet.specs.declared.copies.SessionCopy.{SessionCopy}
use Rattle.ratchet.specs.declared.copies.Advanced.{Advanced}
use Rattle.ratchet.specs.declared.copies.Level.{Level}
use Rattle.ratchet.specs.declared.copies.AdvanceRefusal.{AdvanceRefusal}
use Rattle.ratchet.specs.declared.copies.AdvanceRefusal.TheVariants.{TargetBelow}
use Rattle.ratchet.specs.Ratchet.{step, steps}
use Rattle.ratchet.specs.Cost.{cost}

-- there is no step from the last index
abbrev pub stepped : {P : Type 0} → (Level → P → P) → SessionCopy P → Option (SessionCopy P)
stepped H c = cond (c.index == 2 ^ 32 - 1) None (Some (step H c))

-- the copy that single steps reach and its hashes; refused if the target lies below
abbrev pub advanced : {P : Type 0} → (Level → P → P) → SessionCopy P → ℕ → Result (Advanced P) AdvanceRefusal
advanced H c t = cond (nat_le c.index t) (Ok (record { copy = steps H (t - c.index) c; hashes = cost c.index t })) (Err TargetBelow)
