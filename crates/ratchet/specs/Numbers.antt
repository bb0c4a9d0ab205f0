-- The numbers of refusals.
use Rattle.std.specs.Prelude.{ℕ}
use Rattle.ratchet.specs.declared.copies.AdvanceRefusal.{AdvanceRefusal}
use Rattle.ratchet.specs.declared.copies.AdvanceRefusal.TheVariants.{TargetBelow}

abbrev pub advance_number : AdvanceRefusal → ℕ
advance_number TargetBelow = 21
