-- The numbers of refusals.
use Rattle.std.specs.Prelude.{ℕ}
use Rattle.intake.specs.declared.take_refusal.TakeRefusal.{TakeRefusal}
use Rattle.intake.specs.declared.take_refusal.TakeRefusal.TheVariants.{Length, Version, NoPlace}

abbrev pub take_number : TakeRefusal → ℕ
take_number Length = 1
take_number Version = 2
take_number NoPlace = 3
