-- The numbers of refusals.
use Rattle.std.specs.Prelude.{ℕ}
use Rattle.copy_bytes.specs.declared.named.CopyFault.{CopyFault}
use Rattle.copy_bytes.specs.declared.named.CopyFault.TheVariants.{Length, Version}
use Rattle.copy_bytes.specs.declared.output.SpaceRefusal.{SpaceRefusal}
use Rattle.copy_bytes.specs.declared.output.SpaceRefusal.TheVariants.{TooSmall}

abbrev pub copy_number : CopyFault → ℕ
copy_number Length = 1
copy_number Version = 2

abbrev pub space_number : SpaceRefusal → ℕ
space_number TooSmall = 16
