-- The numbers of refusals.
use Rattle.std.specs.Prelude.{ℕ}
use Rattle.sending.specs.declared.sender.SealRefusal.{SealRefusal}
use Rattle.sending.specs.declared.sender.SealRefusal.TheVariants.{TooSmall as SealSpace, TextTooLong, Spent}
use Rattle.sending.specs.declared.sender.ShareRefusal.{ShareRefusal}
use Rattle.sending.specs.declared.sender.ShareRefusal.TheVariants.{TooSmall as ShareSpace, Ahead}

abbrev pub seal_number : SealRefusal → ℕ
seal_number SealSpace = 16
seal_number TextTooLong = 18
seal_number Spent = 19

abbrev pub share_number : ShareRefusal → ℕ
share_number ShareSpace = 16
share_number Ahead = 20
