-- The numbers of refusals.
use Rattle.std.specs.Prelude.{ℕ}
use Rattle.message.specs.declared.frame.FrameFault.{FrameFault}
use Rattle.message.specs.declared.frame.FrameFault.TheVariants.{Start, Index, Cipher, Length}

abbrev pub frame_number : FrameFault → ℕ
frame_number Start = 7
frame_number Index = 8
frame_number Cipher = 9
frame_number Length = 10
