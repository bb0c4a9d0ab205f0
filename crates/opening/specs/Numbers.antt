-- The numbers of refusals.
use Rattle.std.specs.Prelude.{ℕ}
use Rattle.opening.specs.declared.unseal.OpenRefusal.{OpenRefusal}
use Rattle.opening.specs.declared.unseal.OpenRefusal.TheVariants.{Start, Index, Cipher, Length, Absent, Disputed, Early, Tag, Text, TooSmall}

abbrev pub open_number : OpenRefusal → ℕ
open_number Start = 7
open_number Index = 8
open_number Cipher = 9
open_number Length = 10
open_number Absent = 11
open_number Disputed = 12
open_number Early = 13
open_number Tag = 14
open_number Text = 15
open_number TooSmall = 16
