-- The refusals and their numbers, 1 to 14, as document 01's table has them.
use Rattle.std.specs.Prelude.{ℕ}
use Rattle.rules.specs.declared.refusal.Refusal.{Refusal}
use Rattle.rules.specs.declared.refusal.Refusal.TheVariants.{CanId, NoBytes, FrameTooLong, ReservedBit, NoSession, Residue, StoreTooSmall, ExtentTooLarge, Mtu, PayloadTooLong, AnonymousTooLong, Field, NoPlace, CapacityTooLarge}

abbrev pub number_of : Refusal → ℕ
number_of CanId = 1
number_of NoBytes = 2
number_of FrameTooLong = 3
number_of ReservedBit = 4
number_of NoSession = 5
number_of Residue = 6
number_of StoreTooSmall = 7
number_of ExtentTooLarge = 8
number_of Mtu = 9
number_of PayloadTooLong = 10
number_of AnonymousTooLong = 11
number_of Field = 12
number_of NoPlace = 13
number_of CapacityTooLarge = 14
