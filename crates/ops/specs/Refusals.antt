-- The number that 01 gives to each refusal of a file. Assumes nothing.
use Rattle.std.specs.Prelude.{ℕ}
use Rattle.ops.specs.declared.refusals.Fault.{Fault}
use Rattle.ops.specs.declared.refusals.Refusal.{Refusal}
use Rattle.ops.specs.declared.refusals.Refusal.TheVariants.{CutShort, WrongLength, UnknownKind, LeftOut, TooManyLanes, WrongNumber, TooManyOps, TooManyMarks, FileTooLong}

unfoldable pub number_of : Refusal → ℕ
number_of CutShort = 1
number_of WrongLength = 2
number_of UnknownKind = 3
number_of LeftOut = 4
number_of TooManyLanes = 5
number_of WrongNumber = 6
number_of TooManyOps = 7
number_of TooManyMarks = 8
number_of FileTooLong = 9

abbrev pub fault : Refusal → ℕ → Fault
fault r p = record { refusal = r; place = p }
