-- The numbers of the refusals, and that of a call: "A call returns the first number that applies in the order given, 0 when done."
use Rattle.std.specs.Prelude.{ℕ, Result, Ok, Err}
use Rattle.package.specs.declared.refusals.Refusal.{Refusal}
use Rattle.package.specs.declared.refusals.Refusal.TheVariants.{NoRoom, NoSuchNumber, OutsideRange, WrongLimits, Uncalibrated, NoWidth, BeyondTsa, BeyondTdif, LeavesRange, MalformedLine, EmptyJob, WrongJob, BadFloat, WrongArea, WrongArguments}

abbrev pub number : Refusal → ℕ
number NoRoom = 1
number NoSuchNumber = 2
number OutsideRange = 3
number WrongLimits = 4
number Uncalibrated = 5
number NoWidth = 6
number BeyondTsa = 7
number BeyondTdif = 8
number LeavesRange = 9
number MalformedLine = 10
number EmptyJob = 11
number WrongJob = 12
number BadFloat = 13
number WrongArea = 100
number WrongArguments = 101

abbrev pub refusal_in : {A : Type 0} → Result A Refusal → ℕ
refusal_in (Ok x) = 0
refusal_in (Err r) = number r
