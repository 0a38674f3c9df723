-- Every refusal has a number that is not 0.
use Rattle.std.specs.Prelude.{◌≡◌}
use Rattle.std.proofs.Common.{arith}
use Rattle.package.specs.declared.refusals.Refusal.{Refusal}
use Rattle.package.specs.declared.refusals.Refusal.TheVariants.{NoRoom, NoSuchNumber, OutsideRange, WrongLimits, Uncalibrated, NoWidth, BeyondTsa, BeyondTdif, LeavesRange, MalformedLine, EmptyJob, WrongJob, BadFloat, WrongArea, WrongArguments}
use Rattle.package.specs.Refusals.{number}

pub number_some : (r : Refusal) → number r ≡ 0 → ⊥
number_some NoRoom e = omega (arith, e)
number_some NoSuchNumber e = omega (arith, e)
number_some OutsideRange e = omega (arith, e)
number_some WrongLimits e = omega (arith, e)
number_some Uncalibrated e = omega (arith, e)
number_some NoWidth e = omega (arith, e)
number_some BeyondTsa e = omega (arith, e)
number_some BeyondTdif e = omega (arith, e)
number_some LeavesRange e = omega (arith, e)
number_some MalformedLine e = omega (arith, e)
number_some EmptyJob e = omega (arith, e)
number_some WrongJob e = omega (arith, e)
number_some BadFloat e = omega (arith, e)
number_some WrongArea e = omega (arith, e)
number_some WrongArguments e = omega (arith, e)
