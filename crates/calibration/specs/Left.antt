-- What a calibration leaves, with its refusal: where it is refused, the trigger and the status as they were.
use Rattle.std.specs.Prelude.{ℕ, ℤ, Result, Ok, Err}
use Rattle.package.specs.declared.refusals.Refusal.{Refusal}
use Rattle.package.specs.Refusals.{number}
use Rattle.calibration.specs.declared.Calibrated.{Calibrated}
use Rattle.rules.specs.Calibration as rules

abbrev pub left_by : ℤ → ℕ → Result Calibrated Refusal → rules.Calibrated
left_by trigger status (Ok c) = record { trigger = c.trigger; status = c.status; refusal = 0 }
left_by trigger status (Err r) = record { trigger = trigger; status = status; refusal = number r }
