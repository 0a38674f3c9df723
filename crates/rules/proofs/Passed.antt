-- What is known of a calibration that no rule refuses, by name.
use Rattle.std.specs.Prelude.{◌≡◌, Bool, ◌&&◌, ◌∷◌, ℤ}
use Rattle.package.specs.Given.{Calibration}
use Rattle.rules.specs.Refusals.{◌unless◌, first}
use Rattle.rules.specs.Calibration.{calibration_numbers, calibration_positions, calibration_limits, calibration_arguments_with, calibration_records, calibration_rules_with}
use Rattle.rules.specs.Passed.{CalibrationPassed, calibration_passed, floats_good}

pub calibration_call_passed : (good : Bool) (stored : ℤ) (a : Calibration) → first (calibration_rules_with good stored a) ≡ 0 → CalibrationPassed stored a
unfolding calibration_arguments_with
calibration_call_passed good stored a e =
    calibration_passed stored a
    (floats_good (calibration_numbers a) good (3 unless (calibration_positions a && calibration_limits a) ∷ calibration_records stored a) e)
