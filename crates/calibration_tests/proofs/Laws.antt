-- The first refusal of what a calibration is given, test by test.
use Rattle.std.specs.Prelude.{◌≡◌, Bool, true, false, ◌&&◌, ℕ, ℤ, Option, Some, Result, Err}
use Rattle.std.proofs.Math.Path.{refl}
use Rattle.std.proofs.Common.{ap, ◌∙◌}
use Rattle.std.specs.Bool.{then_some}
use Rattle.std.specs.Option.{ok_or}
use Rattle.std.specs.Result.{is_ok}
use Rattle.package.specs.Given.{Calibration, CalibrationReading}
use Rattle.package.specs.declared.refusals.Refusal.{Refusal}
use Rattle.package.specs.declared.refusals.Refusal.TheVariants.{BadFloat}
use Rattle.package.specs.declared.ways.Way.{Way}
use Rattle.package.specs.Ways.{WayNamed}
use Rattle.rules.specs.Refusals.{first}
use Rattle.rules.specs.Stores.{probe_number}
use Rattle.rules.specs.WayLaws.{way_tested}
use Rattle.rules.specs.Calibration.{calibration_numbers, calibration_positions, calibration_limits, calibration_arguments, calibration_arguments_with, calibration_at, good_calibration}

-- ---- the numbers
grouped : (p a d : Bool) → p && a && d ≡ p && (a && d)
grouped true a d = refl
grouped false a d = refl

pub numbers_tested : (a : Calibration) (r : Result Way Refusal) → WayNamed a.axis a.direction r → calibration_numbers a ≡ probe_number a.probe && is_ok r
numbers_tested a r named = grouped (probe_number a.probe) _ _ ∙ ap (λ (b : Bool). probe_number a.probe && b) (way_tested a.axis a.direction r named)

-- ---- the position
pub not_given : (good : Bool) (z : ℤ) {o : Option ℤ} {e : Refusal} → o ≡ then_some good z → Err e ≡ ok_or o BadFloat → (good ≡ false) × (e ≡ BadFloat)
not_given true z p q = (cc, cc)
not_given false z p q = (refl, cc)

pub given : (good : Bool) (z : ℤ) {o : Option ℤ} {x : ℤ} → o ≡ then_some good z → o ≡ Some x → (good ≡ true) × (x ≡ z)
given true z p q = (refl, cc)
given false z p q = (cc, cc)

-- ---- the refusal
module _ (t : CalibrationReading) where
  abbrev pub refused : ℕ
  refused = first (calibration_arguments_with (good_calibration t) (calibration_at t))

  pub by_numbers : calibration_numbers (calibration_at t) ≡ false → 2 ≡ refused
  unfolding calibration_arguments_with
  by_numbers e = rw e

  module _ (numbers : calibration_numbers (calibration_at t) ≡ true) where
    pub by_float : good_calibration t ≡ false → 13 ≡ refused
    unfolding calibration_arguments_with
    by_float e = rw (numbers, e)

    module _ (good : good_calibration t ≡ true) where
      pub by_ranges : calibration_positions (calibration_at t) && calibration_limits (calibration_at t) ≡ false → 3 ≡ refused
      unfolding calibration_arguments_with
      by_ranges e = rw (numbers, good, e)

      pub by_none : calibration_positions (calibration_at t) && calibration_limits (calibration_at t) ≡ true → 0 ≡ refused
      unfolding calibration_arguments_with
      by_none e = rw (numbers, good, e)

      pub passed : calibration_positions (calibration_at t) && calibration_limits (calibration_at t) ≡ true → first (calibration_arguments (calibration_at t)) ≡ 0
      unfolding calibration_arguments_with
      passed e = rw (numbers, e)
