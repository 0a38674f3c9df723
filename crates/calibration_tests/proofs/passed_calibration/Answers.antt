-- By the tests in turn: the numbers, the float, the ranges; each refusal is the first that applies.
use Rattle.std.specs.Prelude.{◌≡◌, true, ◌&&◌, Ok, Err}
use Rattle.std.proofs.Common.{sym, ap, ap₂, ◌∙◌, rules, w64, to_z, of_z}
use Rattle.std.specs.Bool.{then_some}
use Rattle.std.proofs.Math.Bool.{and-false}
use Rattle.std.proofs.lemmas.Result.{err_from_is_err_and}
use Rattle.package.specs.Given.{CalibrationReading, calibration_with, calibration_by}
use Rattle.rules.specs.Stores.{probe_number}
use Rattle.rules.specs.Calibration.{calibration_numbers, calibration_positions, calibration_limits, calibration_at, good_calibration}
use Rattle.calibration_tests.proofs.Laws.{numbers_tested, not_given, given, by_numbers, by_float, by_ranges, by_none, passed}
use Rattle.calibration_tests.proofs.passed_calibration.Goals as goal
use Rattle.calibration_tests.proofs.passed_calibration.Goals.{After-position, After-limits_ok}
use Rattle.calibration_tests.proofs.passed_calibration.Given.{Over}

pub returns-in_err-way-clause-refusal : goal.returns-in_err-way-clause-refusal
returns-in_err-way-clause-refusal g c =
    let a = c.args.a in
    let axis : to_z w64 (of_z w64 a.axis) ≡ a.axis = search rules in
    let direction : to_z w64 (of_z w64 a.direction) ≡ a.direction = search rules in
    let t = calibration_by g.T.Raw.reading a in
    let p = err_from_is_err_and c.from_residual.result c.from_residual.ensures.1 in
    let no_way = rw (axis, direction) at c.in_err-way.ensures in
    rw (p.1, p.2, no_way.0) (by_numbers t (numbers_tested (calibration_at t) (Err c.in_err-way.field-0.0) no_way ∙ and-false (probe_number a.probe)))

-- numbers that passed, and the position that is read
module _ (g : Over) (c : After-position g) where
  abbrev t : CalibrationReading
  t = calibration_by g.T.Raw.reading c.args.a

  numbers : calibration_numbers (calibration_at t) ≡ true
  numbers =
      let axis : to_z w64 (of_z w64 c.args.a.axis) ≡ c.args.a.axis = search rules in
      let direction : to_z w64 (of_z w64 c.args.a.direction) ≡ c.args.a.direction = search rules in
      let probe : to_z w64 (of_z w64 c.args.a.probe) ≡ c.args.a.probe = search rules in
      let in_range = rw (probe, c.if-not-in_range.false) at c.in_range.ensures in
      numbers_tested (calibration_at t) (Ok c.in_ok-way.way) (rw (axis, direction) at c.in_ok-way.ensures) ∙ rw (sym in_range)

  position : c.position.result ≡ then_some (good_calibration t) (calibration_at t).raw
  position = let axis : to_z w64 (of_z w64 c.args.a.axis) ≡ c.args.a.axis = search rules in rw axis at c.position.ensures

pub returns-in_err-raw-clause-refusal : goal.returns-in_err-raw-clause-refusal
returns-in_err-raw-clause-refusal g c =
    let s = (goal.at.returns-in_err-raw-clause-refusal g c).After-position in
    let p = err_from_is_err_and c.from_residual-in_err-raw.result c.from_residual-in_err-raw.ensures.1 in
    let bad = not_given (good_calibration (t g s)) (calibration_at (t g s)).raw (position g s) c.in_err-raw.ensures.value in
    rw (p.1, p.2, bad.1) (by_float (t g s) (numbers g s) bad.0)

-- what is given, with its position
module _ (g : Over) (c : After-limits_ok g) where
  abbrev s : After-position g
  s = (goal.at.After-limits_ok g c).After-position

  good : (good_calibration (t g s) ≡ true) × (c.in_ok-raw.raw ≡ (calibration_at (t g s)).raw)
  good = given (good_calibration (t g s)) (calibration_at (t g s)).raw (position g s) c.in_ok-raw.ensures.ok_part

  given_is : c.with_raw-given.result ≡ calibration_at (t g s)
  given_is =
      let raw : to_z w64 (of_z w64 c.in_ok-raw.raw) ≡ c.in_ok-raw.raw = search rules in
      c.with_raw-given.ensures ∙ ap (calibration_with c.args.a) (raw ∙ good.1)

  tested : c.positions_ok.result && c.limits_ok.result ≡ calibration_positions (calibration_at (t g s)) && calibration_limits (calibration_at (t g s))
  tested = ap₂ ◌&&◌ (c.positions_ok.ensures ∙ ap calibration_positions given_is) (c.limits_ok.ensures ∙ ap calibration_limits given_is)

pub returns-then-not-positions_ok-limits_ok-clause-refusal : goal.returns-then-not-positions_ok-limits_ok-clause-refusal
returns-then-not-positions_ok-limits_ok-clause-refusal g c =
    let p = goal.at.returns-then-not-positions_ok-limits_ok-clause-refusal g c in
    let l = p.After-limits_ok in
    by_ranges (t g (s g l)) (numbers g (s g l)) (good g l).0 (sym (tested g l) ∙ c.if-not-positions_ok-limits_ok.true)

pub returns-clause-refusal : goal.returns-clause-refusal
returns-clause-refusal g c =
    let l = (goal.at.returns-clause-refusal g c).After-limits_ok in
    by_none (t g (s g l)) (numbers g (s g l)) (good g l).0 (sym (tested g l) ∙ c.if-not-positions_ok-limits_ok.false)

pub returns-clause-given : goal.returns-clause-given
returns-clause-given g c = given_is g (goal.at.returns-clause-given g c).After-limits_ok

pub invariant_of-result : goal.invariant_of-result
invariant_of-result g c =
    let l = (goal.at.invariant_of-result g c).After-limits_ok in
    let axis : to_z w64 (of_z w64 c.args.a.axis) ≡ c.args.a.axis = search rules in
    let direction : to_z w64 (of_z w64 c.args.a.direction) ≡ c.args.a.direction = search rules in
    let way = rw (axis, direction) at c.in_ok-way.ensures in
    record {
      passed = rw (given_is g l) (passed (t g (s g l)) (numbers g (s g l)) (good g l).0 (sym (tested g l) ∙ c.if-not-positions_ok-limits_ok.false));
      axis = rw (given_is g l) way.0;
      direction = rw (given_is g l) way.1;
    }
