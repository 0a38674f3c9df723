-- By cases: a wrong area, arguments refused, or a calibration of what passed.
use Rattle.std.specs.Prelude.{List, ℤ, Err}
use Rattle.std.proofs.Common.{ap, ap₂, ◌∙◌}
use Rattle.std.proofs.lemmas.Result.{err_from_is_err_and}
use Rattle.package.specs.Given.{Calibration, calibration_by}
use Rattle.rules.specs.Calls.{calibrate, calibrate_reading}
use Rattle.area.specs.Called.{called}
use Rattle.area.specs.CalledLaws.{call_wrong}
use Rattle.calibrating.specs.CalibrateLaws.{given_refused, given_passed}
use Rattle.calibrating.proofs.calibrate.Goals as goal

pub returns-in_default : goal.returns-in_default
returns-in_default g c = call_wrong c.args.area.now (calibrate_reading (calibration_by g.T.Raw.reading c.args.a)) c.in_default.ensures.cases

pub returns-in_err-passed_calibration : goal.returns-in_err-passed_calibration
returns-in_err-passed_calibration g c =
    let r = err_from_is_err_and c.from_residual.result c.from_residual.ensures.1 in
    let e = c.in-Some.ensures.cases in
    given_refused c.args.area.now e.long (calibration_by g.T.Raw.reading c.args.a) c.in_err-passed_calibration.field-0.0
    c.in_err-passed_calibration.ensures.refusal (r.1 ∙ ap Err r.2) e.same

pub returns : goal.returns
returns g c =
    let p = c.in_ok-passed_calibration in
    c.calibrate_passed.ensures
    ∙ ap₂ (λ (area : List ℤ) (a : Calibration). called area (calibrate a)) c.in-Some.ensures.cases.same p.ensures.given
    ∙ given_passed c.args.area.now (calibration_by g.T.Raw.reading c.args.a) p.ensures.refusal
