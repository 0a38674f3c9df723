-- The sign is at most 1 in size and the positions are in range, so that difference and product are exact in 64 bits.
use Rattle.std.specs.Prelude.{◌≡◌}
use Rattle.std.proofs.Common.{ap, ◌∙◌}
use Rattle.signed.specs.Expressions.{Runs, run}
use Rattle.rules.specs.Probes.{sign}
use Rattle.rules.specs.Calibration.{new_trigger}
use Rattle.rules.specs.ProbeLaws.{sign_size}
use Rattle.calibration.specs.CalibratedLaws.{arguments}
use Rattle.calibration.proofs.Laws.{trigger}
use Rattle.calibration.proofs.new_trigger.Goals as goal
use Rattle.calibration.proofs.new_trigger.Goals.{After-sign_in}

module _ (c : After-sign_in) where
  sign_is : c.sign_in.result ≡ sign c.args.p.given.direction
  sign_is = c.sign_in.ensures ∙ ap sign c.args.p.direction

  runs : Runs (trigger c.args.p.given (arguments c.args.p.given c.args.p.passed).positions c.sign_in.result (rw sign_is (sign_size c.args.p.given.direction)))
  runs = run (trigger c.args.p.given (arguments c.args.p.given c.args.p.passed).positions c.sign_in.result (rw sign_is (sign_size c.args.p.given.direction))) tt (search)

pub overflow_sub-result : goal.overflow_sub-result
overflow_sub-result c = search (runs (goal.at.overflow_sub-result c).After-sign_in).asks

pub overflow_mul-result : goal.overflow_mul-result
overflow_mul-result c = search (runs (goal.at.overflow_mul-result c).After-sign_in).asks

pub returns : goal.returns
unfolding new_trigger
returns c = let s = (goal.at.returns c).After-sign_in in (runs s).value ∙ rw (sign_is s)
