-- How large the refusal of a call and what it comes to are: one digit each, but for the deviation and the correction.
use Rattle.std.specs.Prelude.{Bool, true, false, cond, ℕ, ◌≤◌, eqb, ℤ}
use Rattle.std.proofs.Common.{arith}
use Rattle.std.specs.Int.Signed.{lt_z}
use Rattle.package.specs.declared.arguments.Limits.{Limits}
use Rattle.package.specs.declared.found.Branch.{Branch}
use Rattle.package.specs.declared.found.Branch.TheVariants.{One, Two, Three, Four, Five}
use Rattle.package.specs.declared.found.Evaluation.{Evaluation}
use Rattle.rules.specs.Stores.{Package}
use Rattle.rules.specs.Refusals.{greatest_refusal}
use Rattle.rules.specs.RefusalLaws.{Limited, first_small}
use Rattle.rules.specs.Calibration.{calibration_arguments_with, calibration_records}
use Rattle.rules.specs.Tool.{verdict, decision, tool_arguments_with, deviation, tool_at}
use Rattle.package.specs.Numbers.{branch_number}
use Rattle.rules.specs.Zero.{zero_arguments_with}
use Rattle.rules.specs.Results.{no_evaluation, evaluated_by}
use Rattle.rules.specs.Calls.{Call, set_empirical, set_wear, set_offset, calibrate_reading, read_status, measure_tool_readings, measure_zero_readings, load, save, meaning, tool_read, rules, refusal, evaluation}

limited : (p : Package) (c : Call) → Limited (rules p c)
unfolding calibration_arguments_with calibration_records tool_arguments_with zero_arguments_with
limited p (set_empirical ev value) = tt
limited p (set_wear tool radius length) = tt
limited p (set_offset offset v1 v2 v3) = tt
limited p (calibrate_reading t) = tt
limited p (read_status probe) = tt
limited p (measure_tool_readings t array place) = tt
limited p (measure_zero_readings t array place) = tt
limited p (load bytes) = tt
limited p (save buffer) = tt

pub refusal_small : (p : Package) (c : Call) → refusal p c ≤ greatest_refusal
unfolding refusal
refusal_small p c = first_small (rules p c) (limited p c)

pub branch_small : (b : Branch) → branch_number b ≤ 6
branch_small One = omega arith
branch_small Two = omega arith
branch_small Three = omega arith
branch_small Four = omega arith
branch_small Five = omega arith

pub verdict_small : (l : Limits) (d : ℤ) → verdict l d ≤ 2
unfolding verdict
verdict_small l d = go (lt_z l.tul d) (lt_z d l.tll)
  where
    go : (a b : Bool) → cond a 1 (cond b 2 0) ≤ 2
    go true b = omega arith
    go false true = omega arith
    go false false = omega arith

pub record EvaluationSmall (e : Evaluation) : Type 0 where
  pub branch : e.branch ≤ 6
  pub verdict : e.verdict ≤ 2

by_refusal : (n : ℕ) (e : Evaluation) → EvaluationSmall e → EvaluationSmall (evaluated_by n e)
by_refusal n e h = go (eqb n 0)
  where
    go : (b : Bool) → EvaluationSmall (cond b e no_evaluation)
    go true = h
    go false = record { branch = omega arith; verdict = omega arith }

pub evaluation_small : (p : Package) (c : Call) → EvaluationSmall (evaluation p c)
unfolding evaluation
evaluation_small p c = by_refusal (refusal p c) ((meaning c).evaluation ((meaning c).read p)) (of p c)
  where
    of : (p : Package) (c : Call) → EvaluationSmall ((meaning c).evaluation ((meaning c).read p))
    of p (set_empirical ev value) = record { branch = omega arith; verdict = omega arith }
    of p (set_wear tool radius length) = record { branch = omega arith; verdict = omega arith }
    of p (set_offset offset v1 v2 v3) = record { branch = omega arith; verdict = omega arith }
    of p (calibrate_reading t) = record { branch = omega arith; verdict = omega arith }
    of p (read_status probe) = record { branch = omega arith; verdict = omega arith }
    of p (measure_tool_readings t array place) =
        let a = tool_at t in
        record { branch = branch_small (decision (tool_read p a) a).branch; verdict = verdict_small a.limits (deviation (tool_read p a) a) }
    of p (measure_zero_readings t array place) = record { branch = omega arith; verdict = omega arith }
    of p (load bytes) = record { branch = omega arith; verdict = omega arith }
    of p (save buffer) = record { branch = omega arith; verdict = omega arith }
