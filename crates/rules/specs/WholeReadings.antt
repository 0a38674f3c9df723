-- Request 2026-01: a call with readings whose used floats are good is the call with the positions that they give.
use Rattle.std.specs.Prelude.{◌≡◌, refl, Bool, true, false, ◌&&◌, ℕ, eqb, ℤ, pos}
use Rattle.std.proofs.Common.{sym, ◌∙◌, arith}
use Rattle.std.proofs.Math.Path.{ap}
use Rattle.std.proofs.Math.Bool.{cond}
use mathlib.Core.List.{List, ◌∷◌}
use Rattle.signed.specs.Ranges.{within}
use Rattle.package.specs.Given.{CalibrationReading, Raws, ToolReadings, ZeroReadings, tool_with, zero_with, calibration_with}
use Rattle.rules.specs.Refusals.{first}
use Rattle.rules.specs.Stores.{Package, probes, at}
use Rattle.rules.specs.Calibration.{calibration_numbers, calibration_positions, calibration_limits, calibration_arguments, calibration_arguments_with, calibration_rules_with, trigger_for, calibration_at, good_calibration}
use Rattle.rules.specs.Sizes.{positions_ok}
use Rattle.rules.specs.ReadingLaws.{by_numbers}
use Rattle.rules.specs.Measuring.{room}
use Rattle.rules.specs.Tool.{tool_numbers, tool_positions, limits_ok, tool_arguments, tool_arguments_with, tool_rules_with, tool_at, good_tool, whole_tool}
use Rattle.rules.specs.Zero.{zero_kind_of, zero_numbers, zero_arguments, zero_arguments_with, zero_rules_with, zero_at, good_zero, whole_zero}
use Rattle.rules.specs.Results.{evaluated_by, tool_results, zero_results}
use Rattle.rules.specs.Changes.{Change, made_all}
use Rattle.rules.specs.Calls.{Call, calibrate_reading, measure_tool_readings, measure_zero_readings, calibrate, measure_tool, measure_zero, meaning, tool_read, zero_read, rules, changes, reckoned, done, refusal, step, evaluation}
use Rattle.rules.specs.Answers.{array_after, tool_array, zero_array}

-- the same rules, changes, branch, verdict, OVR[16] and c, and the same for the exact reckoning, from every package
pub record SameCall (c d : Call) : Type 0 where
  pub rules_same : (p : Package) → rules p c ≡ rules p d
  pub changes_same : (p : Package) → changes p c ≡ changes p d
  pub evaluation_same : (p : Package) → (meaning c).evaluation ((meaning c).read p) ≡ (meaning d).evaluation ((meaning d).read p)
  pub reckoned_same : (p : Package) → reckoned p c ≡ reckoned p d

same : {c d : Call} → ((p : Package) → rules p c ≡ rules p d) → ((p : Package) → changes p c ≡ changes p d)
    → ((p : Package) → (meaning c).evaluation ((meaning c).read p) ≡ (meaning d).evaluation ((meaning d).read p))
    → ((p : Package) → reckoned p c ≡ reckoned p d) → SameCall c d
same r c e k = record { rules_same = r; changes_same = c; evaluation_same = e; reckoned_same = k }

-- so the same refusal, the same package after it, the same answer
module _ {c d : Call} (alike : SameCall c d) (p : Package) where
  pub same_refusal : refusal p c ≡ refusal p d
  unfolding refusal
  same_refusal = ap first (alike.rules_same p)

  pub same_step : step p c ≡ step p d
  unfolding step
  same_step =
      ap (λ n. cond (eqb n 0) (done p c) p) same_refusal
      ∙ ap (λ (cs : List Change). cond (eqb (refusal p d) 0) (made_all p cs) p) (alike.changes_same p)

  pub same_answer : evaluation p c ≡ evaluation p d
  unfolding evaluation
  same_answer =
      ap (λ n. evaluated_by n ((meaning c).evaluation ((meaning c).read p))) same_refusal
      ∙ ap (evaluated_by (refusal p d)) (alike.evaluation_same p)

-- ---- a measurement with tool offset
module _ (t : ToolReadings) (good : good_tool t ≡ true) where
  pub tool_whole : (array : List ℤ) (place : ℕ) → SameCall (measure_tool_readings t array place) (measure_tool (tool_at t) array place)
  tool_whole array place =
      same (λ p. ap (λ (b : Bool). room array place ∷ tool_rules_with b (tool_read p (tool_at t)) (tool_at t)) good) (λ p. refl) (λ p. refl) (λ p. refl)

  pub tool_array_whole : (p : Package) (array : List ℤ) (place : ℕ) → tool_array p t array place ≡ tool_array p (whole_tool (tool_at t)) array place
  unfolding tool_array
  tool_array_whole p array place = ap (λ (b : Bool). array_after array place (tool_results b (tool_read p (tool_at t)) (tool_at t))) good

-- ---- with zero offset
module _ (t : ZeroReadings) (good : good_zero t ≡ true) where
  pub zero_whole : (array : List ℤ) (place : ℕ) → SameCall (measure_zero_readings t array place) (measure_zero (zero_at t) array place)
  zero_whole array place =
      same (λ p. ap (λ (b : Bool). room array place ∷ zero_rules_with b (zero_read p (zero_at t)) (zero_at t)) good) (λ p. refl) (λ p. refl) (λ p. refl)

  pub zero_array_whole : (p : Package) (array : List ℤ) (place : ℕ) → zero_array p t array place ≡ zero_array p (whole_zero (zero_at t)) array place
  unfolding zero_array
  zero_array_whole p array place = ap (λ (b : Bool). array_after array place (zero_results b (zero_read p (zero_at t)) (zero_at t))) good

-- ---- a calibration
pub calibration_whole : (t : CalibrationReading) → good_calibration t ≡ true → SameCall (calibrate_reading t) (calibrate (calibration_at t))
calibration_whole t good =
    same (λ p. ap (λ (b : Bool). calibration_rules_with b (trigger_for (at p probes t.probe) (calibration_at t)) (calibration_at t)) good) (λ p. refl) (λ p. refl) (λ p. refl)

-- ---- where a used float is not good: 2 where it is 2 with any whole positions, else 13
later : (positions limits : Bool) → eqb (cond positions (cond limits 0 4) 3) 2 ≡ false
later true true = refl
later true false = refl
later false limits = refl

pub some_refusal : (n : ℕ) → ◌≡◌ {A = ℕ} (cond (eqb n 2) 2 13) 0 → ⊥
some_refusal n = go (eqb n 2)
  where
    go : (b : Bool) → ◌≡◌ {A = ℕ} (cond b 2 13) 0 → ⊥
    go true e = omega (arith, e)
    go false e = omega (arith, e)

pub tool_unread : (t : ToolReadings) (raws : Raws) → good_tool t ≡ false
    → cond (eqb (first (tool_arguments (tool_with t raws))) 2) 2 13 ≡ first (tool_arguments_with (good_tool t) (tool_at t))
unfolding tool_arguments_with
tool_unread t raws bad =
    by_numbers (tool_numbers (tool_at t)) (cond (tool_positions (tool_with t raws)) (cond (limits_ok t.limits) 0 4) 3)
    (later (tool_positions (tool_with t raws)) (limits_ok t.limits))
    ∙ ap (λ (b : Bool). first (tool_arguments_with b (tool_at t))) (sym bad)

pub zero_unread : (t : ZeroReadings) (raws : Raws) → good_zero t ≡ false
    → cond (eqb (first (zero_arguments (zero_with t raws))) 2) 2 13 ≡ first (zero_arguments_with (good_zero t) (zero_at t))
unfolding zero_arguments_with
zero_unread t raws bad =
    let positions = positions_ok (zero_kind_of (zero_at t)) t.probing raws in
    let tsa = within (pos 0) (pos 1000000) t.tsa in
    by_numbers (zero_numbers (zero_at t)) (cond positions (cond tsa 0 4) 3) (later positions tsa)
    ∙ ap (λ (b : Bool). first (zero_arguments_with b (zero_at t))) (sym bad)

pub calibration_unread : (t : CalibrationReading) (raw : ℤ) → good_calibration t ≡ false
    → cond (eqb (first (calibration_arguments (calibration_with t raw))) 2) 2 13 ≡ first (calibration_arguments_with (good_calibration t) (calibration_at t))
unfolding calibration_arguments_with
calibration_unread t raw bad =
    let given = calibration_positions (calibration_with t raw) && calibration_limits (calibration_at t) in
    by_numbers (calibration_numbers (calibration_at t)) (cond given (cond true 0 4) 3) (later given true)
    ∙ ap (λ (b : Bool). first (calibration_arguments_with b (calibration_at t))) (sym bad)
