-- The definitions that compute a call's answer, under one name: `unfolding computed` lets a proof run a list of calls with given numbers.
use Rattle.signed.specs.Ranges.{nearest_in}
use Rattle.signed.specs.Rounding.{halves_up, symmetric, rounded_quotient}
use Rattle.rules.specs.Probes.{place_of, trigger_of, calibrated_in}
use Rattle.rules.specs.Calibration.{new_trigger, change, calibration_arguments_with, calibration_records, trigger_left, status_left, calibrated_probe}
use Rattle.rules.specs.Sizes.{surface, pair_of, measured, sizes_of, numbers_ok, positions_ok, calibrated_ok, pairs_ok}
use Rattle.rules.specs.Mean.{mean_rounding, mean_change, mean_step}
use Rattle.rules.specs.Tool.{limits_ok, deviation, branch_of, decided, decision, wear_left, wears_left, tool_arguments_with, tool_tests}
use Rattle.rules.specs.Calls.{refusal, step}

unfoldable pub computed : Unit {0}
unfolding step refusal nearest_in place_of trigger_of calibrated_in new_trigger change calibration_arguments_with calibration_records trigger_left status_left
    calibrated_probe surface pair_of measured sizes_of numbers_ok positions_ok calibrated_ok pairs_ok limits_ok tool_arguments_with tool_tests deviation decided decision
    branch_of wear_left wears_left mean_step mean_change mean_rounding rounded_quotient symmetric halves_up
computed = tt
