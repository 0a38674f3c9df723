-- The third axis alone is outside its range.
use Rattle.std.proofs.Common.{◌≡◌, true, false, arith, rules, to_z-of_z}
use Rattle.std.proofs.lemmas.Grind.{common_steps}
use Rattle.package.specs.Refusals.{refusal_in}
use Rattle.rules.specs.Stores.{offset_range}
use Rattle.records.proofs.passed_offset.Goals as goal

pub returns-in_err-passed_axis-3-clause-number : goal.returns-in_err-passed_axis-3-clause-number
returns-in_err-passed_axis-3-clause-number c =
    let refused : refusal_in c.from_residual-in_err-passed_axis-3.result ≡ 3 = grind (arith, common_steps) in
    let first_in : offset_range c.args.v1 ≡ true = rw (to_z-of_z c.ranges.v1) at c.in_ok-passed_axis.ensures.1 in
    let second_in : offset_range c.args.v2 ≡ true = rw (to_z-of_z c.ranges.v2) at c.in_ok-passed_axis-2.ensures.1 in
    let third_out : offset_range c.args.v3 ≡ false = rw (to_z-of_z c.ranges.v3) at c.in_err-passed_axis-3.ensures.1 in
    rw (refused, first_in, second_in, third_out) (search rules)
