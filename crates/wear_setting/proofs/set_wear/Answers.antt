-- A refusal is the first that applies; where none does, the area holds both wears as they are.
use Rattle.std.proofs.Common.{◌≡◌, refl, arith, sym, to_z-of_z}
use Rattle.std.proofs.lemmas.Grind.{common_steps}
use Rattle.signed.specs.RangeLaws.{or_zero}
use Rattle.rules.specs.Refusals.{first}
use Rattle.rules.specs.Settings.{wear_rules}
use Rattle.rules.specs.Passed.{wears_passed}
use Rattle.rules.specs.Calls.{set_wear}
use Rattle.area.specs.CalledLaws.{call_refused_by, call_done}
use Rattle.wear_setting.proofs.set_wear.Goals as goal

pub returns-in_err-wears : goal.returns-in_err-wears
returns-in_err-wears c =
    let s = c.args in
    call_refused_by s.area.now (set_wear s.tool s.radius s.length) c.in-Some.ensures.cases.long {e = c.in_err-wears.field-0.0} (grind (arith, common_steps))
    (rw (to_z-of_z c.ranges.tool, to_z-of_z c.ranges.radius, to_z-of_z c.ranges.length) at c.in_err-wears.ensures.number) c.in-Some.ensures.cases.same

pub put_record-requires-clause-n_value : goal.put_record-requires-clause-n_value
put_record-requires-clause-n_value c =
    let s = c.args in
    let none : first (wear_rules s.tool s.radius s.length) ≡ 0 =
    sym (rw (to_z-of_z c.ranges.tool, to_z-of_z c.ranges.radius, to_z-of_z c.ranges.length) at c.in_ok-wears.ensures.number) in
    rw (to_z-of_z c.ranges.tool) (or_zero 32 s.tool (wears_passed s.tool s.radius s.length none).number)

pub returns : goal.returns
returns c =
    let s = c.args in
    let none : first (wear_rules s.tool s.radius s.length) ≡ 0 =
    sym (rw (to_z-of_z c.ranges.tool, to_z-of_z c.ranges.radius, to_z-of_z c.ranges.length) at c.in_ok-wears.ensures.number) in
    call_done s.area.now (set_wear s.tool s.radius s.length) c.in-Some.ensures.cases.long none refl
    (rw (c.in-Some.ensures.cases.same, to_z-of_z c.ranges.tool, c.in_ok-wears.ensures.kept, to_z-of_z c.ranges.radius, to_z-of_z c.ranges.length) at
    c.put_record.ensures)
