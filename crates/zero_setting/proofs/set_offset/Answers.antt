-- A refusal is the first that applies; where none does, the area holds each axis as it is.
use Rattle.std.proofs.Common.{◌≡◌, refl, arith, sym, to_z-of_z}
use Rattle.std.proofs.lemmas.Grind.{common_steps}
use Rattle.signed.specs.RangeLaws.{or_zero}
use Rattle.rules.specs.Refusals.{first}
use Rattle.rules.specs.Settings.{offset_rules}
use Rattle.rules.specs.Passed.{offset_passed}
use Rattle.rules.specs.Calls.{set_offset}
use Rattle.area.specs.CalledLaws.{call_refused_by, call_done}
use Rattle.zero_setting.proofs.set_offset.Goals as goal

pub returns-in_err-axes : goal.returns-in_err-axes
returns-in_err-axes c =
    let s = c.args in
    call_refused_by s.area.now (set_offset s.offset s.v1 s.v2 s.v3) c.in-Some.ensures.cases.long {e = c.in_err-axes.field-0.0} (grind (arith, common_steps))
    (rw (to_z-of_z c.ranges.offset, to_z-of_z c.ranges.v1, to_z-of_z c.ranges.v2, to_z-of_z c.ranges.v3) at c.in_err-axes.ensures.number)
    c.in-Some.ensures.cases.same

pub put_record-requires-clause-n_value : goal.put_record-requires-clause-n_value
put_record-requires-clause-n_value c =
    let s = c.args in
    let none : first (offset_rules s.offset s.v1 s.v2 s.v3) ≡ 0 =
    sym (rw (to_z-of_z c.ranges.offset, to_z-of_z c.ranges.v1, to_z-of_z c.ranges.v2, to_z-of_z c.ranges.v3) at c.in_ok-axes.ensures.number) in
    rw (to_z-of_z c.ranges.offset) (or_zero 4 s.offset (offset_passed s.offset s.v1 s.v2 s.v3 none).number)

pub returns : goal.returns
returns c =
    let s = c.args in
    let none : first (offset_rules s.offset s.v1 s.v2 s.v3) ≡ 0 =
    sym (rw (to_z-of_z c.ranges.offset, to_z-of_z c.ranges.v1, to_z-of_z c.ranges.v2, to_z-of_z c.ranges.v3) at c.in_ok-axes.ensures.number) in
    call_done s.area.now (set_offset s.offset s.v1 s.v2 s.v3) c.in-Some.ensures.cases.long none refl
    (rw (
      c.in-Some.ensures.cases.same,
      to_z-of_z c.ranges.offset,
      c.in_ok-axes.ensures.kept,
      to_z-of_z c.ranges.v1,
      to_z-of_z c.ranges.v2,
      to_z-of_z c.ranges.v3,
    ) at c.put_record.ensures)
