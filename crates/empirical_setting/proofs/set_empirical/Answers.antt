-- A refusal is the first that applies; where none does, the value is in its range, so that the area holds it as it is.
use Rattle.std.proofs.Common.{◌≡◌, refl, pos, arith, sym, to_z-of_z}
use Rattle.std.proofs.lemmas.Grind.{common_steps}
use mir.Syntax.{w32}
use Rattle.signed.specs.Ranges.{minus}
use Rattle.signed.specs.CodeLaws.{Cast, casts}
use Rattle.signed.specs.RangeLaws.{or_zero}
use Rattle.rules.specs.Refusals.{first}
use Rattle.rules.specs.Settings.{empirical_rules}
use Rattle.rules.specs.Passed.{empirical_passed}
use Rattle.rules.specs.Calls.{set_empirical}
use Rattle.area.specs.CalledLaws.{call_refused_by, call_done}
use Rattle.empirical_setting.proofs.set_empirical.Goals as goal

pub returns-in_err-stored : goal.returns-in_err-stored
returns-in_err-stored c =
    call_refused_by c.args.area.now (set_empirical c.args.ev c.args.value) c.in-Some.ensures.cases.long {e = c.in_err-stored.field-0.0}
    (grind (arith, common_steps)) (rw (to_z-of_z c.ranges.ev, to_z-of_z c.ranges.value) at c.in_err-stored.ensures.number) c.in-Some.ensures.cases.same

pub put_record-requires-clause-n_value : goal.put_record-requires-clause-n_value
put_record-requires-clause-n_value c =
    let none : first (empirical_rules c.args.ev c.args.value) ≡ 0 = sym (rw (to_z-of_z c.ranges.ev, to_z-of_z c.ranges.value) at c.in_ok-stored.ensures.number) in
    rw (to_z-of_z c.ranges.ev) (or_zero 20 c.args.ev (empirical_passed c.args.ev c.args.value none).number)

pub returns : goal.returns
returns c =
    let none : first (empirical_rules c.args.ev c.args.value) ≡ 0 = sym (rw (to_z-of_z c.ranges.ev, to_z-of_z c.ranges.value) at c.in_ok-stored.ensures.number) in
    let kept : Cast w32 c.args.value = casts w32 (minus 32768) (pos 32767) c.ranges.value tt tt (empirical_passed c.args.ev c.args.value none).value_in in
    call_done c.args.area.now (set_empirical c.args.ev c.args.value) c.in-Some.ensures.cases.long none refl
    (rw (c.in-Some.ensures.cases.same, to_z-of_z c.ranges.ev, c.in_ok-stored.ensures.kept, kept.value) at c.put_record.ensures)
