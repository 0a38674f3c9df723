-- Document 01, 'Units and stores' and the limits of 'Calibration' and 'Tolerance, mean, correction', in plain numbers: what a call that is done was given.
use Rattle.std.specs.Prelude.{◌≡◌, [], ◌∷◌, ℤ, pos}
use Rattle.std.proofs.Math.Bool.{and-eq-true_iff}
use Rattle.signed.specs.Ranges.{minus}
use Rattle.signed.specs.RangeLaws.{within_is}
use Rattle.package.specs.Given.{Calibration, ToolMeasurement, ZeroMeasurement}
use Rattle.package.specs.declared.found.ToolRecords.{ToolRecords}
use Rattle.package.specs.declared.found.ZeroRecords.{ZeroRecords}
use Rattle.rules.specs.Stores.{position_range}
use Rattle.rules.specs.Refusals.{first}
use Rattle.rules.specs.RefusalLaws.{rising_is}
use Rattle.rules.specs.Calibration.{calibration_rules}
use Rattle.rules.specs.Tool.{tool_kind_of, tool_rules}
use Rattle.rules.specs.Zero.{zero_kind_of, zero_rules}
use Rattle.rules.specs.Passed.{calibration_passed, tool_passed, zero_passed}
use Rattle.rules.specs.ArgumentRanges.{CalibrationGiven, positions_given, ToolGiven, ZeroGiven}

pub calibration_given : (stored : ℤ) (a : Calibration) → first (calibration_rules stored a) ≡ 0 → CalibrationGiven a
calibration_given stored a e =
    let t = (calibration_passed stored a e).arguments in
    let p = (and-eq-true_iff (position_range a.setpoint) (position_range a.raw)).0 t.positions in
    let c = rising_is (pos 0 ∷ a.tzl ∷ a.tsa ∷ pos 1000000 ∷ []) t.limits in
    record {
      probe = within_is (pos 1) (pos 3) a.probe t.probe;
      axis = within_is (pos 1) (pos 3) a.axis t.axis;
      direction = within_is (pos 0) (pos 1) a.direction t.direction;
      setpoint = within_is (minus 10000000) (pos 10000000) a.setpoint p.0;
      raw = within_is (minus 10000000) (pos 10000000) a.raw p.1;
      tzl = c.0;
      chain = c.1.0;
      tsa = c.1.1.0;
    }

pub tool_given : (r : ToolRecords) (a : ToolMeasurement) → first (tool_rules r a) ≡ 0 → ToolGiven a
tool_given r a e =
    let t = (tool_passed r a e).arguments in
    let n = t.numbers in
    record {
      kind = within_is (pos 0) (pos 4) a.probing.kind n.kind;
      tool = within_is (pos 1) (pos 32) a.tool n.tool;
      ev = within_is (pos 0) (pos 20) a.ev n.ev;
      mv = within_is (pos 0) (pos 20) a.mv n.mv;
      positions = positions_given (tool_kind_of a) a.probing a.raws t.positions;
      weight = within_is (pos 1) (pos 1000) a.k t.weight;
      limits = t.limits;
    }

pub zero_given : (r : ZeroRecords) (a : ZeroMeasurement) → first (zero_rules r a) ≡ 0 → ZeroGiven a
zero_given r a e =
    let t = (zero_passed r a e).arguments in
    record {
      kind = within_is (pos 100) (pos 104) a.probing.kind t.numbers.kind;
      offset = within_is (pos 1) (pos 4) a.offset t.numbers.offset;
      positions = positions_given (zero_kind_of a) a.probing a.raws t.positions;
      tsa = within_is (pos 0) (pos 1000000) a.tsa t.tsa;
    }
