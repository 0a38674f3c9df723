-- What the calls are given, with whole positions and with readings, and the same with other raws.
use Rattle.std.specs.Prelude.{ℤ}
use Rattle.package.specs.declared.arguments.Calibration.{Calibration as CalibrationBy}
use Rattle.package.specs.declared.arguments.Raws.{Raws as RawsOf}
use Rattle.package.specs.declared.arguments.ToolMeasurement.{ToolMeasurement as ToolMeasurementBy}
use Rattle.package.specs.declared.arguments.ZeroMeasurement.{ZeroMeasurement as ZeroMeasurementBy}
use Rattle.package.specs.declared.arguments.Reading.{Reading}

abbrev pub Calibration : Type 0
Calibration = CalibrationBy ℤ

abbrev pub CalibrationReading : Type 0
CalibrationReading = CalibrationBy Reading

abbrev pub Raws : Type 0
Raws = RawsOf ℤ

abbrev pub Readings : Type 0
Readings = RawsOf Reading

abbrev pub ToolMeasurement : Type 0
ToolMeasurement = ToolMeasurementBy ℤ

abbrev pub ToolReadings : Type 0
ToolReadings = ToolMeasurementBy Reading

abbrev pub ZeroMeasurement : Type 0
ZeroMeasurement = ZeroMeasurementBy ℤ

abbrev pub ZeroReadings : Type 0
ZeroReadings = ZeroMeasurementBy Reading

module _ {T U : Type 0} where
  abbrev pub calibration_with : CalibrationBy T → U → CalibrationBy U
  calibration_with t raw =
      record { probe = t.probe; axis = t.axis; direction = t.direction; setpoint = t.setpoint; raw = raw; tzl = t.tzl; tsa = t.tsa }

  abbrev pub tool_with : ToolMeasurementBy T → RawsOf U → ToolMeasurementBy U
  tool_with t raws = record { probing = t.probing; raws = raws; tool = t.tool; ev = t.ev; mv = t.mv; k = t.k; limits = t.limits }

  abbrev pub zero_with : ZeroMeasurementBy T → RawsOf U → ZeroMeasurementBy U
  zero_with t raws = record { probing = t.probing; raws = raws; offset = t.offset; tsa = t.tsa }

  -- the same with each raw read by f
  abbrev pub raws_by : (T → U) → RawsOf T → RawsOf U
  raws_by f q = record { r1 = f q.r1; r2 = f q.r2; r3 = f q.r3; r4 = f q.r4 }

  abbrev pub calibration_by : (T → U) → CalibrationBy T → CalibrationBy U
  calibration_by f t = calibration_with t (f t.raw)

  abbrev pub tool_by : (T → U) → ToolMeasurementBy T → ToolMeasurementBy U
  tool_by f t = tool_with t (raws_by f t.raws)

  abbrev pub zero_by : (T → U) → ZeroMeasurementBy T → ZeroMeasurementBy U
  zero_by f t = zero_with t (raws_by f t.raws)
