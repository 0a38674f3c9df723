-- Request 2026-01: a measurement by lent numbers and floats. 101 is another number of either.
use Rattle.std.specs.Prelude.{◌&&◌, List, ℕ, eqb, Float, ℤ, length, Option}
use Rattle.arguments.specs.Arguments.{tool_of, zero_of}
use Rattle.lent_reports.specs.LentReports.{report_floats, lent_readings, tool_reported, zero_reported}
use Rattle.measuring.specs.Reply.{tool, zero, Reply, exported, given_if}
use Rattle.package.specs.Given.{ToolMeasurement, ToolReadings, ZeroMeasurement, ZeroReadings}

abbrev pub tool_readings_exported : (area numbers : List ℤ) → List Float → (reported : ℕ) → (results : List ℤ) → ℕ → Reply
tool_readings_exported area numbers floats reported results place =
    let a = tool_of numbers in
    exported area (eqb (length numbers) 21 && eqb (length floats) report_floats) results place (tool (tool_reported a (lent_readings a.raws floats reported)))

abbrev pub zero_readings_exported : (area numbers : List ℤ) → List Float → (reported : ℕ) → (results : List ℤ) → ℕ → Reply
zero_readings_exported area numbers floats reported results place =
    let a = zero_of numbers in
    exported area (eqb (length numbers) 13 && eqb (length floats) report_floats) results place (zero (zero_reported a (lent_readings a.raws floats reported)))

-- ---- what is lent, where it is as many numbers, and as many floats, as a measurement has
abbrev pub tool_lent : List ℤ → Option ToolMeasurement
tool_lent numbers = given_if (eqb (length numbers) 21) (tool_of numbers)

abbrev pub zero_lent : List ℤ → Option ZeroMeasurement
zero_lent numbers = given_if (eqb (length numbers) 13) (zero_of numbers)

abbrev pub tool_readings_lent : List ℤ → List Float → ℕ → Option ToolReadings
tool_readings_lent numbers floats reported =
    let a = tool_of numbers in
    given_if (eqb (length numbers) 21 && eqb (length floats) report_floats) (tool_reported a (lent_readings a.raws floats reported))

abbrev pub zero_readings_lent : List ℤ → List Float → ℕ → Option ZeroReadings
zero_readings_lent numbers floats reported =
    let a = zero_of numbers in
    given_if (eqb (length numbers) 13 && eqb (length floats) report_floats) (zero_reported a (lent_readings a.raws floats reported))
