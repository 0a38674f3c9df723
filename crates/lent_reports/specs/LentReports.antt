-- Request 2026-01: readings as C lends them: whole numbers, twelve floats, X, Y and Z of each raw in a row, and a number whose bits say which raws are reports.
use Rattle.std.specs.Prelude.{Bool, cond, List, ℕ, ◌+◌, ◌/◌, ◌%◌, eqb, Float, ℤ, get_or}
use Rattle.std.specs.Float.{nan}
use Rattle.package.specs.Given.{Raws, Readings, ToolMeasurement, ToolReadings, ZeroMeasurement, ZeroReadings}
use Rattle.package.specs.declared.arguments.Report.{Report}
use Rattle.package.specs.declared.arguments.Reading.{Reading}
use Rattle.package.specs.declared.arguments.Reading.TheVariants.{Whole, Reported}

-- how many floats are lent
abbrev pub report_floats : ℕ
report_floats = 12

-- whether the bit with this value is set
abbrev pub marked : ℕ → ℕ → Bool
marked reported bit = eqb (reported / bit % 2) 1

-- the report whose X stands at place i
abbrev pub report_at : List Float → ℕ → Report
report_at floats i = record { x = get_or floats i nan; y = get_or floats (i + 1) nan; z = get_or floats (i + 2) nan }

abbrev pub lent_reading : Bool → ℤ → Report → Reading
lent_reading reported whole report = cond reported (Reported report) (Whole whole)

unfoldable pub lent_readings : Raws → List Float → ℕ → Readings
lent_readings q floats reported =
    record {
      r1 = lent_reading (marked reported 1) q.r1 (report_at floats 0);
      r2 = lent_reading (marked reported 2) q.r2 (report_at floats 3);
      r3 = lent_reading (marked reported 4) q.r3 (report_at floats 6);
      r4 = lent_reading (marked reported 8) q.r4 (report_at floats 9);
    }

-- a measurement with these readings in place of its whole positions
abbrev pub tool_reported : ToolMeasurement → Readings → ToolReadings
tool_reported a q = record { probing = a.probing; raws = q; tool = a.tool; ev = a.ev; mv = a.mv; k = a.k; limits = a.limits }

abbrev pub zero_reported : ZeroMeasurement → Readings → ZeroReadings
zero_reported a q = record { probing = a.probing; raws = q; offset = a.offset; tsa = a.tsa }
