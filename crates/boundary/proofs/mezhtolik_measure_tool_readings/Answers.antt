-- What is lent is measured where it is as many numbers and floats as a measurement has.
use Rattle.std.proofs.Common.{◌∙◌, ◌&&◌, eqb, length}
use Rattle.package.specs.Given.{ToolReadings}
use Rattle.arguments.specs.Arguments.{tool_of}
use Rattle.lent_reports.specs.LentReports.{report_floats, lent_readings, tool_reported}
use Rattle.measuring.specs.Reply.{tool}
use Rattle.measuring.specs.ReplyLaws.{exported_lent}
use Rattle.boundary.proofs.mezhtolik_measure_tool_readings.Goals as goal

pub returns : goal.returns
returns c =
    let s = c.args in
    let a = tool_of s.numbers.now in
    rw c.into.ensures
    ((rw c.lent_tool_readings-m.ensures at c.measure.ensures)
    ∙ exported_lent s.area.now s.results.now s.place (eqb (length s.numbers.now) 21 && eqb (length s.floats.now) report_floats) (λ (t : ToolReadings). tool t)
    (tool_reported a (lent_readings a.raws s.floats.now s.reported)))
