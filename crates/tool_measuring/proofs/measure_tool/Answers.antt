-- Refused by the arguments; else they passed.
use Rattle.std.proofs.Common.{arith, rules}
use Rattle.package.specs.Given.{tool_by}
use Rattle.measuring.specs.Reply.{tool}
use Rattle.measuring.specs.ReplyLaws.{refused_by_arguments}
use Rattle.tool_measuring.proofs.measure_tool.Goals as goal

pub returns-in_err-p : goal.returns-in_err-p
returns-in_err-p g c =
    let s = c.args in
    refused_by_arguments s.area.now (tool (tool_by g.T.Raw.reading s.a)) s.results.now s.place (omega (arith, c.told-area)) _ (search rules) c.in_err-p.ensures.refusal
