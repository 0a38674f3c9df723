-- Each line feed ends a line, so their count is that of the lines.
use Rattle.std.proofs.Common.{◌≡◌, ◌∙◌, rules}
use Rattle.std.specs.Prelude.{sum_by}
use Rattle.line_counts.proofs.LineSums.{feed, feeds_end_lines}
use Rattle.line_counts.proofs.count_block.Goals as goal

pub returns : goal.returns
returns c =
    let s = c.args.s.now in
    let e : c.sum.result ≡ sum_by feed s = search rules in
    e ∙ feeds_end_lines s
