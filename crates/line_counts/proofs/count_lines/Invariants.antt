use Rattle.std.specs.Prelude.{◌≡◌, ◌+◌, length, drop, sum_by}
use Rattle.text.specs.Pieces.{lines}
use Rattle.line_counts.proofs.LineSums.{ended}
use Rattle.line_counts.proofs.count_lines.Given as goal

abbrev pub invariant-loop-block : goal.invariant-loop-block
invariant-loop-block l = l.n + sum_by ended (drop l.block-index l.blocks) ≡ length (lines l.s)
