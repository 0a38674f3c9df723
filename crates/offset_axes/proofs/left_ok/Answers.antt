-- The number tested is the axis after its growth, and the test is that of `in_range`.
use Rattle.std.proofs.Common.{rules}
use Rattle.signed.specs.CodeLaws.{read}
use Rattle.offset_axes.proofs.left_ok.Goals as goal

pub returns : goal.returns
returns c = let left = rw (read c.axis_left-left.result c.axis_left-left.type_inv, c.axis_left-left.ensures) at c.in_range.ensures in search rules
