-- The offset is that of its three axes.
use Rattle.std.proofs.Common.{rules}
use Rattle.rules.specs.Zero.{offset_left}
use Rattle.zero_offset.proofs.FoundZero.offset_left.Goals as goal

pub returns : goal.returns
unfolding offset_left
returns c = search rules
