use mathlib.Core.Path.{◌≡◌}
use lib.Seq.{paste}
use Rattle.rules.specs.Block.{words}
use Rattle.memory.proofs.write_values.Given as goal

abbrev pub invariant-loop-i : goal.invariant-loop-i
invariant-loop-i l = l.area ≡ paste l.initial.area l.at (words l.bytes) l.i
