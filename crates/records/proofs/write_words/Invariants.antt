use mathlib.Core.Path.{◌≡◌}
use Prim.Native.Nat.{◌*◌}
use Rattle.lists.specs.Copied.{copied}
use Rattle.rules.specs.Block.{octets}
use Rattle.records.proofs.write_words.Given as goal

abbrev pub invariant-loop-i : goal.invariant-loop-i
invariant-loop-i l = l.buffer ≡ copied l.initial.buffer (octets l.values) (2 * l.i)
