use mathlib.Core.Path.{◌≡◌}
use mathlib.Core.List.{map}
use Rattle.lists.specs.Copied.{copied}
use Rattle.rules.specs.Stores.{means}
use Rattle.layout.specs.Layout.{records}
use Rattle.area.specs.Table.{record_from}
use Rattle.memory.proofs.read_values.Given as goal

abbrev pub invariant-loop-i : goal.invariant-loop-i
invariant-loop-i l = l.values ≡ copied l.initial.values (map (record_from means) (records l.s l.area)) l.i
