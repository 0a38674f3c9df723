-- The nearest number from -32768 to 32767 fits 16 bits, so that the cast keeps it, and it is the value by definition.
use mathlib.Core.Path.{refl, ◌∙◌}
use lib.IntN.{pos}
use mir.Syntax.{w16}
use Rattle.signed.specs.Ranges.{minus}
use Rattle.signed.specs.CodeLaws.{Cast, casts}
use Rattle.area.proofs.Laws.{nearest_is, nearest_in_range}
use Rattle.area.proofs.value_from.Goals as goal
use Rattle.area.proofs.value_from.Goals.{After-nearest_in}

narrow : (c : After-nearest_in) → Cast w16 c.nearest_in.result
narrow c =
    casts w16 (minus 32768) (pos 32767) (record { sfits = c.nearest_in.type_inv }) tt tt
    (nearest_in_range c.ranges.v (minus 32768) (pos 32767) refl refl c.nearest_in.ensures)

pub overflow_cast-result : goal.overflow_cast-result
overflow_cast-result c = (narrow c).fits

pub returns : goal.returns
returns c = (narrow c).value ∙ nearest_is c.ranges.v (minus 32768) (pos 32767) refl refl c.nearest_in.ensures
