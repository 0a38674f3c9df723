-- The position of a float and of a reading, and the positions of a measurement; none where a used float is not good.
use Rattle.std.specs.Prelude.{Bool, Float, ℤ, Option}
use Rattle.std.specs.Bool.{then_some}
use Rattle.package.specs.Given.{Raws, Readings}
use Rattle.package.specs.declared.arguments.Probing.{Probing}
use Rattle.package.specs.declared.arguments.Reading.{Reading}
use Rattle.package.specs.declared.found.Kind.{Kind}
use Rattle.rules.specs.Readings.{good_float, units_of, good_if, position_if, readings_ok, raws_of}

abbrev pub units_in : Float → Option ℤ
units_in x = then_some (good_float x) (units_of x)

abbrev pub reading_in : Bool → Reading → ℤ → Option ℤ
reading_in used r n = then_some (good_if used r n) (position_if used r n)

abbrev pub readings_in : Kind → Probing → Readings → Option Raws
readings_in k a q = then_some (readings_ok k a q) (raws_of k a q)
