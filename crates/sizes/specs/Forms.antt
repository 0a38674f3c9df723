-- The sizes by the form: of a plane's surface, of one pair across an axis, of a pair on each of axes 1 and 2.
use Rattle.std.specs.Prelude.{cond, ℤ, pos}
use Rattle.signed.specs.Ranges.{eq_z}
use Rattle.package.specs.declared.found.Pair.{Pair}
use Rattle.package.specs.declared.found.Sizes.{Sizes}
use Rattle.rules.specs.Sizes.{no_pair, diameter}

abbrev pub sizes : (size setpoint : ℤ) → (abscissa ordinate : Pair) → Sizes
sizes size setpoint abscissa ordinate = record { held = record { size = size; setpoint = setpoint }; abscissa = abscissa; ordinate = ordinate }

abbrev pub on_axis : (axis setpoint : ℤ) → Pair → Sizes
on_axis axis setpoint p = sizes p.width setpoint (cond (eq_z axis (pos 1)) p no_pair) (cond (eq_z axis (pos 2)) p no_pair)

abbrev pub on_both : (setpoint : ℤ) → (abscissa ordinate : Pair) → Sizes
on_both setpoint abscissa ordinate = sizes (diameter abscissa.width ordinate.width) setpoint abscissa ordinate
