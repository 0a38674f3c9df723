-- Axes and directions by the paper's numbers; a number that names none is refused by 2.
use Rattle.std.specs.Prelude.{◌≡◌, ◌≢◌, ℤ, pos, Result, Ok, Err}
use Rattle.package.specs.declared.refusals.Refusal.{Refusal}
use Rattle.package.specs.declared.refusals.Refusal.TheVariants.{NoSuchNumber}
use Rattle.package.specs.declared.ways.Axis.{Axis}
use Rattle.package.specs.declared.ways.Axis.TheVariants.{First, Second, Third}
use Rattle.package.specs.declared.ways.Direction.{Direction}
use Rattle.package.specs.declared.ways.Direction.TheVariants.{Positive, Negative}
use Rattle.package.specs.declared.ways.Way.{Way}

abbrev pub axis_number : Axis → ℤ
axis_number First = pos 1
axis_number Second = pos 2
axis_number Third = pos 3

abbrev pub direction_number : Direction → ℤ
direction_number Positive = pos 0
direction_number Negative = pos 1

abbrev pub AxisNamed : ℤ → Result Axis Refusal → Type 0
AxisNamed n (Ok a) = axis_number a ≡ n
AxisNamed n (Err r) = (r ≡ NoSuchNumber) × ((a : Axis) → axis_number a ≢ n)

abbrev pub DirectionNamed : ℤ → Result Direction Refusal → Type 0
DirectionNamed n (Ok d) = direction_number d ≡ n
DirectionNamed n (Err r) = (r ≡ NoSuchNumber) × ((d : Direction) → direction_number d ≢ n)

-- one of both names none
abbrev pub WayNamed : ℤ → ℤ → Result Way Refusal → Type 0
WayNamed axis direction (Ok w) = (axis_number w.axis ≡ axis) × (direction_number w.direction ≡ direction)
WayNamed axis direction (Err r) = (r ≡ NoSuchNumber) × ((w : Way) → axis_number w.axis ≡ axis → direction_number w.direction ≢ direction)
