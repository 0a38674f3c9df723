-- Request 2026-01: "A reading is now either a whole position or such a float report, and the measured axis picks its number".
use Rattle.std.specs.Prelude.{Bool, true, false, cond, ◌&&◌, [], ◌∷◌, ℕ, ◌*◌, leb, Float, ℤ, pos}
use Rattle.std.specs.Float.{nan, inf, fin}
use Rattle.std.specs.Float.Ieee.{up, down}
use Rattle.signed.specs.Ranges.{minus}
use Rattle.signed.specs.Rounding.{halves_up}
use Rattle.package.specs.declared.arguments.Report.{Report}
use Rattle.package.specs.declared.arguments.Reading.{Reading}
use Rattle.package.specs.declared.arguments.Reading.TheVariants.{Whole, Reported}
use Rattle.package.specs.Given.{Readings, Raws}
use Rattle.package.specs.declared.arguments.Probing.{Probing}
use Rattle.package.specs.declared.found.Kind.{Kind}
use Rattle.rules.specs.Stores.{pick}
use Rattle.rules.specs.Kinds.{by_form}

-- ---- a float: not a number, an infinity, or m·2^e with a sign, where 2^e is up e / down e
-- "13 for a used float that is not a number, infinite or beyond ±1000 mm"
unfoldable pub good_float : Float → Bool
good_float nan = false
good_float (inf s) = false
good_float (fin s m e) = leb (m * up e) (1000 * down e)

abbrev pub signed : Bool → ℕ → ℤ
signed false n = pos n
signed true n = minus n

-- "The exact value times 10,000 is rounded to the nearest unit, halves away from zero; both zeros give 0."
abbrev pub units_rounding : ℕ → ℕ → ℕ
units_rounding = halves_up

unfoldable pub units_of : Float → ℤ
units_of nan = pos 0
units_of (inf s) = pos 0
units_of (fin s m e) = signed s (units_rounding (10000 * (m * up e)) (down e))

-- ---- a reading on an axis
-- "X, Y, Z for axes 1, 2, 3"
abbrev pub picked : Report → ℤ → Float
picked f n = pick f.z (f.x ∷ f.y ∷ []) n

-- by whether it is used: what is not used is not looked at, and 0 stands for its position
abbrev pub good_if : Bool → Reading → ℤ → Bool
good_if used (Whole z) n = true
good_if used (Reported f) n = cond used (good_float (picked f n)) true

abbrev pub position_if : Bool → Reading → ℤ → ℤ
position_if used (Whole z) n = z
position_if used (Reported f) n = cond used (units_of (picked f n)) (pos 0)

-- ---- the readings of a measurement: every kind uses the first, pairs the second, holes and shafts all;
-- "X for a hole's abscissa raws and Y for its ordinate raws"
abbrev pub first_axis : Kind → Probing → ℤ
first_axis k a = by_form k.form a.axis a.axis (pos 1)

abbrev pub uses_second : Kind → Bool
uses_second k = by_form k.form false true true

abbrev pub uses_third : Kind → Bool
uses_third k = by_form k.form false false true

-- 13: "a used float"
abbrev pub readings_ok : Kind → Probing → Readings → Bool
readings_ok k a q =
    good_if true q.r1 (first_axis k a) &&
    good_if (uses_second k) q.r2 (first_axis k a) &&
    good_if (uses_third k) q.r3 (pos 2) &&
    good_if (uses_third k) q.r4 (pos 2)

-- the positions that they give
abbrev pub raws_of : Kind → Probing → Readings → Raws
raws_of k a q =
    record {
      r1 = position_if true q.r1 (first_axis k a);
      r2 = position_if (uses_second k) q.r2 (first_axis k a);
      r3 = position_if (uses_third k) q.r3 (pos 2);
      r4 = position_if (uses_third k) q.r4 (pos 2);
    }

-- whole positions as readings
abbrev pub wholes : Raws → Readings
wholes q = record { r1 = Whole q.r1; r2 = Whole q.r2; r3 = Whole q.r3; r4 = Whole q.r4 }
