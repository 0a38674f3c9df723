-- The refusals that the arguments give which both ways of measuring share, and what the tests tell of what is touched.
use Rattle.std.specs.Prelude.{◌≡◌, true, false, List, [], ◌∷◌, Result, Ok, Err}
use Rattle.package.specs.declared.refusals.Refusal.{Refusal}
use Rattle.package.specs.declared.refusals.Refusal.TheVariants.{NoSuchNumber}
use Rattle.package.specs.declared.found.Kind.{Kind}
use Rattle.package.specs.declared.arguments.Probing.{Probing}
use Rattle.package.specs.Given.{Readings}
use Rattle.rules.specs.Refusals.{Rule, ◌unless◌}
use Rattle.rules.specs.Readings.{readings_ok, raws_of}
use Rattle.rules.specs.Sizes.{numbers_ok, positions_ok}
use Rattle.kinds.specs.declared.Surfaces.{Surfaces}
use Rattle.kinds.specs.Touches.{Touches}

-- 2 of the numbers that the kind uses, 13 of a used float, 3 of the positions, set centres and setpoint
abbrev pub probing_rules : Kind → Probing → Readings → List Rule
probing_rules k a q = 2 unless numbers_ok k a ∷ 13 unless readings_ok k a q ∷ 3 unless positions_ok k a (raws_of k a q) ∷ []

-- what is touched where the numbers are those of their stores, else refusal 2
abbrev pub NumbersIf : Kind → Probing → Result Surfaces Refusal → Type 0
NumbersIf k a (Ok s) = (numbers_ok k a ≡ true) × Touches k a s
NumbersIf k a (Err r) = (numbers_ok k a ≡ false) × (r ≡ NoSuchNumber)
