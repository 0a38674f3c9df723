-- The rule of the widths by the form: a single form has one pair on its axis, a double form two.
use Rattle.std.proofs.Common.{◌≡◌, ap, Bool, ◌&&◌, ℤ, pos}
use Rattle.std.proofs.Math.Bool.{and-true}
use Rattle.std.specs.Int.Signed.{le_z}
use Rattle.package.specs.declared.found.Form.TheVariants.{Single, Double}
use Rattle.package.specs.declared.found.Kind.{Kind}
use Rattle.package.specs.declared.arguments.Probing.{Probing}
use Rattle.package.specs.declared.found.Sizes.{Sizes}
use Rattle.rules.specs.Sizes.{pair_in, pairs_ok}

abbrev pub over : ℤ → Bool
over = le_z (pos 1)

module _ (k : Kind) (a : Probing) (s : Sizes) where
  pub of_single : k.form ≡ Single → pairs_ok k a s ≡ over (pair_in s a.axis).width
  unfolding pairs_ok
  of_single e = rw e (and-true (over (pair_in s a.axis).width))

  pub of_double : k.form ≡ Double → pairs_ok k a s ≡ (over s.abscissa.width && over s.ordinate.width)
  unfolding pairs_ok
  of_double e = rw e (ap (λ b. over s.abscissa.width && b) (and-true (over s.ordinate.width)))
