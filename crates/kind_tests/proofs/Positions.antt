-- The rule of the positions by the form: a conjunction over the positions, centres and setpoint that the form uses.
use Rattle.std.proofs.Common.{◌≡◌, ap, ◌∙◌, Bool, true, ◌&&◌, List, [], ◌∷◌, ℤ}
use Rattle.std.proofs.Math.Bool.{and-true}
use Rattle.lists.specs.Each.{Each, every, every_append}
use Rattle.package.specs.declared.found.Form.TheVariants.{Plane, Single, Double}
use Rattle.package.specs.declared.found.Kind.{Kind}
use Rattle.package.specs.declared.arguments.Probing.{Probing}
use Rattle.package.specs.Given.{Raws}
use Rattle.rules.specs.Stores.{position_range, width_range}
use Rattle.rules.specs.Kinds.{kind}
use Rattle.rules.specs.Sizes.{pairs, positions_ok}

abbrev pub in_range : List ℤ → Bool
in_range = every position_range

module _ (k : Kind) (a : Probing) (q : Raws) where
  pub of_plane : k.form ≡ Plane → positions_ok k a q ≡ (position_range q.r1 && position_range a.setpoint)
  unfolding positions_ok
  of_plane f = rw f (ap (λ b. b && position_range a.setpoint) (and-true (position_range q.r1 && true) ∙ and-true (position_range q.r1)))

  pub of_single : (set : ℤ) → k.form ≡ Single → Each (λ p. p.set ≡ set) (pairs (kind Single k.inside) a) →
      positions_ok k a q ≡ (in_range (q.r1 ∷ q.r2 ∷ []) && position_range set && width_range a.setpoint)
  unfolding positions_ok
  of_single set f e = rw (f, e.0) (ap (λ b. in_range (q.r1 ∷ q.r2 ∷ []) && b && width_range a.setpoint) (and-true (position_range set)))

  pub of_double : k.form ≡ Double →
      positions_ok k a q ≡ ((in_range (q.r1 ∷ q.r2 ∷ []) && in_range (q.r3 ∷ q.r4 ∷ [])) && in_range (a.c1 ∷ a.c2 ∷ []) && width_range a.setpoint)
  unfolding positions_ok
  of_double f =
      rw f (ap (λ b. b && in_range (a.c1 ∷ a.c2 ∷ []) && width_range a.setpoint) (every_append position_range (q.r1 ∷ q.r2 ∷ []) (q.r3 ∷ q.r4 ∷ [])))
