-- The wear, the factor (at most 2 in size, by the form) and the correction are bounded, so that the code's sum and product are exact.
use Rattle.std.specs.Prelude.{◌≡◌, Bool, true, false, cond, ◌≤◌, ℤ, pos, nat_abs, ◌+ℤ◌, ◌*ℤ◌}
use Rattle.std.proofs.Common.{ap, ap₂, ◌∙◌, arith, rules, w64, to_z, of_z}
use Rattle.signed.specs.Differences.{ints, parts}
use Rattle.signed.specs.Ranges.{minus}
use Rattle.signed.specs.Expressions.{Ex, at, bound, add, mul, Runs, run}
use Rattle.package.specs.declared.found.Form.{Form}
use Rattle.package.specs.declared.found.Form.TheVariants.{Plane, Single, Double}
use Rattle.package.specs.declared.found.Kind.{Kind}
use Rattle.rules.specs.Probes.{sign}
use Rattle.rules.specs.ProbeLaws.{sign_size}
use Rattle.rules.specs.Kinds.{by_form}
use Rattle.rules.specs.Tool.{factor, wear_on, on_length}
use Rattle.wears.proofs.wear_left.Goals as goal
use Rattle.wears.proofs.wear_left.Goals.{After-factor_of}

-- ---- the factor, and its size
side_size : (b : Bool) → nat_abs (cond b (pos 1) (minus 1)) ≤ 2
side_size true = omega arith
side_size false = omega arith

twice_size : (s : ℤ) → nat_abs s ≤ 1 → nat_abs (pos 2 *ℤ s) ≤ 2
twice_size = parts _ (λ a b. simp ints (omega arith))

factor_size : (k : Kind) (direction : ℤ) → nat_abs (factor k direction) ≤ 2
factor_size k direction = go k.form
  where
    go : (f : Form) → nat_abs (by_form f (pos 2 *ℤ sign direction) (cond k.inside (pos 1) (minus 1)) (cond k.inside (pos 1) (minus 1))) ≤ 2
    go Plane = twice_size (sign direction) (sign_size direction)
    go Single = side_size k.inside
    go Double = side_size k.inside

module _ (c : After-factor_of) where
  direction_is : to_z w64 (of_z w64 c.args.a.direction) ≡ c.args.a.direction
  direction_is = search rules

  factor_is : c.factor_of.result ≡ factor c.args.k c.args.a.direction
  factor_is = rw direction_is at c.factor_of.ensures

  abbrev left : Ex w64
  left =
      add (bound c.wear_on.result 2147483648 c.wear_on.ensures.1 tt)
      (mul (bound c.factor_of.result 2 (rw factor_is (factor_size c.args.k c.args.a.direction)) tt)
      (at c.args.c 100000000 c.ranges.c c.requires))

  runs : Runs left
  runs = run left tt (search)

pub overflow_mul-result : goal.overflow_mul-result
overflow_mul-result c = search (runs c).asks

pub overflow_add-result : goal.overflow_add-result
overflow_add-result c = search (runs c).asks

pub returns : goal.returns
returns c =
    let axis : to_z w64 (of_z w64 c.args.a.axis) ≡ c.args.a.axis = search rules in
    let length : c.on_length.result ≡ on_length c.args.k c.args.a.axis = rw axis at c.on_length.ensures in
    (runs c).value ∙ ap₂ (λ (w f : ℤ). w +ℤ f *ℤ c.args.c) (c.wear_on.ensures.0 ∙ ap (λ (b : Bool). wear_on b c.args.w) length) (factor_is c)
