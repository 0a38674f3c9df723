-- The code's m - q is the rule's mean value by its definition; it is as small as m and d, so that the difference is of 64 bits.
use Rattle.std.specs.Prelude.{◌≡◌, ℤ, pos, nat_abs, ◌-ℤ◌}
use Rattle.std.proofs.Common.{ap, ap₂, ◌∙◌, arith, w64, to_z, of_z, to_z-of_z, FitsSigned}
use Rattle.signed.specs.Magnitudes.{abs_pos, abs_sub, fits_abs}
use Rattle.signed.specs.RangeLaws.{within_is}
use Rattle.signed.specs.CodeLaws.{read}
use Rattle.signed.specs.Rounding.{rounded_quotient}
use Rattle.rules.specs.Mean.{mean_step, mean_change, mean_rounding}
use Rattle.mean_value.specs.MeanSize.{mean_size}
use Rattle.mean_value.proofs.mean_step.Goals as goal
use Rattle.mean_value.proofs.mean_step.Goals.{After-rounded_quotient}

module _ (c : After-rounded_quotient) where
  -- m - d, as the code has it
  apart : to_z w64 (of_z w64 (to_z w64 (of_z w64 c.args.m) -ℤ to_z w64 (of_z w64 c.args.d))) ≡ c.args.m -ℤ c.args.d
  apart =
      rw (to_z-of_z c.ranges.m, to_z-of_z c.ranges.d)
      (to_z-of_z (fits_abs w64 (c.args.m -ℤ c.args.d) (omega (arith, abs_sub c.args.m c.args.d, c.requires.m_bound))))

  -- m - q is the new mean, and as small as m and d
  change : c.args.m -ℤ c.rounded_quotient.result ≡ mean_step c.args.m c.args.d (nat_abs c.args.k)
  unfolding mean_step mean_change mean_rounding rounded_quotient
  change = ap (λ (q : ℤ). c.args.m -ℤ q) (rw (apart, to_z-of_z c.ranges.k) at c.rounded_quotient.ensures)

  next_fits : FitsSigned w64 (c.args.m -ℤ c.rounded_quotient.result)
  next_fits =
      let s = c.args in
      let k = abs_pos s.k (within_is (pos 1) (pos 1000) s.k c.requires.k_value).0 in
      let b = mean_size s.m s.d (nat_abs s.k) 100000000 k c.requires.m_bound.0 c.requires.m_bound.1 in
      rw change (fits_abs w64 (mean_step s.m s.d (nat_abs s.k)) (omega arith))

  -- the code's difference, of the plain numbers
  plain : to_z w64 (of_z w64 c.args.m) -ℤ to_z w64 (of_z w64 c.rounded_quotient.result) ≡ c.args.m -ℤ c.rounded_quotient.result
  plain = ap₂ ◌-ℤ◌ (to_z-of_z c.ranges.m) (read c.rounded_quotient.result c.rounded_quotient.type_inv)

pub returns : goal.returns
returns c = ap (λ (z : ℤ). to_z w64 (of_z w64 z)) (plain c) ∙ to_z-of_z (next_fits c) ∙ change c

pub overflow_sub-result : goal.overflow_sub-result
overflow_sub-result c = rw (plain c) (next_fits c)
