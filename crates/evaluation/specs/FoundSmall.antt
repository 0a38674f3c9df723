-- How large what a measurement with tool offset finds is.
use Rattle.std.specs.Prelude.{◌≡◌, true, ◌≤◌, ℤ, pos, nat_abs, ◌≤ℤ◌}
use Rattle.std.proofs.Common.{arith}
use Rattle.signed.specs.Differences.{ints, parts}
use Rattle.signed.specs.Ranges.{minus}
use Rattle.signed.specs.RangeLaws.{within_is}
use Rattle.package.specs.declared.found.Decision.{Decision}
use Rattle.package.specs.declared.found.Found.{Found}
use Rattle.rules.specs.Stores.{value_range}
use Rattle.sizes.specs.SizeLaws.{SizesSmall}

pub record DecisionSmall (d : Decision) : Type 0 where
  pub correction : nat_abs d.correction ≤ 100000000
  pub mean : value_range d.mean ≡ true

pub record FoundSmall (f : Found) : Type 0 where
  pub sizes : SizesSmall f.sizes
  pub ev : nat_abs f.ev ≤ 32768
  pub deviation : nat_abs f.deviation ≤ 100000000
  pub decision : DecisionSmall f.decision

value_between : (z : ℤ) → (minus 32768 ≤ℤ z) × (z ≤ℤ pos 32767) → nat_abs z ≤ 32768
value_between = parts _ (λ a b. simp ints (omega arith))

pub value_size : (z : ℤ) → value_range z ≡ true → nat_abs z ≤ 32768
value_size z e = value_between z (within_is (minus 32768) (pos 32767) z e)
