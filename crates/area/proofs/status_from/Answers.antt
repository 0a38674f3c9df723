-- The nearest number in 0..255 is within a byte, so that the cast keeps it.
use mathlib.Core.Path.{refl}
use Prim.Native.Nat.{◌≤◌}
use native.Mathlib.Omega.{arith}
use lib.IntN.{ℤ, pos, nat_abs}
use lib.Signed.{◌≤ℤ◌, yes_non_neg}
use Rattle.signed.specs.Differences.{ints, parts}
use Rattle.signed.specs.RangeLaws.{within_is}
use Rattle.signed.specs.CodeLaws.{read}
use Rattle.area.proofs.Laws.{nearest_in_range}
use Rattle.area.proofs.status_from.Goals as goal
use Rattle.area.proofs.status_from.Goals.{After-nearest_in}

small : (z : ℤ) → pos 0 ≤ℤ z → z ≤ℤ pos 255 → nat_abs z ≤ 255
small = parts _ (λ a b. simp ints (omega arith))

in_byte : (c : After-nearest_in) → (pos 0 ≤ℤ c.nearest_in.result) × (c.nearest_in.result ≤ℤ pos 255)
in_byte c =
    within_is (pos 0) (pos 255) c.nearest_in.result
    (nearest_in_range c.ranges.v (pos 0) (pos 255) refl refl c.nearest_in.ensures)

pub overflow_cast-result : goal.overflow_cast-result
overflow_cast-result c =
    let b = in_byte c in
    rw (read c.nearest_in.result c.nearest_in.type_inv) (yes_non_neg b.0, record { fits = omega (arith, small c.nearest_in.result b.0 b.1) })
