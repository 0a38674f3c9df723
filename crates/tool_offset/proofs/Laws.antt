-- What is found, part by part; and how large the parts of a decision are.
use mathlib.Core.Path.{◌≡◌}
use mathlib.Core.Bool.{Bool, true}
use Prim.Native.Nat.{ℕ, ◌≤◌, ◌<◌}
use native.Mathlib.Omega.{arith}
use lib.IntN.{ℤ, pos, nat_abs, ◌+ℤ◌, ◌*ℤ◌}
use lib.Signed.{◌≤ℤ◌, mag}
use mir.Syntax.{w16}
use mir.Val.{SFits}
use Rattle.signed.specs.Differences.{ints, parts}
use Rattle.signed.specs.Ranges.{minus}
use Rattle.signed.specs.RangeLaws.{is_within}
use Rattle.package.specs.declared.found.Kind.{Kind}
use Rattle.package.specs.declared.found.Sizes.{Sizes}
use Rattle.package.specs.declared.found.Decision.{Decision}
use Rattle.package.specs.Given.{ToolMeasurement}
use Rattle.package.specs.declared.found.ToolRecords.{ToolRecords}
use Rattle.package.specs.declared.found.Branch.{Branch}
use Rattle.package.specs.declared.found.Branch.TheVariants.{One, Two, Three, Four, Five}
use Rattle.rules.specs.Stores.{value_range}
use Rattle.rules.specs.Sizes.{difference, sizes_of, calibrated_ok}
use Rattle.rules.specs.Tool.{tool_kind_of, weight, named, correction_in, decided, on_length, factor, wear_on, deviation as deviationOf, decision as decisionOf, wear_left, tool_found}

-- a value of an i16
pub small_value : (z : ℤ) → mag z < 32768 → value_range z ≡ true
small_value z h = is_within (minus 32768) (pos 32767) z (low z (record { sfits = h })) (high z (record { sfits = h }))
  where
    low : (z : ℤ) → SFits w16 z → minus 32768 ≤ℤ z
    low = parts _ (λ a b. simp ints (omega arith))

    high : (z : ℤ) → SFits w16 z → z ≤ℤ pos 32767
    high = parts _ (λ a b. simp ints (omega arith))

pub correction_size : (n : ℕ) (b : Branch) (next d : ℤ) → nat_abs next ≤ n → nat_abs d ≤ n → nat_abs (correction_in b next d) ≤ n
correction_size n One next d h k = omega arith
correction_size n Two next d h k = k
correction_size n Three next d h k = omega arith
correction_size n Four next d h k = h
correction_size n Five next d h k = k

-- the parts that the code finds, of its kind k
module _ (r : ToolRecords) (a : ToolMeasurement) {k : Kind} (kind : k ≡ tool_kind_of a) where
  pub found_is : {calibrated : Bool} {sizes : Sizes} {d wear : ℤ} {decision : Decision} → calibrated ≡ calibrated_ok r.probe.status k a.probing
      → sizes ≡ sizes_of r.probe k a.probing a.raws → d ≡ difference sizes.held r.ev
      → decision ≡ decided a.limits (named a) r.mean d (weight a)
      → wear ≡ wear_on (on_length k a.probing.axis) r.wear +ℤ factor k a.probing.direction *ℤ decision.correction
      → record { calibrated = calibrated; sizes = sizes; ev = r.ev; deviation = d; decision = decision; wear = wear } ≡ tool_found r a
  unfolding deviationOf decisionOf wear_left
  found_is c s d t w = rw (c, w, t, d, s, kind)
