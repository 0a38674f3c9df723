-- What a measurement is given, by the numbers at the front of others.
use Rattle.std.specs.Prelude.{◌≡◌, List, ℕ, ◌<◌, ◌≤◌, ℤ, pos, take}
use Rattle.std.proofs.Common.{ap, ap₂, arith}
use Rattle.std.proofs.lemmas.List.{get_or-take}
use Rattle.package.specs.Given.{tool_with}
use Rattle.arguments.specs.Arguments.{at, calibration_of, probing_of, raws_of, limits_of, tool_of, zero_of, reports_by, reports_of, reported_of}

module _ (n : ℕ) (vs : List ℤ) where
  pub front : (i : ℕ) → i < n → at (take n vs) i ≡ at vs i
  front i h = get_or-take n vs i (pos 0) h

  module _ (h : 11 ≤ n) where
    probing_front : probing_of (take n vs) ≡ probing_of vs
    probing_front =
        rw (
          front 0 (omega arith),
          front 1 (omega arith),
          front 2 (omega arith),
          front 3 (omega arith),
          front 4 (omega arith),
          front 5 (omega arith),
          front 6 (omega arith),
        )

    raws_front : raws_of (take n vs) ≡ raws_of vs
    raws_front = rw (front 7 (omega arith), front 8 (omega arith), front 9 (omega arith), front 10 (omega arith))

    reports_front : reports_of (take n vs) ≡ reports_of vs
    reports_front = ap reports_by raws_front

  limits_front : 21 ≤ n → limits_of (take n vs) ≡ limits_of vs
  limits_front h =
      rw (
        front 15 (omega arith),
        front 16 (omega arith),
        front 17 (omega arith),
        front 18 (omega arith),
        front 19 (omega arith),
        front 20 (omega arith),
      )

  pub calibration_first : 7 ≤ n → calibration_of (take n vs) ≡ calibration_of vs
  calibration_first h =
      rw (
        front 0 (omega arith),
        front 1 (omega arith),
        front 2 (omega arith),
        front 3 (omega arith),
        front 4 (omega arith),
        front 5 (omega arith),
        front 6 (omega arith),
      )

  pub zero_first : 13 ≤ n → zero_of (take n vs) ≡ zero_of vs
  zero_first h = rw (probing_front (omega arith), raws_front (omega arith), front 11 (omega arith), front 12 (omega arith))

pub zero_front : (vs : List ℤ) → zero_of (take 13 vs) ≡ zero_of vs
zero_front vs = zero_first 13 vs (omega arith)

pub tool_front : (vs : List ℤ) → tool_of (take 21 vs) ≡ tool_of vs
tool_front vs =
    rw (
      probing_front 21 vs (omega arith),
      raws_front 21 vs (omega arith),
      limits_front 21 vs (omega arith),
      front 21 vs 11 (omega arith),
      front 21 vs 12 (omega arith),
      front 21 vs 13 (omega arith),
      front 21 vs 14 (omega arith),
    )

-- a measurement with reports is that with its raws, with others in their place
pub reported_front : (vs : List ℤ) → reported_of (take 21 vs) ≡ reported_of vs
reported_front vs = ap₂ tool_with (tool_front vs) (reports_front 21 vs (omega arith))
