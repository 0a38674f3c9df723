-- How large the numbers of the array are.
use mathlib.Core.Path.{◌≡◌}
use mathlib.Core.Bool.{true}
use Prim.Native.Nat.{◌≤◌}
use native.Mathlib.Omega.{arith}
use lib.IntN.{ℤ, pos, nat_abs}
use lib.Signed.{◌≤ℤ◌}
use Rattle.signed.specs.Differences.{ints, parts}
use Rattle.signed.specs.Magnitudes.{abs_add}
use Rattle.signed.specs.Ranges.{minus}
use Rattle.signed.specs.RangeLaws.{≤ℤ-trans}
use Rattle.package.specs.declared.arguments.Limits.{Limits}
use Rattle.package.specs.declared.found.Found.{Found}
use Rattle.package.specs.declared.found.Kind.{Kind}
use Rattle.package.specs.declared.arguments.Probing.{Probing}
use Rattle.package.specs.declared.found.Sizes.{Sizes}
use Rattle.package.specs.Given.{ToolMeasurement, ZeroMeasurement}
use Rattle.rules.specs.Sizes.{numbers_ok}
use Rattle.rules.specs.Results.{size_entries, tool_entries, zero_entries}
use Rattle.rules.specs.Passed.{LimitsPassed, ToolArgumentsPassed, ZeroArgumentsPassed}
use Rattle.kinds.specs.KindLaws.{probe_number_lem}
use Rattle.sizes.specs.SizeLaws.{SizesSmall}
use Rattle.result_sizes.specs.ResultSizes.{Small}
use Rattle.result_sizes.specs.OutcomeLaws.{between_size, number_size, entries_small}
use Rattle.evaluation.specs.FoundSmall.{FoundSmall, value_size}

-- the entries that both ways of measuring have
pub both_small : (k : Kind) (a : Probing) (s : Sizes) (ev : ℤ) → numbers_ok k a ≡ true → nat_abs a.kind ≤ 104 → SizesSmall s → nat_abs ev ≤ 32768
    → Small (size_entries k a s ev)
both_small k a s ev numbers kind t e = entries_small k a s ev t e kind (number_size 1 3 a.probe (probe_number_lem k a numbers))

-- the limits
limit_size : (z : ℤ) → minus 1000000 ≤ℤ z → z ≤ℤ pos 1000000 → nat_abs z ≤ 1000000
limit_size = parts _ (λ a b. simp ints (omega arith))

pub record LimitsSmall (l : Limits) : Type 0 where
  pub tzl : nat_abs l.tzl ≤ 1000000
  pub tul : nat_abs l.tul ≤ 1000000
  pub tll : nat_abs l.tll ≤ 1000000
  pub tdif : nat_abs l.tdif ≤ 1000000
  pub tsa : nat_abs l.tsa ≤ 1000000

pub limits_small : (z : Limits) → LimitsPassed z → LimitsSmall z
limits_small z l =
    let top = pos 1000000 in
    let tdif = ≤ℤ-trans z.tdif z.tsa top l.tdif_tsa l.tsa_top in
    let tzl = ≤ℤ-trans z.tzl z.tmv top l.tzl_tmv (≤ℤ-trans z.tmv z.tdif top l.tmv_tdif tdif) in
    let above_tmv = ≤ℤ-trans (pos 0) z.tzl z.tmv l.zero_tzl l.tzl_tmv in
    let above_tdif = ≤ℤ-trans (pos 0) z.tmv z.tdif above_tmv l.tmv_tdif in
    let above_tsa = ≤ℤ-trans (pos 0) z.tdif z.tsa above_tdif l.tdif_tsa in
    record {
      tzl = between_size 0 1000000 z.tzl (l.zero_tzl, tzl);
      tul = limit_size z.tul (≤ℤ-trans (minus 1000000) z.tll z.tul l.bottom_tll l.tll_tul) l.tul_top;
      tll = limit_size z.tll l.bottom_tll (≤ℤ-trans z.tll z.tul top l.tll_tul l.tul_top);
      tdif = between_size 0 1000000 z.tdif (above_tdif, tdif);
      tsa = between_size 0 1000000 z.tsa (above_tsa, l.tsa_top);
    }

-- those of each way
pub tool_small : (a : ToolMeasurement) (f : Found) → ToolArgumentsPassed a → FoundSmall f → Small (tool_entries a f.sizes f.ev f.decision)
tool_small a f h t =
    let l = limits_small a.limits h.limits in
    let n = h.numbers in
    let setpoint = f.sizes.held.setpoint in
    search (
      arith,
      abs_add setpoint a.limits.tul,
      abs_add setpoint a.limits.tll,
      value_size f.decision.mean t.decision.mean,
      number_size 1 32 a.tool n.tool,
      number_size 1 1000 a.k h.weight,
      number_size 0 20 a.mv n.mv,
      number_size 0 20 a.ev n.ev,
    )

pub zero_small : (a : ZeroMeasurement) → ZeroArgumentsPassed a → Small (zero_entries a)
zero_small a h = (omega (arith, number_size 0 1000000 a.tsa h.tsa), (omega (arith, number_size 1 4 a.offset h.numbers.offset), tt))
