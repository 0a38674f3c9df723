-- The new mean value is as small as the old one and d, so both calls are in their limits; in each branch the correction and the mean are small.
use Rattle.std.specs.Prelude.{◌≡◌, not, ◌≤◌, ◌<◌, ℤ, pos, nat_abs}
use Rattle.std.proofs.Common.{◌∙◌, arith, rules, w16, w64, to_z, of_z, to_z-of_z}
use Rattle.std.specs.Int.Signed.{mag}
use Rattle.signed.specs.Magnitudes.{abs_pos}
use Rattle.signed.specs.Ranges.{eq_z}
use Rattle.signed.specs.RangeLaws.{within_is, ≤ℤ-trans}
use Rattle.signed.specs.CodeLaws.{widened, read}
use Rattle.package.specs.Given.{ToolMeasurement}
use Rattle.rules.specs.Mean.{mean_step}
use Rattle.rules.specs.Tool.{weight, branch_of, decided}
use Rattle.rules.proofs.InRange.{left_in_range}
use Rattle.rules.specs.Passed.{ToolArgumentsPassed}
use Rattle.mean_value.specs.MeanSize.{mean_size}
use Rattle.evaluation.specs.FoundSmall.{value_size}
use Rattle.tool_offset.proofs.Laws.{small_value, correction_size}
use Rattle.tool_offset.proofs.decision_of.Goals as goal

some : (a : ToolMeasurement) → ToolArgumentsPassed a → 1 ≤ weight a
some a h = abs_pos a.k (within_is (pos 1) (pos 1000) a.k h.weight).0

-- the new mean m, by the old one and its size
next_size : (mean d m : ℤ) (a : ToolMeasurement) → m ≡ mean_step mean d (weight a) → ToolArgumentsPassed a → mag mean < 32768 → nat_abs d ≤ 100000000
    → nat_abs m ≤ 100000000
next_size mean d m a e h f k =
    rw e (mean_size mean d (weight a) 100000000 (some a h) (omega (arith, value_size mean (small_value mean f))) k)

pub decide-requires : goal.decide-requires
decide-requires c =
    let a = c.args.p.given in
    let m = c.mean_step-next in
    let old = (widened w16 w64 c.args.mean tt c.ranges.mean.sfits).value in
    let d = to_z-of_z c.ranges.d in
    let k : to_z w64 (of_z w64 a.k) ≡ a.k = search rules in
    let next : m.result ≡ mean_step c.args.mean c.args.d (weight a) = rw (old, d, k) at m.ensures in
    let size = next_size c.args.mean c.args.d m.result a next c.args.p.passed c.ranges.mean.sfits c.requires in
    rw (read m.result m.type_inv, d) (omega (arith, size), omega (arith, c.requires))

pub returns : goal.returns
unfolding decided
returns c =
    let a = c.args.p.given in
    let m = c.mean_step-next in
    let z = a.limits in
    let l = c.args.p.passed.limits in
    let old = (widened w16 w64 c.args.mean tt c.ranges.mean.sfits).value in
    let d = to_z-of_z c.ranges.d in
    let k : to_z w64 (of_z w64 a.k) ≡ a.k = search rules in
    let mv : to_z w64 (of_z w64 a.mv) ≡ a.mv = search rules in
    let next : m.result ≡ mean_step c.args.mean c.args.d (weight a) = rw (old, d, k) at m.ensures in
    let size = next_size c.args.mean c.args.d m.result a next c.args.p.passed c.ranges.mean.sfits c.requires in
    let e = rw (old, read m.result m.type_inv, d, c.names_mean.ensures, mv) at c.decide.ensures in
    let named = not (eq_z a.mv (pos 0)) in (
      e ∙ rw next,
      rw e
          (record {
            correction = correction_size 100000000 (branch_of z named m.result c.args.d) m.result c.args.d size c.requires;
            mean = left_in_range z named c.args.mean m.result c.args.d (≤ℤ-trans z.tzl z.tmv (pos 32767) l.tzl_tmv l.tmv_top)
                (small_value c.args.mean c.ranges.mean.sfits);
          }),
    )
