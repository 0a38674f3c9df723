-- The growth and TSA are small, so that the magnitude and 2 * TSA are of 64 bits, and the code's test is that of the rule.
use Rattle.std.specs.Prelude.{◌≡◌, ◌<◌, ◌^◌, ℤ, pos, nat_abs, ◌*ℤ◌}
use Rattle.std.proofs.Common.{ap, ◌∙◌, arith, rules, w64, to_z, of_z, to_z-of_z}
use Rattle.signed.specs.Ranges.{size}
use Rattle.signed.specs.CodeLaws.{read}
use Rattle.signed.specs.Magnitudes.{abs_mul, fits_abs}
use Rattle.rules.specs.Zero.{growth}
use Rattle.offset_axes.proofs.growth_ok.Goals as goal

pub returns : goal.returns
returns c =
    let a = c.args.a in
    let g : ℤ = growth c.args.k a.probing c.args.s.sizes c.args.n in
    let grew : to_z w64 (of_z w64 c.growth_of.result) ≡ g =
    read c.growth_of.result c.growth_of.type_inv ∙ rw (to_z-of_z c.ranges.n) at c.growth_of.ensures.0 in
    let found : c.magnitude.result ≡ size g = c.magnitude.ensures ∙ ap size grew in
    let tsa : to_z w64 (of_z w64 a.tsa) ≡ a.tsa = search rules in
    let below : nat_abs (pos 2 *ℤ a.tsa) < 2 ^ 63 = simp abs_mul (omega (arith, c.requires)) in
    let double = to_z-of_z (fits_abs w64 (pos 2 *ℤ a.tsa) below) in
    rw (read c.magnitude.result c.magnitude.type_inv, tsa, double, found)
