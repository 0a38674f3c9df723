-- By cases: a plane's axis grows by twice its deviation, a pair's by its shift; each size is within the bound.
use Rattle.std.proofs.Common.{◌≡◌, refl, sym, ap, ◌∙◌, ◌≤◌, zero, suc, ℤ, pos, negsuc, ◌*ℤ◌, w64, arith, rules, to_z-of_z}
use Rattle.std.proofs.Math.IntN.{nat_abs}
use Rattle.signed.specs.CodeLaws.{read}
use Rattle.signed.specs.Expressions.{Ex, lit, bound, mul, sized, Runs, run}
use Rattle.package.specs.declared.found.Form.{Form}
use Rattle.package.specs.declared.found.Form.TheVariants.{Plane, Single, Double}
use Rattle.package.specs.declared.found.Sizes.{Sizes}
use Rattle.rules.specs.Kinds.{by_form}
use Rattle.rules.specs.Sizes.{pair_in}
use Rattle.sizes.specs.SizeLaws.{SizesSmall}
use Rattle.growths.proofs.growth_of.Goals as goal

-- ---- a plane: twice its deviation
abbrev twice : (d : ℤ) → nat_abs d ≤ 40000000 → Ex w64
twice d h = mul (lit (pos 2)) (bound d 40000000 h tt)

runs : (d : ℤ) (h : nat_abs d ≤ 40000000) → Runs (twice d h)
runs d h = run (twice d h) tt (search)

pub returns-in-Plane : goal.returns-in-Plane
returns-in-Plane c =
    let d = c.difference_of.result in
    let h = c.difference_of.ensures.1 in
    let corrected = rw (to_z-of_z c.ranges.n) at (sym c.corrects_on.ensures ∙ c.if-not-corrects_on.false) in
    rw (corrected, c.in-Plane.is)
    ((runs d h).value ∙ ap (λ (d : ℤ). pos 2 *ℤ d) c.difference_of.ensures.0, rw (runs d h).value (omega (arith, sized (twice d h))))

-- ---- a pair: its shift
shift_size : (s : Sizes) → SizesSmall s → (n : ℤ) → nat_abs (pair_in s n).shift ≤ 100000000
shift_size s t (pos zero) = omega arith
shift_size s t (pos (suc zero)) = omega (arith, t.abscissa.shift)
shift_size s t (pos (suc (suc zero))) = omega (arith, t.ordinate.shift)
shift_size s t (pos (suc (suc (suc n)))) = omega arith
shift_size s t (negsuc n) = omega arith

of_a_pair : {A : Type 0} (f : Form) (a b : A) → (f ≡ Plane → ⊥) → by_form f a b b ≡ b
of_a_pair Plane a b h = absurd (h refl)
of_a_pair Single a b h = refl
of_a_pair Double a b h = refl

pub returns-in_default : goal.returns-in_default
returns-in_default c =
    let a = c.args in
    let corrected = rw (to_z-of_z c.ranges.n) at (sym c.corrects_on.ensures ∙ c.if-not-corrects_on.false) in
    let pair = rw (to_z-of_z c.ranges.n) at c.pair_on.ensures in
    let shift = read c.pair_on.result.shift (search rules) ∙ ap (λ p. p.shift) pair in
    rw (corrected, shift) (sym (of_a_pair a.k.form _ _ c.in_default.not-Plane), shift_size a.s.sizes a.s.small a.n)
