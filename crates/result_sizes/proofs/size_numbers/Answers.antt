-- Each of the twelve entries is small, so that it is stored as it is, the differences too; the array is filled entry by entry.
use Rattle.std.proofs.Common.{◌≡◌, ap, ap₂, ◌∙◌, ℕ, ◌≤◌, ◌<◌, ◌^◌, ℤ, pos, ◌-ℤ◌, get_or, arith, rules, SFits, to_z, of_z, to_z-of_z}
use Rattle.std.proofs.Math.IntN.{nat_abs}
use Rattle.std.specs.Int.{w64}
use Rattle.std.specs.Int.Signed.{mag}
use Rattle.signed.specs.CodeLaws.{read}
use Rattle.lists.specs.Each.{each_at}
use Rattle.package.specs.declared.arguments.Probing.{Probing}
use Rattle.package.specs.declared.found.Kind.{Kind}
use Rattle.package.specs.declared.found.Sizes.{Sizes}
use Rattle.rules.specs.Kinds.{by_form}
use Rattle.rules.specs.Sizes.{less_ev, difference}
use Rattle.rules.specs.Results.{ovr, size_entries}
use Rattle.result_sizes.specs.ResultSizes.{Small}
use Rattle.result_sizes.specs.ResultLaws.{small_fits, asked, kept, stored}
use Rattle.result_sizes.proofs.size_numbers.Goals as goal

module _ (k : Kind) (a : Probing) (s : Sizes) (ev : ℤ) (small : Small (size_entries k a s ev)) where
  -- the size of a number, by its place in the list of entries
  sized : (i : ℕ) → i < 12 → nat_abs (get_or (size_entries k a s ev) i (ovr 0 (pos 0))).number ≤ 1000000000
  sized i h = each_at (λ e. nat_abs e.number ≤ 1000000000) (size_entries k a s ev) i (ovr 0 (pos 0)) small h

  -- the size less EV, and less its setpoint too, as the code reckons them
  less_fits : SFits w64 (less_ev s.held ev)
  less_fits = small_fits (less_ev s.held ev) (sized 3 (omega arith))

  module _ (f : mag s.held.size < 2 ^ 63) (g : mag ev < 2 ^ 63) where
    less_read : (to_z w64 (of_z w64 s.held.size) -ℤ to_z w64 (of_z w64 ev)) ≡ less_ev s.held ev
    less_read = ap₂ ◌-ℤ◌ (read s.held.size f) (read ev g)

    difference_read : (to_z w64 (of_z w64 (to_z w64 (of_z w64 s.held.size) -ℤ to_z w64 (of_z w64 ev))) -ℤ to_z w64 (of_z w64 s.held.setpoint)) ≡ difference s.held ev
    difference_read =
        ap₂ ◌-ℤ◌
        (ap (λ (z : ℤ). to_z w64 (of_z w64 z)) less_read ∙ to_z-of_z less_fits)
        (to_z-of_z (small_fits s.held.setpoint (sized 0 (omega arith))))

pub overflow_sub-s : goal.overflow_sub-s
overflow_sub-s c =
    let a = c.args in
    rw (less_read a.k a.a a.s a.ev c.requires (search rules) (search rules)) (less_fits a.k a.a a.s a.ev c.requires)

pub overflow_sub-s-2 : goal.overflow_sub-s-2
overflow_sub-s-2 c =
    let a = c.args in
    rw (less_read a.k a.a a.s a.ev c.requires (search rules) (search rules)) (less_fits a.k a.a a.s a.ev c.requires)

pub overflow_sub-s-3 : goal.overflow_sub-s-3
overflow_sub-s-3 c =
    let a = c.args in
    rw (difference_read a.k a.a a.s a.ev c.requires (search rules) (search rules))
    (small_fits (difference a.s.held a.ev) (sized a.k a.a a.s a.ev c.requires 6 (omega arith)))

pub narrow-requires-7 : goal.narrow-requires-7
narrow-requires-7 c =
    let a = c.args in
    rw (difference_read a.k a.a a.s a.ev c.requires (search rules) (search rules))
    (asked (difference a.s.held a.ev) (sized a.k a.a a.s a.ev c.requires 6 (omega arith)))

pub returns : goal.returns
returns c =
    let a = c.args in
    let small = sized a.k a.a a.s a.ev c.requires in
    let less = less_read a.k a.a a.s a.ev c.requires (search rules) (search rules) in
    let difference_is = difference_read a.k a.a a.s a.ev c.requires (search rules) (search rules) in
    rw (
      stored a.s.held.setpoint (small 0 (omega arith)) c.narrow.ensures,
      stored a.s.abscissa.set (small 1 (omega arith)) c.narrow-2.ensures,
      stored a.s.ordinate.set (small 2 (omega arith)) c.narrow-3.ensures,
      stored (less_ev a.s.held a.ev) (small 3 (omega arith)) (c.narrow-4.ensures ∙ ap (λ (z : ℤ). to_z w64 (of_z w64 z)) less),
      stored a.s.abscissa.centre (small 4 (omega arith)) c.narrow-5.ensures,
      stored a.s.ordinate.centre (small 5 (omega arith)) c.narrow-6.ensures,
      stored (difference a.s.held a.ev) (small 6 (omega arith)) (c.narrow-7.ensures ∙ ap (λ (z : ℤ). to_z w64 (of_z w64 z)) difference_is),
      stored a.s.abscissa.shift (small 7 (omega arith)) c.narrow-8.ensures,
      stored a.s.ordinate.shift (small 8 (omega arith)) c.narrow-9.ensures,
      kept (by_form a.k.form (pos 978) (pos 977) (pos 977)) (small 9 (omega arith)) c.cycle_of.ensures,
      stored a.a.kind (small 10 (omega arith)) c.narrow-10.ensures,
      stored a.a.probe (small 11 (omega arith)) c.narrow-11.ensures,
    )
