-- Bits with no sign above those of an infinity are none of a number, as 0 / 0 is; all others are read as they are.
use mathlib.Core.Path.{◌≡◌, sym, ◌∙◌, subst}
use mathlib.Core.Bool.{Bool, true, false, not}
use Prim.Native.Nat.{◌%◌}
use borrow.Author.Tests.{lt-ltb, le-ltb}
use lib.Dec.{T}
use lib.Ieee.{of_bits, div, nan_bits, binary32}
use lib.Ieee.Bits.{nan_bits_is, nan_bits_above}
use Rattle.floats.proofs.Laws.{is_nan_lem}
use Rattle.floats.proofs.float_of_bits.Goals as goal

pub returns-then-b-gt2139095040 : goal.returns-then-b-gt2139095040
unfolding div of_bits
returns-then-b-gt2139095040 c =
    let b = c.before.args.b in
    let e : nan_bits binary32 b ≡ true = nan_bits_above binary32 b ∙ lt-ltb 2139095040 (b % 2147483648) c.if-b-gt2139095040.true in
    sym (is_nan_lem (of_bits binary32 b) (sym (nan_bits_is binary32 b) ∙ e))

pub float_from_bits-result : goal.float_from_bits-result
float_from_bits-result c =
    let b = c.before.args.b in
    let e : nan_bits binary32 b ≡ false = nan_bits_above binary32 b ∙ le-ltb 2139095040 (b % 2147483648) c.if-b-gt2139095040.false in
    subst (λ (t : Bool). T (not t)) (sym e) tt
