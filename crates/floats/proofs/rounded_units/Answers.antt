-- The code's quotient is twice the u, cut; halved with one more it is the u, halves up. Each number is of 64 bits by the size of the digits.
use Prim.Native.Nat.{◌+◌, ◌-◌, ◌*◌, ◌/◌, ◌%◌}
use native.Mathlib.Omega.{arith}
use lib.Pow.{shr_le}
use Rattle.floats.proofs.Laws.{halved}
use Rattle.floats.proofs.rounded_units.Goals as goal

pub returns : goal.returns
returns c =
    let m = c.args.m in
    (halved (8388608 + m % 8388608) (150 - m / 8388608), omega (arith, shr_le (20000 * (8388608 + m % 8388608)) (150 - m / 8388608)))
