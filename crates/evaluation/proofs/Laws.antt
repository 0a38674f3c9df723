-- A small number that the code casts to 32 bits.
use Prim.Native.Nat.{◌≤◌}
use lib.IntN.{ℤ, nat_abs}
use mir.Syntax.{w32, w64}
use mir.Val.{SFits}
use mir.Facts.{to_z-of_z}
use Rattle.signed.specs.Expressions.{in_range_lem}
use Rattle.signed.specs.CodeLaws.{Cast}

pub narrowed : (z : ℤ) → nat_abs z ≤ 100000000 → Cast w32 z
narrowed z h =
    let f : SFits w64 z = in_range_lem z 100000000 h tt in
    let g : SFits w32 z = in_range_lem z 100000000 h tt in
    record { fits = rw (to_z-of_z f) g; value = rw (to_z-of_z f) (to_z-of_z g) }
