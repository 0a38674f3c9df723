-- By the sign: below 0 the minus is written, then the magnitude's digits behind it; from 0 on the digits alone.
use Rattle.std.proofs.Common.{[], ◌∷◌, pos, arith, ◌≤ℤ◌, ◌<ℤ◌}
use lib.IntN.{nat_abs}
use mir.Facts.{to_z-of_z}
use Rattle.signed.specs.RangeLaws.{lt_taken, lt_left}
use Rattle.text.specs.Pieces.{minus}
use Rattle.decimals.specs.Decimals.{decimal}
use Rattle.decimals.specs.DecimalLaws.{signed_below, signed_from}
use Rattle.decimals.specs.BufferLaws.{fits_next, chain}
use Rattle.decimals.proofs.I32Decimal.put.Goals as goal

pub put_byte-k-requires : goal.put_byte-k-requires
put_byte-k-requires c =
    let l : c.args.self <ℤ pos 0 = lt_taken (rw (to_z-of_z c.ranges.self) at c.if-self-lt0.true) in
    let room = rw (signed_below c.args.self l) at c.requires in omega (arith, room)

pub put-requires : goal.put-requires
put-requires c =
    let z = c.args.self in
    let l : z <ℤ pos 0 = lt_taken (rw (to_z-of_z c.ranges.self) at c.if-self-lt0.true) in
    let room = rw (signed_below z l) at c.requires in
    rw (c.unsigned_abs.ensures.value, to_z-of_z c.ranges.self)
    (fits_next c.args.out.now _ c.args.at _ (minus ∷ []) (decimal (nat_abs z)) room c.put_byte-k.ensures)

pub returns-then-self-lt0 : goal.returns-then-self-lt0
returns-then-self-lt0 c =
    let z = c.args.self in
    let l : z <ℤ pos 0 = lt_taken (rw (to_z-of_z c.ranges.self) at c.if-self-lt0.true) in
    let room = rw (signed_below z l) at c.requires in
    rw (signed_below z l)
    (chain c.args.out.now c.put_byte-k.new.out _ c.args.at c.put_byte-k.result _ (minus ∷ []) _ room c.put_byte-k.ensures
    (rw (c.unsigned_abs.ensures.value, to_z-of_z c.ranges.self) at c.put.ensures))

pub put-requires-2 : goal.put-requires-2
put-requires-2 c =
    let z = c.args.self in
    let l : pos 0 ≤ℤ z = lt_left (rw (to_z-of_z c.ranges.self) at c.if-self-lt0.false) in
    rw (c.unsigned_abs-2.ensures.value, to_z-of_z c.ranges.self) (rw (signed_from z l) at c.requires)

pub returns : goal.returns
returns c =
    let z = c.args.self in
    let l : pos 0 ≤ℤ z = lt_left (rw (to_z-of_z c.ranges.self) at c.if-self-lt0.false) in
    rw (signed_from z l) (rw (c.unsigned_abs-2.ensures.value, to_z-of_z c.ranges.self) at c.put-2.ensures)
