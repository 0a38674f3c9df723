-- By the sign and the digits behind it: bad digits, no sign, a minus before 0, a minus before another number, each by its law of reading.
use Rattle.std.proofs.Common.{◌≡◌, drop, pos, neg_ℤ, ◌∙◌, arith, length-drop, w64, to_z, of_z, rules}
use Rattle.std.proofs.Math.IntN.{◌-ℤ◌}
use Rattle.text.specs.Pieces.{line_feed, field}
use Rattle.text.specs.PieceLaws.{up_le, field_within}
use Rattle.text.specs.Reading.{front, ReadsWhole}
use Rattle.text.proofs.Laws.{plain_read, nought_read, minus_read, bad_read, sign, no_sign, a_sign, sign_within}
use Rattle.text.proofs.Ended.read_number.Goals as goal
use Rattle.text.proofs.Ended.read_number.Goals.{In_ok-digits}

-- what is read behind the sign is read of the text there
behind : (c : In_ok-digits) → ReadsWhole (front c.in_ok-digits.digits.value c.in_ok-digits.digits.size) (field (drop (sign c.args.self.bytes.now) c.args.self.bytes.now))
behind c = rw (c.from_place.ensures, c.from.ensures) at c.in_ok-digits.ensures

pub from_place-requires : goal.from_place-requires
from_place-requires c = rw c.from.ensures (sign_within c.args.self.bytes.now c.args.self.ended)

pub returns-in_err-digits : goal.returns-in_err-digits
returns-in_err-digits c =
    let s = c.args.self.bytes.now in
    rw c.from_residual.ensures (bad_read s c.args.self.ended (rw (c.from_place.ensures, c.from.ensures) at c.in_err-digits.ensures))

pub returns-then-not-negative : goal.returns-then-not-negative
returns-then-not-negative c =
    let s = c.args.self.bytes.now in
    let q = c.if-not-negative.true in
    let back : to_z w64 (of_z w64 c.from-value.result) ≡ pos c.in_ok-digits.digits.value = search rules ∙ c.from-value.ensures in
    let b = behind (goal.at.returns-then-not-negative c).In_ok-digits in
    rw back (plain_read s _ _ q (rw (no_sign s q) at b))

pub returns-then-digits-eq0 : goal.returns-then-digits-eq0
returns-then-digits-eq0 c =
    let s = c.args.self.bytes.now in
    let q = c.if-not-negative.false in
    let b = behind (goal.at.returns-then-digits-eq0 c).In_ok-digits in
    nought_read s _ _ (omega arith) q (rw (a_sign s q) at b) c.if-digits-eq0.true

pub overflow_add-result : goal.overflow_add-result
overflow_add-result c =
    let s = c.args.self.bytes.now in
    let b = behind (goal.at.overflow_add-result c).In_ok-digits in
    omega (arith, b.0, field_within (drop (sign s) s), up_le line_feed (drop (sign s) s), length-drop (sign s) s)

pub returns : goal.returns
returns c =
    let s = c.args.self.bytes.now in
    let q = c.if-not-negative.false in
    let n = c.in_ok-digits.digits.value in
    let b = behind (goal.at.returns c).In_ok-digits in
    let z : to_z w64 (of_z w64 c.from-value.result) ≡ pos n = search rules ∙ c.from-value.ensures in
    let back : to_z w64 (of_z w64 (pos 0 -ℤ pos n)) ≡ neg_ℤ (pos n) = search rules in
    rw (z, back) (minus_read s _ _ (omega arith) q (rw (a_sign s q) at b) c.if-digits-eq0.false)
