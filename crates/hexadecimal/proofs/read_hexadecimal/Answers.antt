-- Before each turn n is what the bytes so far spell and good whether all are digits; after eight they tell the field, or the text is shorter.
use Rattle.std.proofs.Common.{◌≡◌, ◌^◌, ◌<◌, ◌≤◌, length, take, ap, ◌∙◌, arith, length-take-le, w64}
use native.Mathlib.Nat.{pow-le-pow_right}
use mir.Facts.{to_z_pos}
use Rattle.lists.specs.Each.{every}
use Rattle.hexadecimal.specs.Hexadecimal.{digits, digit, behind}
use Rattle.hexadecimal.proofs.Laws.{digit_taken, other_taken, all_taken, too_short, all_digits, not_digits}
use Rattle.hexadecimal.proofs.read_hexadecimal.Goals as goal
use Rattle.hexadecimal.proofs.read_hexadecimal.Goals.{then-d-gt15, else-d-gt15, After-loop-b}

-- after eight bytes
eight : (c : After-loop-b) → (digits ≤ length c.args.rest.bytes.now)
    × (behind 0 (take digits c.args.rest.bytes.now) ≡ c.loop-b.n) × (every digit (take digits c.args.rest.bytes.now) ≡ c.loop-b.good)
eight c =
    let e = c.in_ok-digits.ensures.cases in
    let t = all_taken (omega (arith, ap length e.same, length-take-le digits c.args.rest.bytes.now e.enough)) c.loop-b.invariant in
    let u = rw e.same at t in
    (e.enough, u.0, u.1)

pub returns-in_err-digits : goal.returns-in_err-digits
returns-in_err-digits c = rw c.from_residual.ensures (too_short c.args.rest.bytes.now c.in_err-digits.ensures.cases)

pub loop-b-preserved : goal.loop-b-preserved
loop-b-preserved c =
    let d = c.digit_of-d in
    let h : c.loop-b.b-index < length c.in_ok-digits.digits.now = omega arith in
    rw c.from.ensures (elim c.if-d-gt15.branch [
      | then-d-gt15 w ↦ rw w.good-is (other_taken d.result h d.ensures.0 d.ensures.1 c.loop-b.invariant w.if-d-gt15.true)
      | else-d-gt15 w ↦ rw w.good-is (digit_taken d.result h d.ensures.0 d.ensures.1 c.loop-b.invariant w.if-d-gt15.false)
    ])

pub returns-then-not-good : goal.returns-then-not-good
returns-then-not-good c =
    let e = eight (goal.at.returns-then-not-good c).After-loop-b in
    not_digits c.args.rest.bytes.now c.args.rest.ended e.0 (e.2 ∙ c.if-not-good.true)

pub returns : goal.returns
returns c =
    let e = eight (goal.at.returns c).After-loop-b in
    let p : 16 ^ c.loop-b.b-index ≤ 16 ^ 8 = pow-le-pow_right (omega arith) {j = 8} (omega arith) in
    rw (to_z_pos w64 {n = c.loop-b.n} (omega (arith, p, c.loop-b.invariant.small)))
    (all_digits c.args.rest.bytes.now c.args.rest.ended e.0 c.loop-b.n (e.2 ∙ c.if-not-good.false) e.1)
