-- By where the byte lies: a difference of at most 9 to 0, or of at most 5 to a, is that of a digit, and every other byte is none.
use Rattle.std.proofs.Common.{arith}
use Rattle.hexadecimal.proofs.Laws.{decimal_digit, letter_digit, no_digit}
use Rattle.hexadecimal.proofs.digit_of.Goals as goal

pub returns-then-d-le9 : goal.returns-then-d-le9
returns-then-d-le9 c = let b = c.args.b in (omega (arith, decimal_digit b (omega arith) (omega arith)), omega arith)

pub returns-then-e-le5 : goal.returns-then-e-le5
returns-then-e-le5 c = let b = c.args.b in (omega (arith, letter_digit b (omega arith) (omega arith)), omega arith)

pub returns : goal.returns
returns c =
    let b = c.args.b in
    (omega (arith, no_digit b (λ l m. omega arith) (λ l m. omega arith)), omega arith)
