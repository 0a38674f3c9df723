-- From 10 ^ k on and below 10 * 10 ^ k a number has k + 1 digits.
use Rattle.std.proofs.Common.{◌≡◌, ℕ, suc, ◌+◌, ◌*◌, ◌^◌, ◌<◌, ◌≤◌, length, ap, arith}
use Rattle.std.proofs.Math.Nat.{pow-succ'}
use Rattle.decimals.specs.Decimals.{decimal}
use Rattle.decimals.specs.DecimalLaws.{one_digit, decimal_length, decimal_longer}
use Rattle.decimals.proofs.digit_count.Goals as goal

counted : (n k : ℕ) → n < 10 ^ 10 → 10 ^ k ≤ n → n < 10 * 10 ^ k → k + 1 ≡ length (decimal n)
counted n k b l h =
    let p : 10 ^ suc k ≡ 10 * 10 ^ k = pow-succ' 10 k in
    omega (arith, decimal_longer k n (omega arith) b, decimal_length k n (omega (arith, p)))

pub returns-then-n-lt10 : goal.returns-then-n-lt10
returns-then-n-lt10 c = omega (arith, ap length (one_digit c.args.n (omega arith)))

pub returns : goal.returns
returns c = counted c.args.n c.ilog10.result (omega arith) (omega arith) (omega arith)
