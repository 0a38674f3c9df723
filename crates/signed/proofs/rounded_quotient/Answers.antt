-- `/` on a negative number is that on its magnitude, negated: so on either side it is (2·|n| + k) / (2·k) of naturals.
use mathlib.Core.Path.{◌≡◌, refl, ◌∙◌}
use Prim.Native.Nat.{ℕ, zero, suc, ◌+◌, ◌*◌, ◌/◌, ◌≤◌}
use native.Mathlib.Nat.{zero-div}
use native.Mathlib.Omega.{arith}
use lib.Dec.{ltb→lt}
use lib.IntN.{ℤ, pos, negsuc, neg_ℤ, nat_abs, ◌+ℤ◌, ◌-ℤ◌, ◌*ℤ◌}
use lib.Signed.{◌≤ℤ◌, ◌<ℤ◌, quot_z}
use mir.Syntax.{w32, w64}
use mir.Facts.{sfits_lit}
use Rattle.signed.specs.Differences.{ints, parts, neg_at}
use Rattle.signed.specs.RangeLaws.{lt_taken, lt_left, within_is}
use Rattle.signed.specs.CodeLaws.{compared}
use Rattle.signed.specs.Expressions.{Ex, at, lit, add, sub, mul, quot, cast, Runs, run}
use Rattle.signed.specs.Rounding.{halves_up, symmetric, rounded_quotient}
use Rattle.signed.proofs.rounded_quotient.Goals as goal
use Rattle.signed.proofs.rounded_quotient.Goals.{Start}

-- ---- the law
sum_below : (m j : ℕ) → pos 2 *ℤ negsuc m -ℤ pos j ≡ neg_ℤ (pos (2 * suc m + j))
sum_below m j = rw (neg_at j, neg_at (2 * suc m + j)) (simp ints (omega arith))

quotient_below : (n k : ℕ) → quot_z (neg_ℤ (pos n)) (pos k) ≡ neg_ℤ (pos (n / k))
quotient_below zero k = rw (zero-div k)
quotient_below (suc n) k = refl

below : (n k : ℤ) → n <ℤ pos 0 → pos 1 ≤ℤ k → quot_z (pos 2 *ℤ n -ℤ k) (pos 2 *ℤ k) ≡ rounded_quotient n (nat_abs k)
unfolding rounded_quotient symmetric halves_up
below n (negsuc k) l h = absurd h.le
below (pos n) (pos k) l h = absurd (omega (arith, ltb→lt n 0 l.lt))
below (negsuc n) (pos k) l h = rw (sum_below n k) (quotient_below (2 * suc n + k) (2 * k))

above : (n k : ℤ) → pos 0 ≤ℤ n → pos 1 ≤ℤ k → quot_z (pos 2 *ℤ n +ℤ k) (pos 2 *ℤ k) ≡ rounded_quotient n (nat_abs k)
unfolding rounded_quotient symmetric halves_up
above n (negsuc k) l h = absurd h.le
above (negsuc n) (pos k) l h = absurd l.le
above (pos n) (pos k) l h = refl

-- ---- the code's expressions
size_of : (k : ℤ) → (pos 1 ≤ℤ k) × (k ≤ℤ pos 1000) → nat_abs k ≤ 1000
size_of = parts _ (λ a b. simp ints (omega arith))

twice_pos : (k : ℤ) → pos 1 ≤ℤ k → pos 1 ≤ℤ (pos 2 *ℤ k)
twice_pos = parts _ (λ a b. simp ints (omega arith))

module _ (c : Start) where
  range : (pos 1 ≤ℤ c.args.k) × (c.args.k ≤ℤ pos 1000)
  range = within_is (pos 1) (pos 1000) c.args.k c.requires.k_value

  abbrev n : Ex w32
  n = cast w64 (at c.args.n 500000000 c.ranges.n c.requires.n_bound)

  abbrev k : Ex w32
  k = cast w64 (at c.args.k 1000 c.ranges.k (size_of c.args.k range))

  abbrev low : Ex w64
  low = cast w32 (quot (sub (mul (lit (pos 2)) n) k) (mul (lit (pos 2)) k))

  abbrev high : Ex w64
  high = cast w32 (quot (add (mul (lit (pos 2)) n) k) (mul (lit (pos 2)) k))

  runs_low : Runs low
  runs_low = run low tt (search (twice_pos c.args.k range.0))

  runs_high : Runs high
  runs_high = run high tt (search (twice_pos c.args.k range.0))

pub nonzero_div-result : goal.nonzero_div-result
nonzero_div-result c = search (runs_low c.before).asks

pub nonzero_div-result-2 : goal.nonzero_div-result-2
nonzero_div-result-2 c = search (runs_high c.before).asks

pub returns-then-n-lt0 : goal.returns-then-n-lt0
returns-then-n-lt0 c =
    let s = c.before in
    (runs_low s).value ∙ below s.args.n s.args.k (lt_taken (compared s.ranges.n (sfits_lit tt) c.if-n-lt0.true)) (range s).0

pub returns : goal.returns
returns c =
    let s = c.before in
    (runs_high s).value ∙ above s.args.n s.args.k (lt_left (compared s.ranges.n (sfits_lit tt) c.if-n-lt0.false)) (range s).0
