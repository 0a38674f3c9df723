-- The digits are written from the back: behind those still to be written stand those of the number.
use Rattle.std.proofs.Common.{ℕ, ◌+◌, ◌-◌, ◌^◌, ◌<◌, ◌≤◌, List, length, ap, arith}
use Rattle.std.proofs.Math.Decide.{dec_lt}
use Rattle.decimals.specs.DecimalLaws.{one_digit, decimal_longer}
use Rattle.decimals.proofs.Laws.{Behind, none_yet, within, same_size, next_digit, first_digit}
use Rattle.decimals.proofs.U32Decimal.put.Goals as goal
use Rattle.decimals.proofs.U32Decimal.put.Goals.{After-loop-k}

-- before the last digit is written there are more, and then one is left
more : {old new : List ℕ} {at n m k : ℕ} → Behind old at n new m k → at + 1 < k → 10 ≤ m
more {m = m} b h = go (dec_lt m 10)
  where
    go : Dec (m < 10) → 10 ≤ m
    go (yes l) = absurd (omega (arith, b.place, ap length (one_digit m l)))
    go (no l) = omega arith

one : {old new : List ℕ} {at n m k : ℕ} → m < 10 ^ 10 → Behind old at n new m k → k ≤ at + 1 → m < 10
one {m = m} s b h = go (dec_lt m 10)
  where
    go : Dec (m < 10) → m < 10
    go (yes l) = l
    go (no l) = absurd (omega (arith, b.place, decimal_longer 1 m (omega arith) s))

pub loop-k-init : goal.loop-k-init
loop-k-init c = record { fits = c.requires; small = omega arith; behind = rw c.digit_count.ensures (none_yet c.requires) }

pub loop-k-preserved : goal.loop-k-preserved
loop-k-preserved c =
    let i = c.loop-k.invariant in
    let k = c.loop-k.k in
    record {
      fits = i.fits;
      small = omega arith;
      behind = next_digit i.fits i.behind (k - 1) (omega arith) (more i.behind c.loop-k-test.true) (omega arith);
    }

last : (c : After-loop-k) → c.loop-k.m < 10
last c = one (omega arith) c.loop-k.invariant.behind c.loop-k-test.false

pub overflow_cast-out-2 : goal.overflow_cast-out-2
overflow_cast-out-2 c = omega (arith, last c)

pub overflow_add-out-2 : goal.overflow_add-out-2
overflow_add-out-2 c = omega (arith, last c)

pub bounds-out-at : goal.bounds-out-at
bounds-out-at c =
    let i = c.loop-k.invariant in
    omega (arith, within i.fits i.behind, same_size i.fits i.behind, i.behind.place, ap length (one_digit c.loop-k.m (last c)))

pub returns : goal.returns
returns c = let i = c.loop-k.invariant in (omega (arith, c.digit_count.ensures), first_digit i.fits i.behind (last c))
