-- What is known of the units of a float.
use Rattle.std.specs.Prelude.{◌≡◌, Bool, true, false, ℕ, ◌+◌, ◌-◌, ◌*◌, ◌≤◌, ◌<◌, ℤ, pos, nat_abs, ◌-ℤ◌, ◌*ℤ◌}
use Rattle.std.proofs.Common.{arith, div-add-mod', mod-lt}
use Rattle.std.specs.Float.{fin}
use Rattle.std.specs.Float.Ieee.{up, down}
use Rattle.std.specs.Float.Ieee.Fits.{down_pos}
use Rattle.signed.specs.Differences.{ints, neg_at}
use Rattle.signed.specs.Rounding.{halves_up}
use Rattle.signed.specs.RoundingLaws.{halves_up_lem}
use Rattle.rules.specs.Readings.{signed, units_rounding, units_of}
use Rattle.rules.specs.ReadingLaws.{size_signed}

-- ---- the units are the whole number nearest to 10,000·x, the one farther from zero of two: with x = ±m·up e / down e, multiplied out
distance : (s : Bool) (n k q : ℕ) → nat_abs (signed s n -ℤ pos k *ℤ signed s q) ≡ (n - k * q) + (k * q - n)
distance false n k q = simp ints (omega arith)
distance true n k q = rw (neg_at n, neg_at q) (simp ints (omega arith))

away : (n k : ℕ) → 1 ≤ k → 2 * n < 2 * (k * units_rounding n k) + k
unfolding halves_up
away n k h = omega (arith, div-add-mod' (2 * n + k) (2 * k), mod-lt (2 * n + k) {m = 2 * k} (omega arith))

module _ (s : Bool) (m : ℕ) (e : ℤ) where
  abbrev exact : ℤ
  exact = signed s (10000 * (m * up e))

  pub units_nearest : 2 * nat_abs (exact -ℤ pos (down e) *ℤ units_of (fin s m e)) ≤ down e
  unfolding units_of
  units_nearest =
      let n = 10000 * (m * up e) in
      rw (distance s n (down e) (units_rounding n (down e))) (omega (arith, halves_up_lem n (down e) (down_pos e)))

  pub units_away : 2 * nat_abs (exact -ℤ pos (down e) *ℤ units_of (fin s m e)) ≡ down e → 10000 * (m * up e) ≤ down e * nat_abs (units_of (fin s m e))
  unfolding units_of
  units_away h =
      let n = 10000 * (m * up e) in
      let d : 2 * ((n - down e * units_rounding n (down e)) + (down e * units_rounding n (down e) - n)) ≡ down e =
      rw (distance s n (down e) (units_rounding n (down e))) at h in
      rw (size_signed s (units_rounding n (down e))) (omega (arith, d, away n (down e) (down_pos e)))
