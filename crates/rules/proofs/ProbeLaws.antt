-- Laws of the status that a calibration leaves.
use Rattle.std.specs.Prelude.{◌≡◌, Bool, true, false, ◌&&◌, ◌||◌, ℕ, suc, ◌-◌, ◌^◌, ◌<◌, T, ℤ, pos}
use Rattle.std.proofs.Math.Path.{refl}
use Rattle.std.proofs.Common.{◌∙◌, mod-lt, arith}
use Rattle.std.specs.Bool.{beq}
use Rattle.std.proofs.lemmas.Nat.{or_lt}
use Rattle.std.proofs.Math.Pow.{pow-lt}
use Rattle.lists.specs.Every.{every_at}
use Rattle.signed.specs.Ranges.{eq_z}
use Rattle.signed.specs.RangeLaws.{eq_z_same}
use Rattle.package.specs.declared.records.Probe.{Probe}
use Rattle.package.specs.Given.{Calibration}
use Rattle.rules.specs.Stores.{axis_number, direction_number}
use Rattle.rules.specs.Probes.{on, place_of, six_bits, marked, mark, calibrated_in}
use Rattle.rules.specs.Calibration.{status_left, calibrated_probe}
use Rattle.rules.specs.ProbeLaws.{every_direction, each_direction, place_in}

module _ (axis direction : ℤ) (h : axis_number axis ≡ true) (k : direction_number direction ≡ true) where
  -- a status of six bits stays one where the bit of a place is set
  mark_small : (s : ℕ) → s < 64 → mark s (place_of axis direction) < 64
  mark_small s hs = or_lt 6 s (2 ^ (place_of axis direction - 1)) hs (pow-lt {j = 6} (omega (arith, place_in)))

-- ---- the status
status_small : (status : ℕ) → six_bits status < 64
status_small status = mod-lt status (omega arith)

-- ---- a calibration
beq→eq : (a b : Bool) → T (beq a b) → a ≡ b
beq→eq true true t = refl
beq→eq true false t = absurd t
beq→eq false true t = absurd t
beq→eq false false t = refl

-- whether of the status s with the bit of one direction set, exactly that direction and those before are calibrated
sets : ℕ → ℤ → ℤ → ℤ → ℤ → Bool
sets s axis direction a d =
    beq (marked (six_bits (mark s (place_of axis direction))) (place_of a d)) ((eq_z a axis && eq_z d direction) || marked s (place_of a d))

module _ (a : Calibration) (axis_in : axis_number a.axis ≡ true) (direction_in : direction_number a.direction ≡ true) where
  -- the status that it leaves has six bits
  pub status_left_lem : (status : ℕ) → status_left status a < 64
  unfolding status_left
  status_left_lem status = mark_small a.axis a.direction axis_in direction_in (six_bits status) (status_small status)

  -- the directions calibrated after it are the one given and those calibrated before
  pub calibrated_after : (status : ℕ) (axis direction : ℤ) → axis_number axis ≡ true → direction_number direction ≡ true →
      calibrated_in (status_left status a) (on axis direction) ≡ ((eq_z axis a.axis && eq_z direction a.direction) || calibrated_in status (on axis direction))
  unfolding calibrated_in status_left place_of sets
  calibrated_after status axis direction h k =
      let s = six_bits status in
      let all = every_at 64 (λ s. every_direction (λ i d. every_direction (λ j e. sets s (pos (suc i)) (pos d) (pos (suc j)) (pos e)))) tt s
      (status_small status) in
      let one = each_direction (λ i d. every_direction (λ j e. sets s i d (pos (suc j)) (pos e))) all a.axis a.direction axis_in direction_in in
      beq→eq _ _ (each_direction (sets s a.axis a.direction) one axis direction h k)

  -- "Either way the bit is set."
  pub marked_after : (x : Probe) → calibrated_in (calibrated_probe x a).status (on a.axis a.direction) ≡ true
  unfolding calibrated_probe
  marked_after x =
      calibrated_after x.status a.axis a.direction axis_in direction_in
      ∙ rw (eq_z_same a.axis a.axis refl, eq_z_same a.direction a.direction refl)
