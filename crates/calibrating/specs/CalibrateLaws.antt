-- A calibration in place: by the two numbers of its probe's record that it reads, and by the two that it writes.
use Rattle.std.specs.Prelude.{◌≡◌, true, List, [], ◌∷◌, ◌++◌, ℕ, zero, suc, ◌-◌, ◌≤◌, ◌<◌, ℤ, pos, negsuc, length, get_or, set, take, Result, Err}
use Rattle.std.proofs.Math.Path.{refl}
use Rattle.std.proofs.Common.{sym, ap, ◌∙◌, arith, length-set, drop_of_length-le, get_or-take, w64, to_z, of_z}
use Rattle.std.proofs.lemmas.Int.{to_z_pos}
use Rattle.std.proofs.lemmas.List.{set_split}
use Rattle.std.proofs.Math.Seq.{take-set-lt}
use Rattle.package.specs.declared.refusals.Refusal.{Refusal}
use Rattle.package.specs.Refusals.{number, refusal_in}
use Rattle.package.specs.RefusalLaws.{number_some}
use Rattle.package.specs.Given.{Calibration, CalibrationReading}
use Rattle.signed.specs.RangeLaws.{or_zero, true_T, below_top}
use Rattle.rules.specs.Refusals.{first}
use Rattle.rules.specs.RefusalLaws.{test_passed, first_sooner}
use Rattle.rules.specs.WholeReadings.{calibration_whole}
use Rattle.rules.specs.Stores.{probe_number, probes, at}
use Rattle.rules.specs.Probes.{place_of}
use Rattle.rules.specs.Calibration.{calibration_arguments, calibration_arguments_with, calibration_at, good_calibration, Calibrated, calibrated_with, calibrated_probe}
use Rattle.rules.specs.Calls.{calibrate, calibrate_reading, rules}
use Rattle.calibration.specs.CalibratedLaws.{arguments, place_passed, direction_left, with_direction, probe_done, status_done}
use Rattle.layout.specs.Layout.{end, record_of, record_put}
use Rattle.layout.specs.LayoutLaws.{record_number, number_again, number_back}
use Rattle.area.specs.Table.{area_length, section_of, status_from, probe_from, record_from, held}
use Rattle.area.specs.RecordLaws.{triggers_are, section_in, at_held}
use Rattle.area.specs.Called.{unmeasured, called}
use Rattle.area.specs.CalledLaws.{call_refused, call_refused_by, call_done, same_called}

-- the 7 numbers of a record with a trigger and a status replaced
with_two : (zs : List ℤ) (at : ℕ) (t s : ℤ) → length zs ≡ 7 → at < 6 → set (set zs at t) 6 s ≡ set (take 6 zs) at t ++ (s ∷ [])
with_two zs at t s long low =
    let n = length-set zs at t in
    set_split (set zs at t) 6 s (omega arith) ∙ rw (take-set-lt 6 zs at t low, drop_of_length-le (set zs at t) {i = 7} (omega arith))

module _ (area : List ℤ) (whole : length area ≡ area_length) where
  -- what it is given is refused
  pub given_refused : (t : CalibrationReading) (e : Refusal) → number e ≡ first (calibration_arguments_with (good_calibration t) (calibration_at t))
      → {A : Type 0} {r : Result A Refusal} → r ≡ Err e → {after : List ℤ} → after ≡ area → unmeasured (refusal_in r) after ≡ called area (calibrate_reading t)
  given_refused t e n q =
      let some : number e ≡ suc (number e - 1) = let k = number_some e in omega (arith, k) in
      call_refused_by area (calibrate_reading t) whole q
      (some ∙ sym (first_sooner (calibration_arguments_with (good_calibration t) (calibration_at t)) _ (number e - 1) (sym n ∙ some)))

good_of : (t : CalibrationReading) → 0 ≡ first (calibration_arguments_with (good_calibration t) (calibration_at t)) → good_calibration t ≡ true
unfolding calibration_arguments_with
good_of t e = test_passed 13 (calibration_arguments_with (good_calibration t) (calibration_at t)) tt (sym e)

-- the calibration with the position that its raw gives, where that passed
pub given_passed : (area : List ℤ) (t : CalibrationReading) → 0 ≡ first (calibration_arguments_with (good_calibration t) (calibration_at t))
    → called area (calibrate (calibration_at t)) ≡ called area (calibrate_reading t)
given_passed area t e = sym (same_called area (calibration_whole t (good_of t e)))

-- ---- a whole position
probe_held : (n : ℤ) → probe_number n ≡ true → to_z w64 (of_z w64 n) ≡ n
probe_held (pos zero) e = absurd (true_T e)
probe_held (pos (suc i)) e = to_z_pos w64 (suc i) (omega (arith, below_top i 3 e))
probe_held (negsuc i) e = absurd (true_T e)

-- the probe of what passed, by its number as the code has it
pub probe_in : (a : Calibration) → first (calibration_arguments a) ≡ 0 → probe_number (to_z w64 (of_z w64 a.probe)) ≡ true
probe_in a passed = let e = (arguments a passed).probe in rw (probe_held a.probe e) e

module _ (area : List ℤ) (whole : length area ≡ area_length) (a : Calibration) where
  pub arguments_refused : (n : ℕ) → n ≡ first (calibration_arguments a) → (n ≡ 0 → ⊥) → unmeasured n area ≡ called area (calibrate a)
  arguments_refused n e z =
      let some : n ≡ suc (n - 1) = omega (arith, z) in
      call_refused area (calibrate a) whole (some ∙ sym (first_sooner (calibration_arguments a) _ (n - 1) (sym e ∙ some))) z

  -- ---- what passed
  module _ (passed : first (calibration_arguments a) ≡ 0) (j : ℕ) (place_is : place_of a.axis a.direction ≡ suc j) where
    abbrev numbers : List ℤ
    numbers = record_of (section_of probes) area a.probe

    low : j < 6
    low = omega (arith, place_passed a passed, place_is)

    numbers_long : length numbers ≡ 7
    numbers_long = record_number (section_of probes) area (section_in area (omega arith) probes) a.probe (arguments a passed).probe

    probe_is : at (held area) probes a.probe ≡ record_from probes numbers
    probe_is = at_held area (omega arith) probes a.probe (or_zero 3 a.probe (arguments a passed).probe)

    -- what it finds
    abbrev pub found : Calibrated
    found = calibrated_with (get_or numbers j (pos 0)) (status_from (get_or numbers 6 (pos 0))) a

    triggers_is : (probe_from numbers).triggers ≡ take 6 numbers
    triggers_is = triggers_are numbers (omega (arith, numbers_long))

    found_is : found ≡ direction_left (at (held area) probes a.probe) a
    found_is =
        ap (λ (t : ℤ). calibrated_with t (status_from (get_or numbers 6 (pos 0))) a)
        (sym (get_or-take 6 numbers j (pos 0) low) ∙ ap (λ (ts : List ℤ). get_or ts j (pos 0)) (sym triggers_is))
        ∙ rw (probe_is, place_is)

    refusal_is : (direction_left (at (held area) probes a.probe) a).refusal ≡ first (rules (held area) (calibrate a))
    unfolding calibrated_with
    refusal_is = refl

    pub status_small : found.refusal ≡ 0 → found.status < 64
    status_small e = rw found_is (status_done (at (held area) probes a.probe) a passed (ap (λ (c : Calibrated). c.refusal) (sym found_is) ∙ e))

    pub found_refused : (found.refusal ≡ 0 → ⊥) → unmeasured found.refusal area ≡ called area (calibrate a)
    found_refused z = call_refused area (calibrate a) whole (ap (λ (c : Calibrated). c.refusal) found_is ∙ refusal_is) z

    -- the same of a call that answers its refusal
    pub refused_by_found : (e : Refusal) → number e ≡ found.refusal → {A : Type 0} {r : Result A Refusal} → r ≡ Err e
        → unmeasured (refusal_in r) area ≡ called area (calibrate a)
    refused_by_found e n q = rw (q, n) (found_refused (λ z. number_some e (n ∙ z)))

    -- what it writes
    by_found : found.refusal ≡ 0 → {after : List ℤ}
        → after ≡ record_put (section_of probes) area a.probe (set (set numbers j found.trigger) 6 (pos found.status)) → unmeasured 0 after ≡ called area (calibrate a)
    by_found z e =
        let x = at (held area) probes a.probe in
        let none : (direction_left x a).refusal ≡ 0 = ap (λ (c : Calibrated). c.refusal) (sym found_is) ∙ z in
        let new : calibrated_probe x a ≡ with_direction (record_from probes numbers) a found = probe_done x a none ∙ rw (← found_is, probe_is) in
        call_done area (calibrate a) whole (sym refusal_is ∙ none) refl
        (e ∙ ap (record_put (section_of probes) area a.probe)
        (with_two numbers j found.trigger (pos found.status) numbers_long low
        ∙ ap (λ (ts : List ℤ). set ts j found.trigger ++ (pos found.status ∷ [])) (sym triggers_is)
        ∙ rw (new, place_is)))

    pub found_put : {c : Calibrated} → c ≡ found → c.refusal ≡ 0 → {after : List ℤ}
        → after ≡ record_put (section_of probes) area a.probe (set (set numbers j c.trigger) 6 (pos c.status)) → unmeasured 0 after ≡ called area (calibrate a)
    found_put q z e = by_found (rw q at z) (rw q at e)

    -- the same of two writes, one after the other
    pub found_done : {c : Calibrated} → c ≡ found → c.refusal ≡ 0 → {once after : List ℤ}
        → once ≡ record_put (section_of probes) area a.probe (set numbers j c.trigger)
        → after ≡ record_put (section_of probes) once a.probe (set (record_of (section_of probes) once a.probe) 6 (pos c.status))
        → unmeasured 0 after ≡ called area (calibrate a)
    found_done {c} q z e f =
        let p = section_of probes in
        let n = (arguments a passed).probe in
        let inside : end p ≤ length area = section_in area (omega arith) probes in
        let long : length (set numbers j c.trigger) ≡ 7 = length-set numbers j c.trigger ∙ numbers_long in
        found_put q z
        (f ∙ rw (e, number_back p area inside (set numbers j c.trigger) long a.probe n)
        (number_again p area inside (set numbers j c.trigger) long a.probe (or_zero 3 a.probe n) _ (simp length-set numbers_long)))
