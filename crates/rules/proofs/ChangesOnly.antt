-- "changes only that mean and that wear or offset": a call keeps every record that none of its changes names, and of a record that one names it keeps the
-- numbers that it does not measure.
use Rattle.std.specs.Prelude.{◌≡◌, Bool, true, false, not, ◌&&◌, ◌||◌, List, [], ◌∷◌, ℕ, zero, suc, eqb, ℤ, pos, negsuc}
use Rattle.std.proofs.Math.Path.{refl}
use Rattle.std.proofs.Common.{sym, ◌∙◌, arith}
use Rattle.signed.specs.Ranges.{eq_z}
use Rattle.signed.specs.RangeLaws.{true_T, below_top}
use Rattle.package.specs.declared.records.Wear.{Wear}
use Rattle.package.specs.Given.{CalibrationReading, ToolReadings, ZeroMeasurement, ZeroReadings}
use Rattle.package.specs.declared.found.ZeroRecords.{ZeroRecords}
use Rattle.rules.specs.Stores.{Package, axis_number, direction_number, StoreName, probes, empiricals, means, tools, offsets, entries, at}
use Rattle.rules.specs.StoreLaws.{pick_other, pick_either}
use Rattle.rules.specs.Probes.{on, place_of, stored_trigger, calibrated_in}
use Rattle.rules.specs.ProbeLaws.{places_differ}
use Rattle.rules.proofs.ProbeLaws.{calibrated_after}
use Rattle.rules.specs.Calibration.{calibrated_probe, calibration_at, good_calibration}
use Rattle.rules.specs.Tool.{lengthwise, wear_on, with_wear_on, wear_left, wears_left, tool_at}
use Rattle.rules.specs.Zero.{zero_kind_of, corrects, axis_of, axis_left, offset_left, zero_at}
use Rattle.rules.specs.Changes.{Change, made, made_all}
use Rattle.rules.proofs.Passed.{calibration_call_passed}
use Rattle.rules.specs.Calls.{Call, set_empirical, set_wear, set_offset, calibrate_reading, read_status, measure_tool_readings, measure_zero_readings, load, save, refusal, changes, step, tool_read, zero_read}
use Rattle.rules.specs.CallLaws.{by_step}
use Rattle.rules.specs.ChangesOnly.{Keeps, one_keeps, the, Only, axis_kept}

all_keep : (cs : List Change) (p : Package) → Keeps cs p (made_all p cs)
all_keep [] p s n e = refl
all_keep (c ∷ cs) p s n e = all_keep cs (made p c) s n e.1 ∙ one_keeps p c s n (e.0, tt)

pub step_keeps : (p : Package) (c : Call) → Keeps (changes p c) p (step p c)
step_keeps p c = by_step p c (Keeps (changes p c) p) (λ s n e. refl) (λ e. all_keep (changes p c) p)

-- "Setting calls replace one EV, one tool's two wears or one zero offset."
pub empirical_only : (p : Package) (ev value : ℤ) → Only (the empiricals ev ∷ []) p (step p (set_empirical ev value))
empirical_only p ev value = step_keeps p (set_empirical ev value)

pub wears_only : (p : Package) (tool radius length : ℤ) → Only (the tools tool ∷ []) p (step p (set_wear tool radius length))
wears_only p tool radius length = step_keeps p (set_wear tool radius length)

pub offset_only : (p : Package) (offset v1 v2 v3 : ℤ) → Only (the offsets offset ∷ []) p (step p (set_offset offset v1 v2 v3))
offset_only p offset v1 v2 v3 = step_keeps p (set_offset offset v1 v2 v3)

pub calibration_only : (p : Package) (t : CalibrationReading) → Only (the probes t.probe ∷ []) p (step p (calibrate_reading t))
calibration_only p t = step_keeps p (calibrate_reading t)

-- "changes only that mean and that wear or offset"
pub tool_only : (p : Package) (t : ToolReadings) (array : List ℤ) (place : ℕ)
    → Only (the means t.mv ∷ the tools t.tool ∷ []) p (step p (measure_tool_readings t array place))
tool_only p t array place = step_keeps p (measure_tool_readings t array place)

pub zero_only : (p : Package) (t : ZeroReadings) (array : List ℤ) (place : ℕ)
    → Only (the offsets t.offset ∷ []) p (step p (measure_zero_readings t array place))
zero_only p t array place = step_keeps p (measure_zero_readings t array place)

-- "Loading replaces all forty": every record of every other store stays
pub load_only : (p : Package) (bytes : List ℕ) (s : StoreName) (n : ℤ) → (eqb empiricals s || eqb means s) ≡ false → at (step p (load bytes)) s n ≡ at p s n
load_only p bytes s n e = step_keeps p (load bytes) s n ((go (eqb empiricals s) (eqb means s) e).0, ((go (eqb empiricals s) (eqb means s) e).1, tt))
  where
    go : (a b : Bool) → (a || b) ≡ false → (a ≡ false) × (b ≡ false)
    go true b e = absurd (true_T (sym e))
    go false b e = (refl, e)

-- a status read and a save change nothing
pub status_nothing : (p : Package) (probe : ℤ) → step p (read_status probe) ≡ p
status_nothing p probe = by_step p (read_status probe) (λ q. q ≡ p) refl (λ e. refl)

pub save_nothing : (p : Package) (buffer : List ℕ) → step p (save buffer) ≡ p
save_nothing p buffer = by_step p (save buffer) (λ q. q ≡ p) refl (λ e. refl)

-- ---- a measurement with tool offset: of no tool the other wear
other_wear : (b : Bool) (w : Wear) (v : ℤ) → wear_on (not b) (with_wear_on b w v) ≡ wear_on (not b) w
other_wear true w v = refl
other_wear false w v = refl

pub tool_other_wear : (p : Package) (t : ToolReadings) (array : List ℤ) (place : ℕ) (n : ℤ) →
    wear_on (not (lengthwise (tool_at t))) (at (step p (measure_tool_readings t array place)) tools n) ≡ wear_on (not (lengthwise (tool_at t))) (at p tools n)
unfolding wears_left
tool_other_wear p t array place n =
    by_step p (measure_tool_readings t array place) (λ q. wear_on b (at q tools n) ≡ wear_on b (at p tools n)) refl
    (λ e. pick_either (λ w. wear_on b w ≡ wear_on b (at p tools n)) _ (entries p tools) n t.tool _ refl
    (λ q. rw q (other_wear (lengthwise (tool_at t)) (at p tools t.tool) (wear_left (tool_read p (tool_at t)) (tool_at t)))))
  where
    b : Bool
    b = not (lengthwise (tool_at t))

-- ---- a measurement with zero offset: of no offset an axis that it does not measure
offset_axis : (r : ZeroRecords) (a : ZeroMeasurement) (n : ℤ) → axis_number n ≡ true → axis_of (offset_left r a) n ≡ axis_left r a n
unfolding offset_left
offset_axis r a (pos zero) e = absurd (true_T e)
offset_axis r a (pos (suc zero)) e = refl
offset_axis r a (pos (suc (suc zero))) e = refl
offset_axis r a (pos (suc (suc (suc zero)))) e = refl
offset_axis r a (pos (suc (suc (suc (suc i))))) e = absurd (omega (arith, below_top (suc (suc (suc i))) 3 e))
offset_axis r a (negsuc i) e = absurd (true_T e)

pub zero_other_axis : (p : Package) (t : ZeroReadings) (array : List ℤ) (place : ℕ) (m n : ℤ) → axis_number n ≡ true
    → corrects (zero_kind_of (zero_at t)) t.probing n ≡ false →
    axis_of (at (step p (measure_zero_readings t array place)) offsets m) n ≡ axis_of (at p offsets m) n
zero_other_axis p t array place m n h k =
    by_step p (measure_zero_readings t array place) (λ q. axis_of (at q offsets m) n ≡ axis_of (at p offsets m) n) refl
    (λ e. pick_either (λ o. axis_of o n ≡ axis_of (at p offsets m) n) _ (entries p offsets) m t.offset _ refl
    (λ q. rw q (offset_axis (zero_read p (zero_at t)) (zero_at t) n h ∙ axis_kept (zero_read p (zero_at t)) (zero_at t) n k)))

-- ---- a calibration: of no probe another trigger, or another direction's bit
module _ (p : Package) (c : CalibrationReading) (m axis direction : ℤ) (h : axis_number axis ≡ true) (k : direction_number direction ≡ true)
    (other : (eq_z axis c.axis && eq_z direction c.direction) ≡ false) where
  pub calibration_other_trigger : stored_trigger (at (step p (calibrate_reading c)) probes m) axis direction ≡ stored_trigger (at p probes m) axis direction
  unfolding refusal calibrated_probe
  calibration_other_trigger =
      by_step p (calibrate_reading c) (λ q. stored_trigger (at q probes m) axis direction ≡ stored_trigger (at p probes m) axis direction) refl
      (λ e. pick_either (λ x. stored_trigger x axis direction ≡ stored_trigger (at p probes m) axis direction) _ (entries p probes) m c.probe _ refl
      (λ q.
      let t = (calibration_call_passed (good_calibration c) _ (calibration_at c) e).arguments in
      rw q (pick_other _ _ (pos (place_of axis direction)) (pos (place_of c.axis c.direction)) _
      (places_differ axis direction c.axis c.direction h k t.axis t.direction other))))

  pub calibration_other_bit : calibrated_in (at (step p (calibrate_reading c)) probes m).status (on axis direction)
      ≡ calibrated_in (at p probes m).status (on axis direction)
  unfolding refusal calibrated_probe
  calibration_other_bit =
      by_step p (calibrate_reading c)
      (λ q. calibrated_in (at q probes m).status (on axis direction) ≡ calibrated_in (at p probes m).status (on axis direction)) refl
      (λ e. pick_either (λ x. calibrated_in x.status (on axis direction) ≡ calibrated_in (at p probes m).status (on axis direction)) _
      (entries p probes) m c.probe _ refl
      (λ q.
      let t = (calibration_call_passed (good_calibration c) _ (calibration_at c) e).arguments in
      rw (q, calibrated_after (calibration_at c) t.axis t.direction (at p probes c.probe).status axis direction h k, other)))
