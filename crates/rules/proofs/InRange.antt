-- Every call keeps every record in its range. What a call that is done writes is said once, `fits`: at a number of the store, in range where the records
-- are, and of the right type in any case.
use Rattle.std.specs.Prelude.{◌≡◌, refl, Bool, true, false, cond, List, [], ◌∷◌, ℕ, ◌<◌, ℤ, pos, length, take, drop, ◌≤ℤ◌}
use Rattle.std.proofs.Common.{arith, length-take, length-drop}
use Rattle.std.specs.Int.Signed.{lt_z}
use Rattle.signed.specs.Differences.{ints, parts₂}
use Rattle.signed.specs.Ranges.{minus, within, size}
use Rattle.signed.specs.RangeLaws.{lt_left, is_within, or_zero, ≤ℤ-trans}
use Rattle.lists.specs.Each.{each_take, each_drop}
use Rattle.package.specs.declared.records.Probe.{Probe}
use Rattle.package.specs.Given.{Calibration, ToolMeasurement, ZeroMeasurement}
use Rattle.package.specs.declared.arguments.Limits.{Limits}
use Rattle.package.specs.declared.found.ToolRecords.{ToolRecords}
use Rattle.package.specs.declared.found.ZeroRecords.{ZeroRecords}
use Rattle.package.specs.declared.found.Branch.TheVariants.{One, Two, Three, Four, Five}
use Rattle.rules.specs.Stores.{Package, trigger_range, value_range, wear_range, offset_range, StoreName, probes, empiricals, means, tools, offsets, Holds, count_of, at}
use Rattle.rules.specs.StoreLaws.{put_store, pick_store, pick_any, among_passed}
use Rattle.rules.specs.BlockLaws.{Bytes}
use Rattle.rules.proofs.BlockLaws.{words_values}
use Rattle.rules.specs.Probes.{place_of}
use Rattle.rules.proofs.ProbeLaws.{status_left_lem}
use Rattle.rules.specs.Calibration.{new_trigger, change, trigger_for, trigger_left, calibrated_probe, calibration_at, good_calibration}
use Rattle.rules.specs.Tool.{branch_of, mean_in, decided, decision, lengthwise, with_wear_on, wear_left, wears_left, tool_tests, tool_at, good_tool}
use Rattle.rules.specs.Zero.{zero_kind_of, corrected_axes, corrects, axis_left, offset_left, zero_tests, zero_at, good_zero}
use Rattle.rules.specs.Changes.{Change, write, made, made_all}
use Rattle.rules.specs.Passed.{empirical_passed, wears_passed, offset_passed, CalibrationPassed, ToolPassed, tool_call_passed, ZeroPassed, zero_call_passed, load_passed}
use Rattle.rules.proofs.Passed.{calibration_call_passed}
use Rattle.rules.specs.Calls.{Call, set_empirical, set_wear, set_offset, calibrate_reading, read_status, measure_tool_readings, measure_zero_readings, load, save, meaning, tool_read, zero_read, refusal, changes, step}
use Rattle.rules.specs.CallLaws.{by_step}
use Rattle.rules.specs.ChangesOnly.{axis_kept}
use Rattle.rules.specs.InRange.{Known, ranged, typed, Number, status_top, ProbeKnown, WearKnown, OffsetKnown, EntryKnown, PackageKnown, InRange, Fits, AllFit, made_known}

known : (k : Known) (range : ℤ → Bool) (v : ℤ) → range v ≡ true → Number k range v
known ranged range v e = e
known typed range v e = tt

status_known : (k : Known) (n : ℕ) → n < 64 → n < status_top k
status_known ranged n h = h
status_known typed n h = omega arith

module _ (k : Known) where
  all_known : (p : Package) (cs : List Change) → AllFit k p cs → PackageKnown k p → PackageKnown k (made_all p cs)
  all_known p [] f h = h
  all_known p (c ∷ cs) f h = all_known (made p c) cs f.1 (made_known k p c f.0 h)

  -- an entry in a store of which nothing is asked but its entries
  entry_fits : (p : Package) (s : StoreName) (n : ℤ) (x : Holds s) → within (pos 0) (pos (count_of s)) n ≡ true → EntryKnown k s x → PackageKnown k p
      → Fits k p (write s n x)
  entry_fits p s n x e f h = (e, f, put_store n x (h s) f)

-- ---- a calibration
calibrated_fits : (k : Known) (x : Probe) (a : Calibration) → CalibrationPassed (trigger_for x a) a → ProbeKnown k x → ProbeKnown k (calibrated_probe x a)
unfolding calibrated_probe trigger_left
calibrated_fits k x a t h =
    record {
      triggers = put_store (pos (place_of a.axis a.direction)) (trigger_left (trigger_for x a) a) h.triggers
          (go (lt_z a.tzl (size (change (trigger_for x a) a))));
      status = status_known k _ (status_left_lem a t.arguments.axis t.arguments.direction x.status);
    }
  where
    go : (b : Bool) → Number k trigger_range (cond b (new_trigger a) (trigger_for x a))
    go true = known k trigger_range _ t.trigger
    go false = pick_any (pos 0) (pos (place_of a.axis a.direction)) (known k trigger_range (pos 0) refl) h.triggers

-- ---- a measurement with tool offset
small_value : (z t : ℤ) → size z ≤ℤ t → t ≤ℤ pos 32767 → value_range z ≡ true
small_value z t h k = is_within (minus 32768) (pos 32767) z (low z t h k) (high z t h k)
  where
    low : (z t : ℤ) → size z ≤ℤ t → t ≤ℤ pos 32767 → minus 32768 ≤ℤ z
    low = parts₂ _ (λ a b c d. simp ints (omega arith))

    high : (z t : ℤ) → size z ≤ℤ t → t ≤ℤ pos 32767 → z ≤ℤ pos 32767
    high = parts₂ _ (λ a b c d. simp ints (omega arith))

-- the mean that a branch leaves: the new one is kept only where it is at most TZL
pub left_in_range : (l : Limits) (named : Bool) (old next d : ℤ) → l.tzl ≤ℤ pos 32767 → value_range old ≡ true
    → value_range (mean_in (branch_of l named next d) old next) ≡ true
unfolding branch_of
left_in_range l named old next d h o = far (lt_z l.tmv (size d)) named (lt_z l.tzl (size next)) refl (lt_z l.tzl (size d))
  where
    far : (f n k : Bool) → lt_z l.tzl (size next) ≡ k → (m : Bool) →
        value_range (mean_in (cond f Five (cond n (cond k Four Three) (cond m Two One))) old next) ≡ true
    far true n k e m = refl
    far false true true e m = refl
    far false true false e m = small_value next l.tzl (lt_left e) h
    far false false k e true = o
    far false false k e false = o

mean_fits : (r : ToolRecords) (a : ToolMeasurement) → ToolPassed r a → value_range r.mean ≡ true → value_range (decision r a).mean ≡ true
unfolding decision decided
mean_fits r a t h =
    let l = t.arguments.limits in
    left_in_range a.limits _ r.mean _ _ (≤ℤ-trans a.limits.tzl a.limits.tmv (pos 32767) l.tzl_tmv l.tmv_top) h

wears_fit : (k : Known) (r : ToolRecords) (a : ToolMeasurement) → ToolPassed r a → WearKnown k r.wear → WearKnown k (wears_left r a)
unfolding wears_left tool_tests
wears_fit k r a t h = go (lengthwise a) (known k wear_range _ t.tests.range)
  where
    go : (b : Bool) → Number k wear_range (wear_left r a) → WearKnown k (with_wear_on b r.wear (wear_left r a))
    go true e = record { radius = h.radius; length = e }
    go false e = record { radius = e; length = h.length }

-- ---- a measurement with zero offset
axis_fits : (k : Known) (r : ZeroRecords) (a : ZeroMeasurement) (n : ℤ) → ZeroPassed r a → OffsetKnown k r.offset → Number k offset_range (axis_left r a n)
unfolding zero_tests
axis_fits k r a n t h = go (corrects (zero_kind_of a) a.probing n) refl
  where
    go : (b : Bool) → corrects (zero_kind_of a) a.probing n ≡ b → Number k offset_range (axis_left r a n)
    go true e = known k offset_range _ (among_passed (λ m. offset_range (axis_left r a m)) (corrected_axes (zero_kind_of a) a.probing) n e t.tests.range)
    go false e = rw (axis_kept r a n e) (pick_any (pos 0) n (known k offset_range (pos 0) refl) h.axes)

offset_fits : (k : Known) (r : ZeroRecords) (a : ZeroMeasurement) → ZeroPassed r a → OffsetKnown k r.offset → OffsetKnown k (offset_left r a)
unfolding offset_left
offset_fits k r a t h =
    record { axes = record { long = refl; entries = (axis_fits k r a (pos 1) t h, (axis_fits k r a (pos 2) t h, (axis_fits k r a (pos 3) t h, tt))) } }

-- ---- every call that is done, where the bytes that it is given are bytes
pub fits : (k : Known) (p : Package) (c : Call) → refusal p c ≡ 0 → Bytes (meaning c).given → PackageKnown k p → AllFit k p (changes p c)
unfolding refusal
fits k p (set_empirical ev value) e b h =
    let t = empirical_passed ev value e in
    (entry_fits k p empiricals ev value (or_zero 20 ev t.number) t.value_in h, tt)
fits k p (set_wear tool radius length) e b h =
    let t = wears_passed tool radius length e in
    let w : WearKnown k (record { radius = radius; length = length }) =
    record { radius = known k wear_range radius t.radius_in; length = known k wear_range length t.length_in } in
    (entry_fits k p tools tool _ (or_zero 32 tool t.number) w h, tt)
fits k p (set_offset offset v1 v2 v3) e b h =
    let t = offset_passed offset v1 v2 v3 e in
    let r : (v : ℤ) → offset_range v ≡ true → Number k offset_range v = known k offset_range in
    let o : OffsetKnown k (record { axes = v1 ∷ v2 ∷ v3 ∷ [] }) =
    record { axes = record { long = refl; entries = (r v1 t.first_in, (r v2 t.second_in, (r v3 t.third_in, tt))) } } in
    (entry_fits k p offsets offset _ (or_zero 4 offset t.number) o h, tt)
fits k p (calibrate_reading c) e b h =
    let a = calibration_at c in
    let x = at p probes a.probe in
    let t = calibration_call_passed (good_calibration c) (trigger_for x a) a e in
    let n = t.arguments.probe in
    (entry_fits k p probes a.probe (calibrated_probe x a) (or_zero 3 a.probe n) (calibrated_fits k x a t (pick_store _ a.probe (h probes) n)) h, tt)
fits k p (read_status probe) e b h = tt
fits k p (measure_tool_readings c array place) e b h =
    let a = tool_at c in
    let r = tool_read p a in
    let t = tool_call_passed (good_tool c) r a array place e in
    let n = t.arguments.numbers in
    let m = entry_fits k p means a.mv (decision r a).mean n.mv (mean_fits r a t (pick_any (pos 0) a.mv refl (h means))) h in
    let after = made_known k p (write means a.mv (decision r a).mean) m h in
    let w = wears_fit k r a t (pick_store _ a.tool (h tools) n.tool) in
    (m, (entry_fits k (made p (write means a.mv (decision r a).mean)) tools a.tool (wears_left r a) (or_zero 32 a.tool n.tool) w after, tt))
fits k p (measure_zero_readings c array place) e b h =
    let a = zero_at c in
    let r = zero_read p a in
    let t = zero_call_passed (good_zero c) r a array place e in
    let n = t.arguments.numbers.offset in
    (entry_fits k p offsets a.offset (offset_left r a) (or_zero 4 a.offset n) (offset_fits k r a t (pick_store _ a.offset (h offsets) n)) h, tt)
fits k p (load bytes) e b h =
    let n = load_passed bytes e in (
      words_values (take 40 bytes) (simp length-take (omega arith)) (each_take (λ b. b < 256) 40 bytes b),
      (words_values (drop 40 bytes) (simp length-drop (omega arith)) (each_drop (λ b. b < 256) 40 bytes b), tt),
    )
fits k p (save buffer) e b h = tt

pub step_in_range : (p : Package) (c : Call) → Bytes (meaning c).given → InRange p → InRange (step p c)
step_in_range p c b h = by_step p c InRange h (λ e. all_known ranged p (changes p c) (fits ranged p c e b h) h)
