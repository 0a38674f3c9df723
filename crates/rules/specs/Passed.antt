-- What is known of a call that no rule refuses, by name.
use Rattle.std.specs.Prelude.{◌≡◌, Bool, true, false, cond, ◌&&◌, List, [], ◌∷◌, ◌++◌, ℕ, ℤ, pos, length, ◌≤ℤ◌}
use Rattle.std.proofs.Math.Bool.{and-eq-true_iff}
use Rattle.std.proofs.Common.{arith, eqb-true}
use Rattle.std.specs.Int.Signed.{le_z, le_z_yes}
use Rattle.signed.specs.Ranges.{minus, within, size}
use Rattle.signed.specs.RangeLaws.{true_T}
use Rattle.package.specs.Given.{Calibration, ToolMeasurement, ZeroMeasurement}
use Rattle.package.specs.declared.arguments.Limits.{Limits}
use Rattle.package.specs.declared.found.Tests.{Tests}
use Rattle.package.specs.declared.found.ToolRecords.{ToolRecords}
use Rattle.package.specs.declared.found.ZeroRecords.{ZeroRecords}
use Rattle.rules.specs.Stores.{probe_number, axis_number, direction_number, value_number, tool_number, offset_number, value_range, wear_range, offset_range, trigger_range}
use Rattle.rules.specs.Refusals.{Rule, ◌unless◌, first, rising}
use Rattle.rules.specs.RefusalLaws.{Numbered, test, test_passed, both_zero, all_of, rising_is}
use Rattle.rules.specs.Settings.{empirical_rules, wear_rules, offset_rules}
use Rattle.rules.specs.Calibration.{new_trigger, change, calibration_numbers, calibration_positions, calibration_limits, calibration_arguments, calibration_arguments_with, calibration_records, calibration_rules}
use Rattle.rules.specs.Kinds.{tool_kind_number, zero_kind_number}
use Rattle.rules.specs.Sizes.{numbers_ok, positions_ok}
use Rattle.rules.specs.Measuring.{room, record_rules}
use Rattle.rules.specs.Tool.{limit_chain, tolerance_chain, limits_ok, tool_kind_of, named_or_none, tool_numbers, tool_positions, tool_arguments, tool_arguments_with, tool_tests, tool_rules, tool_rules_with}
use Rattle.rules.specs.Zero.{zero_kind_of, zero_numbers, zero_arguments, zero_arguments_with, zero_tests, zero_rules, zero_rules_with}
use Rattle.rules.specs.Block.{load_rules}

-- ---- settings
pub record EmpiricalPassed (ev value : ℤ) : Type 0 where
  pub number : value_number ev ≡ true
  pub value_in : value_range value ≡ true

pub empirical_passed : (ev value : ℤ) → first (empirical_rules ev value) ≡ 0 → EmpiricalPassed ev value
empirical_passed ev value e =
    let by : (n : ℕ) → test n (empirical_rules ev value) ≡ true = λ n. test_passed n (empirical_rules ev value) tt e in
    record { number = by 2; value_in = by 3 }

pub record WearsPassed (tool radius length : ℤ) : Type 0 where
  pub number : tool_number tool ≡ true
  pub radius_in : wear_range radius ≡ true
  pub length_in : wear_range length ≡ true

pub wears_passed : (tool radius length : ℤ) → first (wear_rules tool radius length) ≡ 0 → WearsPassed tool radius length
wears_passed tool radius length e =
    let by : (n : ℕ) → test n (wear_rules tool radius length) ≡ true = λ n. test_passed n (wear_rules tool radius length) tt e in
    let u = (and-eq-true_iff (wear_range radius) (wear_range length)).0 (by 3) in
    record { number = by 2; radius_in = u.0; length_in = u.1 }

pub record OffsetPassed (offset v1 v2 v3 : ℤ) : Type 0 where
  pub number : offset_number offset ≡ true
  pub first_in : offset_range v1 ≡ true
  pub second_in : offset_range v2 ≡ true
  pub third_in : offset_range v3 ≡ true

pub offset_passed : (offset v1 v2 v3 : ℤ) → first (offset_rules offset v1 v2 v3) ≡ 0 → OffsetPassed offset v1 v2 v3
offset_passed offset v1 v2 v3 e =
    let by : (n : ℕ) → test n (offset_rules offset v1 v2 v3) ≡ true = λ n. test_passed n (offset_rules offset v1 v2 v3) tt e in
    let u = all_of (offset_range v1) (offset_range v2 ∷ offset_range v3 ∷ []) (by 3) in
    record { number = by 2; first_in = u.0; second_in = u.1.0; third_in = u.1.1.0 }

-- ---- a calibration
pub record CalibrationArgumentsPassed (a : Calibration) : Type 0 where
  pub probe : probe_number a.probe ≡ true
  pub axis : axis_number a.axis ≡ true
  pub direction : direction_number a.direction ≡ true
  pub positions : calibration_positions a ≡ true
  pub limits : calibration_limits a ≡ true

calibration_arguments_lem : (a : Calibration) → calibration_numbers a ≡ true → (calibration_positions a && calibration_limits a) ≡ true → CalibrationArgumentsPassed a
calibration_arguments_lem a numbers rest =
    let n = all_of (probe_number a.probe) (axis_number a.axis ∷ direction_number a.direction ∷ []) numbers in
    let t = (and-eq-true_iff (calibration_positions a) (calibration_limits a)).0 rest in
    record { probe = n.0; axis = n.1.0; direction = n.1.1.0; positions = t.0; limits = t.1 }

pub calibration_arguments_passed : (a : Calibration) → first (calibration_arguments a) ≡ 0 → CalibrationArgumentsPassed a
unfolding calibration_arguments_with
calibration_arguments_passed a e =
    let by : (n : ℕ) → test n (calibration_arguments a) ≡ true = λ n. test_passed n (calibration_arguments a) tt e in
    calibration_arguments_lem a (by 2) (by 3)

pub record CalibrationPassed (stored : ℤ) (a : Calibration) : Type 0 where
  pub arguments : CalibrationArgumentsPassed a
  pub tsa : le_z (size (change stored a)) a.tsa ≡ true
  pub trigger : trigger_range (new_trigger a) ≡ true

pub calibration_passed : (stored : ℤ) (a : Calibration) → first (calibration_rules stored a) ≡ 0 → CalibrationPassed stored a
unfolding calibration_arguments_with calibration_records
calibration_passed stored a e =
    let by : (n : ℕ) → test n (calibration_rules stored a) ≡ true = λ n. test_passed n (calibration_rules stored a) tt e in
    record { arguments = calibration_arguments_lem a (by 2) (by 3); tsa = by 7; trigger = by 9 }

-- where a float was given, it is good: the rules are those with whole positions
pub floats_good : (numbers good : Bool) (rs : List Rule) → first (2 unless numbers ∷ 13 unless good ∷ rs) ≡ 0 → first (2 unless numbers ∷ rs) ≡ 0
floats_good numbers true rs e = e
floats_good true false rs e = absurd (omega (arith, e))
floats_good false false rs e = absurd (omega (arith, e))

-- ---- a measurement: the rules of its records
pub record TestsPassed (t : Tests) : Type 0 where
  pub calibrated : t.calibrated ≡ true
  pub pairs : t.pairs ≡ true
  pub tsa : t.tsa ≡ true
  pub tdif : t.tdif ≡ true
  pub range : t.range ≡ true

pub tests_passed : (t : Tests) → first (record_rules t) ≡ 0 → TestsPassed t
tests_passed t e =
    let by : (n : ℕ) → test n (record_rules t) ≡ true = λ n. test_passed n (record_rules t) tt e in
    record { calibrated = by 5; pairs = by 6; tsa = by 7; tdif = by 8; range = by 9 }

-- a measurement that is done: what its arguments passed, and the tests of its records
pub record MeasurementPassed (Arguments : Type 0) (t : Tests) : Type 0 where
  pub arguments : Arguments
  pub tests : TestsPassed t

measurement_passed : {A : Type 0} (rs : List Rule) (t : Tests) → Numbered rs → (first rs ≡ 0 → A) → first (rs ++ record_rules t) ≡ 0
    → MeasurementPassed A t
measurement_passed rs t n h e =
    let b = both_zero rs (record_rules t) n e in
    record { arguments = h b.0; tests = tests_passed t b.1 }

-- where the rule of the room stands before them
pub room_passed : (array : List ℤ) (place : ℕ) (rs : List Rule) → first (room array place ∷ rs) ≡ 0 → first rs ≡ 0
room_passed array place rs e = go (room array place).passed e
  where
    go : (b : Bool) → cond b (first rs) 1 ≡ 0 → first rs ≡ 0
    go true e = e
    go false e = absurd (omega (arith, e))

-- ---- with tool offset
pub record ToolNumbers (a : ToolMeasurement) : Type 0 where
  pub kind : tool_kind_number a.probing.kind ≡ true
  pub numbers : numbers_ok (tool_kind_of a) a.probing ≡ true
  pub tool : tool_number a.tool ≡ true
  pub ev : named_or_none a.ev ≡ true
  pub mv : named_or_none a.mv ≡ true

pub tool_numbers_lem : (a : ToolMeasurement) → tool_numbers a ≡ true → ToolNumbers a
tool_numbers_lem a e =
    let t = all_of (tool_kind_number a.probing.kind)
    (numbers_ok (tool_kind_of a) a.probing ∷ tool_number a.tool ∷ named_or_none a.ev ∷ named_or_none a.mv ∷ []) e in
    record { kind = t.0; numbers = t.1.0; tool = t.1.1.0; ev = t.1.1.1.0; mv = t.1.1.1.1.0 }

-- "0 ≤ TZL ≤ TMV ≤ TDIF ≤ TSA ≤ 1,000,000; TMV ≤ 32,767; TLL ≤ TUL, both within ±1,000,000"
pub record LimitsPassed (l : Limits) : Type 0 where
  pub zero_tzl : pos 0 ≤ℤ l.tzl
  pub tzl_tmv : l.tzl ≤ℤ l.tmv
  pub tmv_tdif : l.tmv ≤ℤ l.tdif
  pub tdif_tsa : l.tdif ≤ℤ l.tsa
  pub tsa_top : l.tsa ≤ℤ pos 1000000
  pub tmv_top : l.tmv ≤ℤ pos 32767
  pub bottom_tll : minus 1000000 ≤ℤ l.tll
  pub tll_tul : l.tll ≤ℤ l.tul
  pub tul_top : l.tul ≤ℤ pos 1000000

pub limits_are : (l : Limits) → limits_ok l ≡ true → LimitsPassed l
unfolding limits_ok
limits_are l e =
    let t = all_of (rising (limit_chain l)) (le_z l.tmv (pos 32767) ∷ rising (tolerance_chain l) ∷ []) e in
    let c = rising_is (limit_chain l) t.0 in
    let d = rising_is (tolerance_chain l) t.1.1.0 in
    record {
      zero_tzl = c.0;
      tzl_tmv = c.1.0;
      tmv_tdif = c.1.1.0;
      tdif_tsa = c.1.1.1.0;
      tsa_top = c.1.1.1.1.0;
      tmv_top = le_z_yes (true_T t.1.0);
      bottom_tll = d.0;
      tll_tul = d.1.0;
      tul_top = d.1.1.0;
    }

pub record ToolArgumentsPassed (a : ToolMeasurement) : Type 0 where
  pub numbers : ToolNumbers a
  pub positions : positions_ok (tool_kind_of a) a.probing a.raws ≡ true
  pub weight : within (pos 1) (pos 1000) a.k ≡ true
  pub limits : LimitsPassed a.limits

pub tool_arguments_passed : (a : ToolMeasurement) → first (tool_arguments a) ≡ 0 → ToolArgumentsPassed a
unfolding tool_arguments_with
tool_arguments_passed a e =
    let by : (n : ℕ) → test n (tool_arguments a) ≡ true = λ n. test_passed n (tool_arguments a) tt e in
    let w = (and-eq-true_iff (positions_ok (tool_kind_of a) a.probing a.raws) (within (pos 1) (pos 1000) a.k)).0 (by 3) in
    record { numbers = tool_numbers_lem a (by 2); positions = w.0; weight = w.1; limits = limits_are a.limits (by 4) }

abbrev pub ToolPassed : ToolRecords → ToolMeasurement → Type 0
ToolPassed r a = MeasurementPassed (ToolArgumentsPassed a) (tool_tests r a)

pub tool_passed : (r : ToolRecords) (a : ToolMeasurement) → first (tool_rules r a) ≡ 0 → ToolPassed r a
unfolding tool_arguments_with
tool_passed r a = measurement_passed (tool_arguments a) (tool_tests r a) tt (tool_arguments_passed a)

pub tool_call_passed : (good : Bool) (r : ToolRecords) (a : ToolMeasurement) (array : List ℤ) (place : ℕ)
    → first (room array place ∷ tool_rules_with good r a) ≡ 0 → ToolPassed r a
unfolding tool_arguments_with
tool_call_passed good r a array place e =
    tool_passed r a
    (floats_good (tool_numbers a) good (3 unless tool_positions a ∷ 4 unless limits_ok a.limits ∷ record_rules (tool_tests r a))
    (room_passed array place (tool_rules_with good r a) e))

-- ---- with zero offset
pub record ZeroNumbers (a : ZeroMeasurement) : Type 0 where
  pub kind : zero_kind_number a.probing.kind ≡ true
  pub numbers : numbers_ok (zero_kind_of a) a.probing ≡ true
  pub offset : offset_number a.offset ≡ true

pub zero_numbers_lem : (a : ZeroMeasurement) → zero_numbers a ≡ true → ZeroNumbers a
zero_numbers_lem a e =
    let t = all_of (zero_kind_number a.probing.kind) (numbers_ok (zero_kind_of a) a.probing ∷ offset_number a.offset ∷ []) e in
    record { kind = t.0; numbers = t.1.0; offset = t.1.1.0 }

pub record ZeroArgumentsPassed (a : ZeroMeasurement) : Type 0 where
  pub numbers : ZeroNumbers a
  pub positions : positions_ok (zero_kind_of a) a.probing a.raws ≡ true
  pub tsa : within (pos 0) (pos 1000000) a.tsa ≡ true

pub zero_arguments_passed : (a : ZeroMeasurement) → first (zero_arguments a) ≡ 0 → ZeroArgumentsPassed a
unfolding zero_arguments_with
zero_arguments_passed a e =
    let by : (n : ℕ) → test n (zero_arguments a) ≡ true = λ n. test_passed n (zero_arguments a) tt e in
    record { numbers = zero_numbers_lem a (by 2); positions = by 3; tsa = by 4 }

abbrev pub ZeroPassed : ZeroRecords → ZeroMeasurement → Type 0
ZeroPassed r a = MeasurementPassed (ZeroArgumentsPassed a) (zero_tests r a)

pub zero_passed : (r : ZeroRecords) (a : ZeroMeasurement) → first (zero_rules r a) ≡ 0 → ZeroPassed r a
unfolding zero_arguments_with
zero_passed r a = measurement_passed (zero_arguments a) (zero_tests r a) tt (zero_arguments_passed a)

pub zero_call_passed : (good : Bool) (r : ZeroRecords) (a : ZeroMeasurement) (array : List ℤ) (place : ℕ)
    → first (room array place ∷ zero_rules_with good r a) ≡ 0 → ZeroPassed r a
unfolding zero_arguments_with
zero_call_passed good r a array place e =
    zero_passed r a
    (floats_good (zero_numbers a) good
    (3 unless positions_ok (zero_kind_of a) a.probing a.raws ∷ 4 unless within (pos 0) (pos 1000000) a.tsa ∷ record_rules (zero_tests r a))
    (room_passed array place (zero_rules_with good r a) e))

-- ---- a load
pub load_passed : (bytes : List ℕ) → first (load_rules bytes) ≡ 0 → length bytes ≡ 80
load_passed bytes e = eqb-true (length bytes) 80 (test_passed 1 (load_rules bytes) tt e)
