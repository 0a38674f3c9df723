-- Sizes bound the difference; TSA, then the range refuses; where both pass, the place is marked and TZL decides whether the new trigger is stored.
use Rattle.std.specs.Prelude.{◌≡◌, refl, Bool, true, false, not, ℕ, ◌%◌, ◌≤◌, ◌<◌, ℤ, pos, nat_abs, ◌-ℤ◌}
use Rattle.std.proofs.Common.{sym, ap, ap₂, ◌∙◌, arith, rules, w32, w64, to_z, of_z, to_z-of_z}
use Rattle.std.specs.Int.Signed.{le_z, lt_z}
use Rattle.signed.specs.Ranges.{minus, size}
use Rattle.signed.specs.RangeLaws.{size_in, le_z_not, nearest_within}
use Rattle.signed.specs.CodeLaws.{Cast, casts, read}
use Rattle.signed.specs.Expressions.{Ex, bound, sub, Runs, run, sized}
use Rattle.package.specs.Given.{Calibration}
use Rattle.rules.specs.Refusals.{first}
use Rattle.rules.specs.Stores.{trigger_range}
use Rattle.rules.specs.Probes.{mark, place_of, trigger_read}
use Rattle.rules.specs.Calibration.{new_trigger, change, calibration_arguments, calibration_records, Calibrated, calibrated_with, status_left}
use Rattle.calibration.specs.CalibratedLaws.{arguments, with_refused, with_done, with_small}
use Rattle.calibration.proofs.Laws.{trigger_size}
use Rattle.calibration.proofs.calibrate_direction.Goals as goal
use Rattle.calibration.proofs.calibrate_direction.Goals.{After-magnitude-d, After-mark_place-status, After-read_trigger, Else-not-in_range}

-- ---- t, the stored trigger as it is read, and |d|
module _ (c : After-read_trigger) where
  stored : c.read_trigger.result ≡ trigger_read c.args.trigger
  stored = c.read_trigger.ensures ∙ search rules

  new_size : nat_abs c.new_trigger-t.result ≤ 20000000
  new_size = rw c.new_trigger-t.ensures (trigger_size c.args.p.given (arguments c.args.p.given c.args.p.passed).positions)

  stored_size : nat_abs c.read_trigger.result ≤ 100000
  stored_size = rw stored (size_in 100000 (trigger_read c.args.trigger) (nearest_within (minus 100000) (pos 100000) c.args.trigger refl refl))

  abbrev difference : Ex w64
  difference = sub (bound c.new_trigger-t.result 20000000 new_size tt) (bound c.read_trigger.result 100000 stored_size tt)

  runs : Runs difference
  runs = run difference tt (search)

far : (c : After-magnitude-d) → to_z w64 (of_z w64 c.magnitude-d.result) ≡ size (change c.args.trigger c.args.p.given)
unfolding change
far c =
    let m = c.magnitude-d in
    read m.result m.type_inv ∙ m.ensures ∙ ap size ((runs c.before).value ∙ ap₂ ◌-ℤ◌ c.new_trigger-t.ensures (stored c.before))

-- a test of a limit is the test of |d|
module _ (c : After-magnitude-d) where
  at_tsa : {b : Bool} → lt_z (to_z w64 (of_z w64 c.args.p.given.tsa)) (to_z w64 (of_z w64 c.magnitude-d.result)) ≡ b → lt_z c.args.p.given.tsa (size (change c.args.trigger c.args.p.given)) ≡ b
  at_tsa e = let tsa : to_z w64 (of_z w64 c.args.p.given.tsa) ≡ c.args.p.given.tsa = search rules in rw (tsa, far c) at e

  at_tzl : {b : Bool} → lt_z (to_z w64 (of_z w64 c.args.p.given.tzl)) (to_z w64 (of_z w64 c.magnitude-d.result)) ≡ b → lt_z c.args.p.given.tzl (size (change c.args.trigger c.args.p.given)) ≡ b
  at_tzl e = let tzl : to_z w64 (of_z w64 c.args.p.given.tzl) ≡ c.args.p.given.tzl = search rules in rw (tzl, far c) at e

-- |d| is at most TSA where TSA is not below it
near : (a : Calibration) (z : ℤ) (below : Bool) → lt_z a.tsa (size (change z a)) ≡ below → le_z (size (change z a)) a.tsa ≡ not below
near a z below e = le_z_not a.tsa (size (change z a)) ∙ ap not e

abbrev left_with : ℤ → ℕ → Calibrated
left_with trigger status = record { trigger = trigger; status = status; refusal = 0 }

-- ---- t where the range passed, and the mark of the place
inside : (c : Else-not-in_range) → trigger_range c.new_trigger-t.result ≡ true
inside c = sym (c.in_range.ensures ∙ ap trigger_range (read c.new_trigger-t.result c.new_trigger-t.type_inv)) ∙ c.if-not-in_range.false

kept : (c : Else-not-in_range) → Cast w32 c.new_trigger-t.result
kept c = casts w32 (minus 100000) (pos 100000) (record { sfits = c.new_trigger-t.type_inv }) tt tt (inside c)

passed : (c : Else-not-in_range) → lt_z c.args.p.given.tsa (size (change c.args.trigger c.args.p.given)) ≡ false → first (calibration_records c.args.trigger c.args.p.given) ≡ 0
unfolding calibration_records
passed c below = rw (near c.args.p.given c.args.trigger false below, sym (ap trigger_range c.new_trigger-t.ensures) ∙ inside c)

marked : (c : After-mark_place-status) → c.mark_place-status.result ≡ status_left c.args.status c.args.p.given
unfolding status_left
marked c =
    let place = c.place_on.ensures.value ∙ ap₂ place_of c.args.p.axis c.args.p.direction in
    c.mark_place-status.ensures ∙ ap (mark (c.args.status % 64)) place

-- a status that is left where it is done has six bits
six_bits_left : (a : Calibration) → first (calibration_arguments a) ≡ 0 → (stored : ℤ) (before : ℕ) {trigger : ℤ} {status : ℕ}
    → left_with trigger status ≡ calibrated_with stored before a → status < 64
six_bits_left a passed stored before e =
    rw (ap (λ (x : Calibrated). x.status) e) (with_small a passed stored before (ap (λ (x : Calibrated). x.refusal) (sym e)))

pub overflow_sub-t : goal.overflow_sub-t
overflow_sub-t c = search (runs (goal.at.overflow_sub-t c).After-read_trigger).asks

pub magnitude-d-requires : goal.magnitude-d-requires
magnitude-d-requires c =
    let s = (goal.at.magnitude-d-requires c).After-read_trigger in
    rw (runs s).value (omega (arith, sized (difference s)))

pub returns-then-p-d : goal.returns-then-p-d
unfolding calibration_records
returns-then-p-d c =
    let a = c.args.p.given in
    let z = c.args.trigger in
    let below = at_tsa (goal.at.returns-then-p-d c).After-magnitude-d c.if-p-d.true in
    record { left = sym (with_refused a c.args.p.passed z c.args.status 6 (rw (near a z true below))); six_bits = tt }

pub returns-then-not-in_range : goal.returns-then-not-in_range
unfolding calibration_records
returns-then-not-in_range c =
    let a = c.args.p.given in
    let z = c.args.trigger in
    let below = at_tsa (goal.at.returns-then-not-in_range c).After-magnitude-d c.if-p-d.false in
    let t = read c.new_trigger-t.result c.new_trigger-t.type_inv ∙ c.new_trigger-t.ensures in
    let outside : trigger_range (new_trigger a) ≡ false = sym (c.in_range.ensures ∙ ap trigger_range t) ∙ c.if-not-in_range.true in
    record { left = sym (with_refused a c.args.p.passed z c.args.status 8 (rw (near a z false below, outside))); six_bits = tt }

pub overflow_cast-trigger : goal.overflow_cast-trigger
overflow_cast-trigger c = (kept (goal.at.overflow_cast-trigger c).Else-not-in_range).fits

pub returns-then-p-d-2 : goal.returns-then-p-d-2
returns-then-p-d-2 c =
    let p = goal.at.returns-then-p-d-2 c in
    let d = p.After-magnitude-d in
    let r = p.Else-not-in_range in
    let a = c.args.p in
    let e = ap₂ left_with ((kept r).value ∙ c.new_trigger-t.ensures) (marked p.After-mark_place-status)
    ∙ sym (with_done a.given a.passed c.args.trigger c.args.status true (passed r (at_tsa d c.if-p-d.false)) (at_tzl d c.if-p-d-2.true)) in
    record { left = e; six_bits = six_bits_left a.given a.passed c.args.trigger c.args.status e }

pub returns-else-p-d-2 : goal.returns-else-p-d-2
returns-else-p-d-2 c =
    let p = goal.at.returns-else-p-d-2 c in
    let d = p.After-magnitude-d in
    let a = c.args.p in
    let e = ap₂ left_with (to_z-of_z c.ranges.trigger) (marked p.After-mark_place-status)
    ∙ sym (with_done a.given a.passed c.args.trigger c.args.status false (passed p.Else-not-in_range (at_tsa d c.if-p-d.false)) (at_tzl d c.if-p-d-2.false)) in
    record { left = e; six_bits = six_bits_left a.given a.passed c.args.trigger c.args.status e }
