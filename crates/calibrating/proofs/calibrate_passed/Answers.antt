-- Refused, or done: then the new trigger and status are written to the probe's record.
use Rattle.std.specs.Prelude.{◌≡◌, List, ℕ, suc, ◌-◌, ℤ, length, Err}
use Rattle.std.proofs.Common.{refl, ap, ap₂, ◌∙◌, arith, rules, w32, w64, to_z, of_z}
use Rattle.std.proofs.lemmas.Result.{err_from_is_err_and}
use Rattle.signed.specs.RangeLaws.{or_zero}
use Rattle.rules.specs.Stores.{probes}
use Rattle.rules.specs.Probes.{place_of}
use Rattle.rules.specs.Calibration.{Calibrated, calibrated_with}
use Rattle.layout.specs.Layout.{record_of}
use Rattle.area.specs.Table.{area_length, section_of, number, status_from}
use Rattle.calibrating.specs.CalibrateLaws.{probe_in, found, refused_by_found, found_done}
use Rattle.calibrating.proofs.calibrate_passed.Goals as goal
use Rattle.calibrating.proofs.calibrate_passed.Goals.{After-place_on-at, After-calibrate_direction}

module _ (c : After-place_on-at) where
  whole : length c.args.area.now ≡ area_length
  whole = search rules

  probe : to_z w64 (of_z w64 c.args.p.given.probe) ≡ c.args.p.given.probe
  probe = search rules

  place_is : place_of c.args.p.given.axis c.args.p.given.direction ≡ suc (c.place_on-at.result - 1)
  place_is =
      let e : c.place_on-at.result ≡ place_of c.args.p.given.axis c.args.p.given.direction =
      c.place_on-at.ensures.value ∙ ap₂ place_of c.args.p.axis c.args.p.direction in
      omega (arith, e, c.place_on-at.ensures.range)

  -- what is found of the two numbers that are read
  abbrev given : Calibrated
  given = found c.args.area.now whole c.args.p.given c.args.p.passed (c.place_on-at.result - 1) place_is

abbrev placed : After-calibrate_direction → After-place_on-at
placed c = (goal.at.After-calibrate_direction c).After-place_on-at

numbers_are : (c : After-calibrate_direction) → c.unwrap-numbers.result.now ≡ record_of (section_of probes) c.args.area.now c.args.p.given.probe
numbers_are c = (rw c.unwrap-numbers.ensures at c.as_array.ensures.cases).same ∙ rw (probe (placed c)) at c.record_in.ensures.numbers

found_is : (c : After-calibrate_direction)
    → calibrated_with (to_z w32 (of_z w32 (number c.unwrap-numbers.result.now (c.place_on-at.result - 1)))) c.status_from.result c.args.p.given ≡ given (placed c)
found_is c =
    let zs = c.unwrap-numbers.result.now in
    let at = c.place_on-at.result - 1 in
    let trigger : to_z w32 (of_z w32 (number zs at)) ≡ number zs at = search rules in
    let status : to_z w32 (of_z w32 (number zs 6)) ≡ number zs 6 = search rules in
    ap₂ (λ (z : ℤ) (n : ℕ). calibrated_with z n c.args.p.given) (trigger ∙ ap (λ (l : List ℤ). number l at) (numbers_are c))
    (c.status_from.ensures ∙ ap status_from (status ∙ ap (λ (l : List ℤ). number l 6) (numbers_are c)))

pub record_in-requires-clause-n_value : goal.record_in-requires-clause-n_value
record_in-requires-clause-n_value c = or_zero 3 (to_z w64 (of_z w64 c.args.p.given.probe)) (probe_in c.args.p.given c.args.p.passed)

pub returns-in_err-c : goal.returns-in_err-c
returns-in_err-c c =
    let s = (goal.at.returns-in_err-c c).After-calibrate_direction in
    let p = placed s in
    let r = err_from_is_err_and c.from_residual.result c.from_residual.ensures.1 in
    refused_by_found c.args.area.now (whole p) c.args.p.given c.args.p.passed (c.place_on-at.result - 1) (place_is p) c.in_err-c.field-0.0
    (ap (λ (x : Calibrated). x.refusal) (c.in_err-c.ensures.left ∙ found_is s))
    (r.1 ∙ ap Err r.2)

pub returns : goal.returns
returns c =
    let s = (goal.at.returns c).After-calibrate_direction in
    let p = placed s in
    let trigger : to_z w32 (of_z w32 c.in_ok-c.c.trigger) ≡ c.in_ok-c.c.trigger = search rules in
    let status : to_z w32 (of_z w32 c.from.result) ≡ c.from.result = search rules in
    found_done c.args.area.now (whole p) c.args.p.given c.args.p.passed (c.place_on-at.result - 1) (place_is p) (c.in_ok-c.ensures.left ∙ found_is s) refl
    (rw (probe p, trigger) at c.put_number.ensures) (rw (probe p, status, c.from.ensures) at c.put_number-2.ensures)
