-- What a measurement with zero offset that is done leaves, by what the code found.
use Rattle.std.proofs.Common.{◌≡◌, ◌∙◌, ap, ap₂, sym, List, [], ◌∷◌, ℤ, ℕ, length, Result, Err}
use Rattle.package.specs.Refusals.{number}
use Rattle.package.specs.declared.refusals.Refusal.{Refusal}
use Rattle.package.specs.Given.{ZeroMeasurement, ZeroReadings}
use Rattle.package.specs.declared.found.Evaluation.{Evaluation}
use Rattle.package.specs.declared.found.Sizes.{Sizes}
use Rattle.package.specs.declared.found.Tests.{Tests}
use Rattle.package.specs.declared.found.ZeroRecords.{ZeroRecords}
use Rattle.package.specs.declared.records.Offset.{Offset}
use Rattle.rules.specs.Stores.{offsets}
use Rattle.rules.specs.Refusals.{first}
use Rattle.rules.specs.Changes.{write}
use Rattle.rules.specs.Measuring.{lent, record_rules}
use Rattle.rules.specs.Zero.{zero_at, zero_sizes, zero_tests, offset_left}
use Rattle.rules.specs.Results.{zero_filled, zero_evaluation}
use Rattle.rules.specs.Calls.{zero_read, changes}
use Rattle.rules.specs.Answers.{array_after}
use Rattle.area.specs.Table.{area_length, held}
use Rattle.area.specs.Renewed.{renewed_all}
use Rattle.area.specs.Called.{answered, answered_by}
use Rattle.measuring.specs.Reply.{zero, call_of, measured_as, measured_on, results_left}
use Rattle.measuring.specs.ReplyLaws.{arguments_of, tests_of, refused_by_records, measured_done}

module _ (t : ZeroReadings) (area results : List ℤ) (place : ℕ) where
  abbrev records : ZeroRecords
  records = zero_read (held area) (zero_at t)

  module _ {a : ZeroMeasurement} {r : ZeroRecords} (given : a ≡ zero_at t) (read : r ≡ zero_read (held area) a) where
    read_is : r ≡ records
    read_is = read ∙ ap (zero_read (held area)) given

    tests_are : {s : Tests} → s ≡ zero_tests r a → s ≡ tests_of (held area) (zero t)
    tests_are e = e ∙ ap₂ zero_tests read_is given

    pub zero_refused : length area ≡ area_length → first (arguments_of (zero t)) ≡ 0 → {s : Tests} → s ≡ zero_tests r a → (e : Result Evaluation Refusal)
        → {n : Refusal} → e ≡ Err n → number n ≡ first (record_rules s)
        → measured_as (answered_by e area) (results_left e results place) ≡ measured_on area (zero t) results place
    zero_refused whole passed tests e is n =
        refused_by_records area (zero t) results place whole passed e is (n ∙ ap (λ (s : Tests). first (record_rules s)) (tests_are tests))

    -- what is written is what the call changes
    changes_are : {o : Offset} → o ≡ offset_left r a → write offsets a.offset o ∷ [] ≡ changes (held area) (call_of (zero t) lent 0)
    changes_are e = rw (e, read_is, given)

    pub zero_done : length area ≡ area_length → first (arguments_of (zero t)) ≡ 0 → {s : Tests} → s ≡ zero_tests r a → first (record_rules s) ≡ 0
        → {z : Sizes} {o : Offset} → z ≡ zero_sizes r a → o ≡ offset_left r a → {v : Evaluation} {new after : List ℤ} → v ≡ zero_evaluation z
        → new ≡ renewed_all area (write offsets a.offset o ∷ []) → after ≡ array_after results place (zero_filled a z)
        → measured_as (answered 0 v new) after ≡ measured_on area (zero t) results place
    zero_done whole passed tests allowed sizes left v n e =
        let found = sizes ∙ ap₂ zero_sizes read_is given in
        measured_done area (zero t) results place whole passed (ap (λ (s : Tests). first (record_rules s)) (sym (tests_are tests)) ∙ allowed)
        (v ∙ ap zero_evaluation found) (n ∙ ap (renewed_all area) (changes_are left))
        (e ∙ ap₂ (λ (a : ZeroMeasurement) (z : Sizes). array_after results place (zero_filled a z)) given found)
