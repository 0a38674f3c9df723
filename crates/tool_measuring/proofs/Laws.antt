-- What a measurement with tool offset that is done leaves, by what the code found.
use Rattle.std.proofs.Common.{◌≡◌, ◌∙◌, ap, ap₂, sym, arith, List, [], ◌∷◌, ℤ, ℕ, length, true, Result, Err}
use mir.Syntax.{w64}
use mir.Val.{to_z, of_z}
use mir.Facts.{to_z-of_z}
use Rattle.package.specs.Given.{ToolMeasurement, ToolReadings}
use Rattle.package.specs.declared.found.Evaluation.{Evaluation}
use Rattle.package.specs.declared.found.Found.{Found}
use Rattle.package.specs.declared.found.Kind.{Kind}
use Rattle.package.specs.declared.found.Tests.{Tests}
use Rattle.package.specs.declared.found.ToolRecords.{ToolRecords}
use Rattle.package.specs.declared.records.Wear.{Wear}
use Rattle.rules.specs.Stores.{value_range, wear_range, means, tools}
use Rattle.package.specs.Refusals.{number}
use Rattle.package.specs.declared.refusals.Refusal.{Refusal}
use Rattle.rules.specs.Refusals.{first}
use Rattle.rules.specs.Changes.{write}
use Rattle.rules.specs.Measuring.{lent, record_rules}
use Rattle.rules.specs.Tool.{tool_at, tool_kind_of, tool_found, found_tests, tool_tests, on_length, with_wear_on, wears_left}
use Rattle.rules.specs.Passed.{tests_passed}
use Rattle.rules.specs.Results.{tool_filled, tool_evaluation}
use Rattle.rules.specs.Calls.{tool_read, changes}
use Rattle.rules.specs.Answers.{array_after}
use Rattle.area.specs.Table.{area_length, held}
use Rattle.area.specs.Renewed.{renewed_all}
use Rattle.area.specs.Called.{answered, answered_by}
use Rattle.result_sizes.specs.ResultLaws.{small_fits}
use Rattle.evaluation.specs.FoundSmall.{value_size}
use Rattle.measuring.specs.Reply.{tool, call_of, measured_as, measured_on, results_left}
use Rattle.measuring.specs.ReplyLaws.{arguments_of, tests_of, refused_by_records, measured_done}

-- a mean value in range, as the code reads it
pub mean_read : (z : ℤ) → value_range z ≡ true → to_z w64 (of_z w64 z) ≡ z
mean_read z h = to_z-of_z (small_fits z (omega (arith, value_size z h)))

pub wear_in : (a : ToolMeasurement) (f : Found) {s : Tests} → s ≡ found_tests a f → first (record_rules s) ≡ 0 → wear_range f.wear ≡ true
wear_in a f e z = (tests_passed (found_tests a f) (ap (λ (s : Tests). first (record_rules s)) (sym e) ∙ z)).range

module _ (t : ToolReadings) (area results : List ℤ) (place : ℕ) where
  abbrev records : ToolRecords
  records = tool_read (held area) (tool_at t)

  abbrev found : Found
  found = tool_found records (tool_at t)

  module _ {a : ToolMeasurement} {r : ToolRecords} {f : Found} (given : a ≡ tool_at t) (read : r ≡ tool_read (held area) a) (finds : f ≡ tool_found r a) where
    read_is : r ≡ records
    read_is = read ∙ ap (tool_read (held area)) given

    found_is : f ≡ found
    found_is = finds ∙ ap₂ tool_found read_is given

    tests_are : {s : Tests} → s ≡ found_tests a f → s ≡ tests_of (held area) (tool t)
    unfolding tool_tests
    tests_are e = e ∙ ap₂ found_tests given found_is

    pub tool_refused : length area ≡ area_length → first (arguments_of (tool t)) ≡ 0 → {s : Tests} → s ≡ found_tests a f → (e : Result Evaluation Refusal)
        → {r : Refusal} → e ≡ Err r → number r ≡ first (record_rules s)
        → measured_as (answered_by e area) (results_left e results place) ≡ measured_on area (tool t) results place
    tool_refused whole passed tests e is n =
        refused_by_records area (tool t) results place whole passed e is (n ∙ ap (λ (s : Tests). first (record_rules s)) (tests_are tests))

    -- what is written is what the call changes
    changes_are : {k : Kind} {w : Wear} → k ≡ tool_kind_of a → w ≡ with_wear_on (on_length k a.probing.axis) r.wear f.wear
        → write means a.mv f.decision.mean ∷ write tools a.tool w ∷ [] ≡ changes (held area) (call_of (tool t) lent 0)
    unfolding wears_left
    changes_are kind w = rw (w, kind, read_is, found_is, given)

    pub tool_done : length area ≡ area_length → first (arguments_of (tool t)) ≡ 0 → {s : Tests} → s ≡ found_tests a f → first (record_rules s) ≡ 0
        → {k : Kind} {w : Wear} → k ≡ tool_kind_of a → w ≡ with_wear_on (on_length k a.probing.axis) r.wear f.wear → {v : Evaluation} {new after : List ℤ}
        → v ≡ tool_evaluation a f → new ≡ renewed_all area (write means a.mv f.decision.mean ∷ write tools a.tool w ∷ [])
        → after ≡ array_after results place (tool_filled a f) → measured_as (answered 0 v new) after ≡ measured_on area (tool t) results place
    tool_done whole passed tests allowed kind w v n e =
        measured_done area (tool t) results place whole passed (ap (λ (s : Tests). first (record_rules s)) (sym (tests_are tests)) ∙ allowed)
        (v ∙ ap₂ tool_evaluation given found_is) (n ∙ ap (renewed_all area) (changes_are kind w))
        (e ∙ ap₂ (λ (a : ToolMeasurement) (f : Found). array_after results place (tool_filled a f)) given found_is)
