-- By cases: a probe number out of range, or the status that the probe's record holds.
use Rattle.std.proofs.Common.{◌≡◌, true, ap, ◌∙◌, sym, List, ℤ, rules, to_z, of_z, to_z-of_z}
use mir.Syntax.{w32}
use Rattle.signed.specs.RangeLaws.{or_zero}
use Rattle.rules.specs.Stores.{probe_number}
use Rattle.rules.specs.Status.{status_answer}
use Rattle.area.specs.Table.{number, status_from}
use Rattle.status_reading.specs.StatusLaws.{status_refused, status_done}
use Rattle.status_reading.proofs.probe_status.Goals as goal

pub returns-then-not-in_range : goal.returns-then-not-in_range
returns-then-not-in_range c =
    status_refused c.args.area.now c.in-Some.ensures.cases.long c.args.probe (sym (rw (to_z-of_z c.ranges.probe) at c.if-not-in_range.ensures))

pub record_in-requires-clause-n_value : goal.record_in-requires-clause-n_value
record_in-requires-clause-n_value c =
    let allowed : probe_number c.args.probe ≡ true = sym (rw (to_z-of_z c.ranges.probe) at c.if-not-in_range.ensures) in
    rw (to_z-of_z c.ranges.probe) (or_zero 3 c.args.probe allowed)

pub returns : goal.returns
returns c =
    let allowed : probe_number c.args.probe ≡ true = sym (rw (to_z-of_z c.ranges.probe) at c.if-not-in_range.ensures) in
    let status : to_z w32 (of_z w32 (number c.record_in.result.now 6)) ≡ number c.record_in.result.now 6 = search rules in
    let numbers = rw (c.in-Some.ensures.cases.same, to_z-of_z c.ranges.probe) at c.record_in.ensures.numbers in
    c.status_answer.ensures
    ∙ ap status_answer (c.status_from.ensures ∙ ap status_from (status ∙ ap (λ (zs : List ℤ). number zs 6) numbers))
    ∙ status_done c.args.area.now c.in-Some.ensures.cases.long c.args.probe allowed
