-- The first six numbers of the record are the triggers, and the seventh is the status.
use Rattle.std.proofs.Common.{◌≡◌, sym, ap, ◌∙◌, arith, rules, to_z, of_z}
use mir.Syntax.{w32}
use Rattle.signed.specs.RangeLaws.{or_zero}
use Rattle.rules.specs.Stores.{probes}
use Rattle.area.specs.Table.{number, status_from}
use Rattle.area.specs.RecordLaws.{triggers_are}
use Rattle.reading.proofs.Laws.{Known, given}
use Rattle.reading.proofs.probe_at.Goals as goal

pub returns : goal.returns
returns c =
    let k : Known c.args.area.now probes c.args.n =
    record { whole = omega (arith, c.told-area); named_in = or_zero 3 c.args.n c.requires.n_value; fits = c.ranges.n } in
    let zs = c.record_in-numbers.result.now in
    let six = rw c.unwrap.ensures at c.first_chunk.ensures.cases in
    let status : to_z w32 (of_z w32 (number zs 6)) ≡ number zs 6 = search rules in
    rw (six.same ∙ sym (triggers_are zs six.enough), c.status_from.ensures ∙ ap status_from status) (given k c.record_in-numbers.ensures.numbers)
