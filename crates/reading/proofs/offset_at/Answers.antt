-- The record's three numbers are the axes.
use Rattle.std.proofs.Common.{◌≡◌, sym, ◌∙◌, arith, take_all}
use Rattle.signed.specs.RangeLaws.{or_zero}
use Rattle.rules.specs.Stores.{offsets}
use Rattle.area.specs.Table.{offset_from}
use Rattle.area.specs.RecordLaws.{firsts_are}
use Rattle.reading.proofs.Laws.{Known, given}
use Rattle.reading.proofs.offset_at.Goals as goal

pub returns : goal.returns
returns c =
    let k : Known c.args.area.now offsets c.args.n =
    record { whole = omega (arith, c.told-area); named_in = or_zero 4 c.args.n c.requires.n_value; fits = c.ranges.n } in
    let zs = c.record_in.result.now in
    let three = rw c.unwrap.ensures at c.as_array.ensures.cases in
    let axes : (offset_from zs).axes ≡ zs = firsts_are zs 0 3 (omega (arith, three.long)) ∙ take_all 3 zs (omega (arith, three.long)) in
    rw (three.same ∙ sym axes) (given k c.record_in.ensures.numbers)
