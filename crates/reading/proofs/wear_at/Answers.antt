-- The record's two numbers are the radius and the length.
use Rattle.std.proofs.Common.{◌≡◌, ◌∙◌, arith, rules, to_z, of_z}
use mir.Syntax.{w32}
use Rattle.signed.specs.RangeLaws.{or_zero}
use Rattle.rules.specs.Stores.{tools}
use Rattle.area.specs.Table.{number}
use Rattle.reading.proofs.Laws.{Known, given}
use Rattle.reading.proofs.wear_at.Goals as goal

pub returns : goal.returns
returns c =
    let k : Known c.args.area.now tools c.args.n =
    record { whole = omega (arith, c.told-area); named_in = or_zero 32 c.args.n c.requires.n_value; fits = c.ranges.n } in
    let zs = c.unwrap.result.now in
    let two = rw c.unwrap.ensures at c.as_array.ensures.cases in
    let radius : to_z w32 (of_z w32 (number zs 0)) ≡ number zs 0 = search rules in
    let length : to_z w32 (of_z w32 (number zs 1)) ≡ number zs 1 = search rules in
    rw (radius, length) (given k (two.same ∙ c.record_in.ensures.numbers))
