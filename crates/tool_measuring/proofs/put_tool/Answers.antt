-- The mean value is in range, so that it is stored as it is; the wears are then written to the area that this leaves.
use mathlib.Core.Path.{◌≡◌, ap, ◌∙◌}
use mathlib.Core.Bool.{true}
use mathlib.Core.List.{List}
use lib.IntN.{ℤ, pos}
use mir.Syntax.{w32, w64}
use mir.Val.{to_z, of_z, SFits}
use borrow.Author.Rules.{rules}
use Rattle.signed.specs.Ranges.{minus}
use Rattle.signed.specs.CodeLaws.{Cast, casts}
use Rattle.signed.specs.RangeLaws.{or_zero}
use Rattle.rules.specs.Stores.{value_range, tools}
use Rattle.rules.specs.Changes.{write}
use Rattle.area.specs.Renewed.{renewed}
use Rattle.tool_measuring.proofs.put_tool.Goals as goal

value : (m : ℤ) → SFits w64 m → value_range m ≡ true → Cast w32 m
value m f h = casts w32 (minus 32768) (pos 32767) f tt tt h

pub overflow_cast-mean : goal.overflow_cast-mean
overflow_cast-mean c = (value c.args.mean c.ranges.mean c.requires.mean_value).fits

pub put_record-requires-2-clause-n_value : goal.put_record-requires-2-clause-n_value
put_record-requires-2-clause-n_value c =
    let a = c.args.a in
    let tool : to_z w64 (of_z w64 a.tool) ≡ a.tool = search rules in
    rw tool (or_zero 32 a.tool c.requires.tool_numbers.tool)

pub returns : goal.returns
returns c =
    let a = c.args.a in
    let x = c.args.w in
    let mv : to_z w64 (of_z w64 a.mv) ≡ a.mv = search rules in
    let tool : to_z w64 (of_z w64 a.tool) ≡ a.tool = search rules in
    let radius : to_z w32 (of_z w32 x.radius) ≡ x.radius = search rules in
    let length : to_z w32 (of_z w32 x.length) ≡ x.length = search rules in
    let mean = rw ((value c.args.mean c.ranges.mean c.requires.mean_value).value, mv) at c.put_record.ensures in
    let wear = rw (radius, length, tool) at c.put_record-2.ensures in
    wear ∙ ap (λ (zs : List ℤ). renewed zs (write tools a.tool x)) mean
