-- Two cases, by whether the length wear is the corrected one; the new wear is in range, so that it is stored as it is.
use Rattle.std.specs.Prelude.{◌≡◌, true, false, pos}
use Rattle.std.proofs.Common.{sym, ◌∙◌, rules, w32, w64, to_z, of_z}
use Rattle.signed.specs.Ranges.{minus}
use Rattle.signed.specs.CodeLaws.{casts}
use Rattle.rules.specs.Tool.{on_length}
use Rattle.wears.proofs.wears_left.Goals as goal

pub returns-then-on_length : goal.returns-then-on_length
returns-then-on_length c =
    let value = casts w32 (minus 2000000) (pos 2000000) c.ranges.v tt tt c.requires in
    let axis : to_z w64 (of_z w64 c.args.a.axis) ≡ c.args.a.axis = search rules in
    let length : on_length c.args.k c.args.a.axis ≡ true = sym (rw axis at c.on_length.ensures) ∙ c.if-on_length.true in
    let radius : to_z w32 (of_z w32 c.args.w.radius) ≡ c.args.w.radius = search rules in
    rw (value.value, length, radius)

pub returns-else-on_length : goal.returns-else-on_length
returns-else-on_length c =
    let value = casts w32 (minus 2000000) (pos 2000000) c.ranges.v tt tt c.requires in
    let axis : to_z w64 (of_z w64 c.args.a.axis) ≡ c.args.a.axis = search rules in
    let length : on_length c.args.k c.args.a.axis ≡ false = sym (rw axis at c.on_length.ensures) ∙ c.if-on_length.false in
    let kept : to_z w32 (of_z w32 c.args.w.length) ≡ c.args.w.length = search rules in
    rw (value.value, length, kept)
