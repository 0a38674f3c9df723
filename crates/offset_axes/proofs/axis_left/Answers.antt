-- The number is read as it is stored; the growth is small, so that the sum is exact.
use Rattle.std.proofs.Common.{ap₂, ◌∙◌, ◌+ℤ◌, to_z-of_z}
use Rattle.signed.specs.CodeLaws.{read}
use Rattle.offset_axes.proofs.axis_left.Goals as goal

pub returns : goal.returns
returns c =
    let n = read c.number_of.result c.number_of.type_inv ∙ c.number_of.ensures in
    let g = c.growth_of in
    read c.grown.result c.grown.type_inv
    ∙ c.grown.ensures
    ∙ ap₂ ◌+ℤ◌ (to_z-of_z c.ranges.v) (read g.result g.type_inv ∙ (rw n at g.ensures.0))
