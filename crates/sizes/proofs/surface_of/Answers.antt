-- The raw position, sign and trigger are each bounded, so that product and sum do not overflow and come to raw + s·t.
use Rattle.std.proofs.Common.{ap₂, ◌∙◌, ◌+ℤ◌, ◌*ℤ◌, w64}
use Rattle.signed.specs.RangeLaws.{size_in}
use Rattle.signed.specs.Expressions.{Ex, Runs, run}
use Rattle.package.specs.Ways.{axis_number, direction_number}
use Rattle.rules.specs.ProbeLaws.{sign_size}
use Rattle.rules.specs.Sizes.{raw_at, surface}
use Rattle.kinds.specs.Touches.{touch}
use Rattle.sizes.specs.SizeLaws.{surface_code, trigger_size}
use Rattle.sizes.proofs.surface_of.Goals as goal
use Rattle.sizes.proofs.surface_of.Goals.{After-sign_in}

abbrev code : After-sign_in → Ex w64
code c =
    let direction = direction_number c.args.t.way.direction in
    surface_code c.raw_at.result c.sign_in.result c.trigger_on-trigger.result
    (rw c.raw_at.ensures (size_in 10000000 (raw_at c.args.q (touch c.args.t)) c.requires))
    (rw c.sign_in.ensures (sign_size direction))
    (rw c.trigger_on-trigger.ensures (trigger_size c.args.x (axis_number c.args.t.way.axis) direction))

runs : (c : After-sign_in) → Runs (code c)
runs c = run (code c) tt (search)

pub returns : goal.returns
unfolding surface
returns c = (runs c).value ∙ ap₂ ◌+ℤ◌ c.raw_at.ensures (ap₂ ◌*ℤ◌ c.sign_in.ensures c.trigger_on-trigger.ensures)

pub overflow_mul-result : goal.overflow_mul-result
overflow_mul-result c = search (runs c).asks

pub overflow_add-result : goal.overflow_add-result
overflow_add-result c = search (runs c).asks
