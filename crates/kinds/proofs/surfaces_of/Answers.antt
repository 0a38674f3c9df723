-- Numbers that name no way do not pass the tests of a plane's axis and direction.
use Rattle.std.proofs.Common.{rules}
use Rattle.signed.specs.CodeLaws.{read}
use Rattle.rules.specs.WayLaws.{way_tested}
use Rattle.kinds.proofs.surfaces_of.Goals as goal

pub returns-in_err-named-in-Plane : goal.returns-in_err-named-in-Plane
returns-in_err-named-in-Plane c =
    let a = c.args.a in
    let tested = rw (read a.axis (search rules), read a.direction (search rules)) at (way_tested _ _ _ c.named.ensures) in
    search rules
