-- By the form: the rule is a conjunction over the positions, centres and setpoint that the form uses, and the code tests each of these.
use Rattle.std.proofs.Common.{rules}
use Rattle.kind_tests.proofs.Positions.{of_plane, of_single, of_double}
use Rattle.kind_tests.proofs.positions_ok.Goals as goal

pub returns-in-Plane : goal.returns-in-Plane
returns-in-Plane c =
    let is = of_plane c.args.k c.args.a c.args.q c.in-Plane.is in
    search rules

pub returns-in-Single : goal.returns-in-Single
returns-in-Single c =
    let is = of_single c.args.k c.args.a c.args.q c.single_centre.result c.in-Single.is (c.single_centre.ensures c.args.k.inside) in
    search rules

pub returns-in-Double : goal.returns-in-Double
returns-in-Double c =
    let is = of_double c.args.k c.args.a c.args.q c.in-Double.is in
    search rules
