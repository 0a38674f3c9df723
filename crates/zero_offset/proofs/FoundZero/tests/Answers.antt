-- Each test is that of the rules on the kind and the sizes of what was given.
use Rattle.std.proofs.Common.{◌∙◌}
use Rattle.zero_offset.proofs.Laws.{calibrated_is, pairs_is, tests_are}
use Rattle.zero_offset.proofs.FoundZero.tests.Goals as goal

pub returns : goal.returns
returns c =
    let f = c.args.self in
    let p = f.passed.probed in
    let e = f.passed.probing.0 in
    tests_are f ((rw e at (c.calibrated.ensures p.kind p.probing p.touched)) ∙ calibrated_is f) ((rw e at c.widths_ok.ensures) ∙ pairs_is f) c.growths_ok.ensures c.axes_ok.ensures
