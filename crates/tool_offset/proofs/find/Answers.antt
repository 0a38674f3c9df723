-- The parts are those of the rules one after the other, of the kind, probing and raws that are given.
use Rattle.std.specs.Prelude.{◌≡◌, ◌<◌, ℤ, ◌+ℤ◌, ◌*ℤ◌}
use Rattle.std.proofs.Common.{ap, ap₂, ◌∙◌, rules, w16, w64, to_z, of_z}
use Rattle.std.specs.Int.Signed.{mag}
use Rattle.signed.specs.CodeLaws.{read, widened}
use Rattle.rules.specs.Sizes.{difference}
use Rattle.rules.specs.Tool.{named, weight, decided, on_length, factor, wear_on}
use Rattle.tool_offset.proofs.Laws.{found_is}
use Rattle.tool_offset.proofs.find.Goals as goal

pub returns : goal.returns
returns c =
    let r = c.args.r in
    let a = c.args.p.given in
    let p = c.args.p in
    let d = c.difference_of-deviation in
    let dc = c.decision_of-decision in
    let f : mag r.ev < 32768 = search rules in
    let ev = (widened w16 w64 r.ev tt f).value in
    let mean : to_z w16 (of_z w16 r.mean) ≡ r.mean = search rules in
    let correction : to_z w64 (of_z w64 dc.result.correction) ≡ dc.result.correction = search rules in
    let sizes = rw (p.probing.0, p.probing.1) at c.measured.ensures in
    let calibrated = rw p.probing.0 at (c.calibrated.ensures p.probed.kind p.probed.probing p.probed.touched) in
    let deviation = d.ensures.0 ∙ ap (difference c.measured.result.sizes.held) ev in
    let decision = dc.ensures.0 ∙ ap₂ (λ m n. decided a.limits (named a) m n (weight a)) mean (read d.result d.type_inv) in
    let wear = (rw p.probing.0 at c.wear_left.ensures)
    ∙ ap (λ (n : ℤ). wear_on (on_length p.probed.kind a.probing.axis) r.wear +ℤ factor p.probed.kind a.probing.direction *ℤ n) correction in
    rw (ev, read d.result d.type_inv, read c.wear_left.result c.wear_left.type_inv)
    (found_is r a p.named calibrated sizes deviation decision wear)
