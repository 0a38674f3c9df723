-- The axes tested are those that are corrected, by what is touched.
use Rattle.std.proofs.Common.{sym, ap₂, ◌∙◌, ◌&&◌}
use Rattle.kinds.specs.declared.Surfaces.TheVariants.{Plane as Flat, Pair, Pairs}
use Rattle.zero_offset.proofs.Laws.{stays, corrected, range_is}
use Rattle.zero_offset.proofs.FoundZero.axes_ok.Goals as goal

pub returns-in-Plane : goal.returns-in-Plane
returns-in-Plane c =
    let p = c.args.self.passed in
    let e = p.probing.0 in
    (rw e at c.left_ok.ensures) ∙ sym (corrected p.probed.kind p.given.probing (stays c.args.self) (Flat c.in-Plane.touch) (rw (e, c.in-Plane.is) at p.probed.touched)) ∙ range_is c.args.self

pub returns-in-Pair : goal.returns-in-Pair
returns-in-Pair c =
    let p = c.args.self.passed in
    let e = p.probing.0 in
    (rw e at c.left_ok-in-Pair.ensures) ∙ sym (corrected p.probed.kind p.given.probing (stays c.args.self) (Pair c.in-Pair.pair) (rw (e, c.in-Pair.is) at p.probed.touched)) ∙ range_is c.args.self

pub returns-in-Pairs : goal.returns-in-Pairs
returns-in-Pairs c =
    let p = c.args.self.passed in
    let e = p.probing.0 in
    ap₂ ◌&&◌ (rw e at c.left_ok-in-Pairs.ensures) (rw e at c.left_ok-in-Pairs-2.ensures)
    ∙ sym (corrected p.probed.kind p.given.probing (stays c.args.self) (Pairs c.in-Pairs.field-0) (rw (e, c.in-Pairs.is) at p.probed.touched))
    ∙ range_is c.args.self
