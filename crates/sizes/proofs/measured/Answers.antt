-- The sizes are those of the rules, and small since the positions are in range.
use Rattle.sizes.specs.SizeLaws.{sizes_small}
use Rattle.sizes.proofs.measured.Goals as goal

pub invariant_of-result : goal.invariant_of-result
invariant_of-result c =
    let p = c.args.p in
    record { small = rw c.sizes_in.ensures (sizes_small c.args.x p.kind p.probing p.raws p.positions) }
