-- What is touched is what the kind touches, so that its raws and set centres are in range, and the sizes are those of its surface or its pairs.
use Rattle.std.proofs.Common.{◌≡◌, sym, subst, true, rules}
use Rattle.rules.specs.Stores.{position_range}
use Rattle.rules.specs.Sizes.{raw_at}
use Rattle.kinds.specs.Touches.{across}
use Rattle.kinds.specs.KindLaws.{plane_raw}
use Rattle.sizes.proofs.Laws.{one_positioned, both_positioned, of_plane, of_single, of_double}
use Rattle.sizes.proofs.sizes_in.Goals as goal

pub surface_of-requires : goal.surface_of-requires
surface_of-requires c =
    let p = c.args.p in
    let t = rw c.in-Plane.is at p.touched in
    subst (λ t. position_range (raw_at p.raws t) ≡ true) (sym t.1) (plane_raw p.kind p.probing p.raws p.positions t.0)

pub pair_of-requires : goal.pair_of-requires
pair_of-requires c = let p = c.args.p in one_positioned p.kind p.probing p.raws p.positions (across c.in-Pair.across) (rw c.in-Pair.is at p.touched).1

pub pair_of-abscissa-requires : goal.pair_of-abscissa-requires
pair_of-abscissa-requires c =
    let p = c.args.p in
    let both = c.in-Pairs.both in
    (both_positioned p.kind p.probing p.raws p.positions (across both.abscissa) (across both.ordinate) (rw c.in-Pairs.is at p.touched).1).0

pub pair_of-requires-in-Pairs : goal.pair_of-requires-in-Pairs
pair_of-requires-in-Pairs c =
    let p = c.args.p in
    let both = c.in-Pairs.both in
    (both_positioned p.kind p.probing p.raws p.positions (across both.abscissa) (across both.ordinate) (rw c.in-Pairs.is at p.touched).1).1

pub returns-in-Plane : goal.returns-in-Plane
returns-in-Plane c =
    let p = c.args.p in
    let is = of_plane c.args.x p.kind p.probing p.raws (rw c.in-Plane.is at p.touched).0 in
    search rules

pub returns-in-Pair : goal.returns-in-Pair
returns-in-Pair c =
    let p = c.args.p in
    let is = of_single c.args.x p.kind p.probing p.raws (across c.in-Pair.across) (rw c.in-Pair.is at p.touched).0 (rw c.in-Pair.is at p.touched).1 in
    search rules

pub returns-in-Pairs : goal.returns-in-Pairs
returns-in-Pairs c =
    let p = c.args.p in
    let both = c.in-Pairs.both in
    let is = of_double c.args.x p.kind p.probing p.raws (across both.abscissa) (across both.ordinate) (rw c.in-Pairs.is at p.touched).0 (rw c.in-Pairs.is at p.touched).1 in
    search rules
