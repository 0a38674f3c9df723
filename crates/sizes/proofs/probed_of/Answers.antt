-- The numbers are those of their stores, so that the kind touches something.
use Rattle.sizes.proofs.Laws.{something}
use Rattle.sizes.proofs.probed_of.Goals as goal

pub unwrap-requires : goal.unwrap-requires
unwrap-requires c = something c.args.k c.args.a c.surfaces_of.result c.requires.0 c.surfaces_of.ensures
