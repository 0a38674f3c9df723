-- The sizes are those of the records, which are small.
use Rattle.zero_offset.specs.ZeroFound.{found_small}
use Rattle.zero_offset.proofs.zero_tests.Goals as goal

pub invariant_of-found-2 : goal.invariant_of-found-2
invariant_of-found-2 c = record { small = found_small c.args.r c.args.a c.requires }
