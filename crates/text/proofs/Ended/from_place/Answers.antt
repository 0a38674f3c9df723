-- The line feed stands behind each place of the line.
use Rattle.lists.specs.Copied.{part_end}
use Rattle.text.specs.PieceLaws.{line_from}
use Rattle.text.proofs.Ended.from_place.Goals as goal

pub invariant_of-result : goal.invariant_of-result
invariant_of-result c =
    let s = c.args.self.bytes.now in
    record { ended = rw (part_end s c.args.at) (line_from s c.args.at c.args.self.ended c.requires) }
