-- The sizes' numbers are those of the kind; the arguments passed, so TSA and the offset's number are small, and each is stored as it is.
use Rattle.std.proofs.Common.{pos, arith}
use Rattle.rules.specs.Zero.{zero_kind_of}
use Rattle.rules.specs.Results.{zero_filled}
use Rattle.result_sizes.specs.ResultLaws.{asked, stored}
use Rattle.result_sizes.specs.OutcomeLaws.{number_size}
use Rattle.result_numbers.proofs.Laws.{both_small, zero_small}
use Rattle.result_numbers.proofs.DoneZeroNumbers.numbers.Goals as goal

pub size_numbers-n-requires : goal.size_numbers-n-requires
size_numbers-n-requires c =
    let a = c.args.self.passed.given in
    let h = c.args.self.passed.passed.numbers in
    rw c.args.self.passed.named
    (both_small (zero_kind_of a) a.probing c.args.self.measured.sizes (pos 0) h.numbers (omega (arith, number_size 100 104 a.probing.kind h.kind))
    c.args.self.measured.small (omega arith))

pub narrow-requires : goal.narrow-requires
narrow-requires c = asked c.args.self.passed.given.tsa (zero_small c.args.self.passed.given c.args.self.passed.passed).0

pub narrow-requires-2 : goal.narrow-requires-2
narrow-requires-2 c = asked c.args.self.passed.given.offset (zero_small c.args.self.passed.given c.args.self.passed.passed).1.0

pub returns : goal.returns
unfolding zero_filled
returns c =
    let small = zero_small c.args.self.passed.given c.args.self.passed.passed in
    rw (
      c.size_numbers-n.ensures,
      c.args.self.passed.named,
      stored c.args.self.passed.given.tsa small.0 c.narrow.ensures,
      stored c.args.self.passed.given.offset small.1.0 c.narrow-2.ensures,
    )
