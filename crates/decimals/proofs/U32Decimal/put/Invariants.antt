use Rattle.std.proofs.Common.{◌+◌, ◌≤◌, length}
use Rattle.decimals.specs.Decimals.{decimal}
use Rattle.decimals.proofs.Laws.{Behind}
use Rattle.decimals.proofs.U32Decimal.put.Given as goal

abbrev pub invariant-loop-k : goal.invariant-loop-k
invariant-loop-k l =
    record {
      fits : l.at + length (decimal l.self) ≤ length l.initial.out;
      small : l.m ≤ l.self;
      behind : Behind l.initial.out l.at l.self l.out l.m l.k;
    }
