use Rattle.std.proofs.Common.{◌≡◌, ◌^◌, ◌<◌, ◌≤◌, get_or, drop}
use Rattle.text.specs.Numbers.{nought}
use Rattle.text.specs.Pieces.{field}
use Rattle.text.proofs.Laws.{Passed}
use Rattle.text.proofs.Ended.read_whole.Given as goal

abbrev pub invariant-loop-size : goal.invariant-loop-size
invariant-loop-size l =
    let s = l.self.bytes.now in
    record {
      range : (1 ≤ l.size) × (l.size ≤ 8);
      small : l.value < 10 ^ l.size;
      passed : Passed (field s) l.value l.size (field (drop l.size s));
      first : get_or (field s) 0 0 ≡ nought → ⊥;
    }
