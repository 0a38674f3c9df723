-- By cases: a length other than 80, or both halves of the block written, each to its section.
use Rattle.std.proofs.Common.{◌≡◌, length, take, drop, take_all, length-drop, ne_eqb, arith}
use Rattle.rules.specs.Calls.{load}
use Rattle.area.specs.CalledLaws.{call_refused}
use Rattle.memory.specs.BlockCallLaws.{load_done}
use Rattle.memory.proofs.load.Goals as goal

pub returns-in_default-as_array : goal.returns-in_default-as_array
returns-in_default-as_array c =
    let bytes = c.args.bytes.now in
    rw c.in-Some.ensures.cases.same
    (call_refused c.args.area.now (load bytes) c.in-Some.ensures.cases.long (rw (ne_eqb (length bytes) 80 c.in_default-as_array.ensures.cases))
    (λ q. omega (arith, q)))

pub returns : goal.returns
returns c =
    let bytes = c.args.bytes.now in
    let n : length bytes ≡ 80 = c.in-Some-as_array.ensures.cases.long in
    let second : take 40 (drop 40 bytes) ≡ drop 40 bytes = take_all 40 (drop 40 bytes) (simp length-drop (omega arith)) in
    load_done c.args.area.now c.in-Some.ensures.cases.long bytes n
    (rw (c.in-Some.ensures.cases.same, c.in-Some-as_array.ensures.cases.same) at c.write_values.ensures)
    (rw (c.in-Some-as_array.ensures.cases.same, second) at c.write_values-2.ensures)
