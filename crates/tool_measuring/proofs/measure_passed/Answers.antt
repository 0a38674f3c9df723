-- Refused by the records; done, with the changes of the call.
use Rattle.std.proofs.Common.{◌≡◌, sym, arith, rules}
use mir.Syntax.{w64}
use mir.Val.{to_z, of_z}
use Rattle.tool_measuring.proofs.Laws.{mean_read, wear_in, tool_refused, tool_done}
use Rattle.tool_measuring.proofs.measure_passed.Goals as goal

pub returns-in_err-allowed : goal.returns-in_err-allowed
returns-in_err-allowed c = λ t given passed.
    let s = c.args in
    tool_refused t s.area.now s.results.now s.place given c.tool_records-r.ensures c.find-f.ensures (omega (arith, c.told-area)) passed c.tool_tests.ensures _ (search rules)
    c.in_err-allowed.ensures

pub wears_left-requires : goal.wears_left-requires
wears_left-requires c =
    let f = c.find-f.result.found in
    let read : to_z w64 (of_z w64 f.wear) ≡ f.wear = search rules in
    rw read (wear_in c.args.p.given f c.tool_tests.ensures (sym c.in_ok-allowed.ensures))

pub returns : goal.returns
returns c = λ t given passed.
    let s = c.args in
    let f = c.find-f.result.found in
    let read : to_z w64 (of_z w64 f.wear) ≡ f.wear = search rules in
    tool_done t s.area.now s.results.now s.place given c.tool_records-r.ensures c.find-f.ensures (omega (arith, c.told-area)) passed c.tool_tests.ensures
    (sym c.in_ok-allowed.ensures) s.p.named (rw read at c.wears_left.ensures) c.evaluated.ensures
    (rw (mean_read f.decision.mean c.find-f.result.small.decision.mean) at c.put_tool.ensures) c.put_numbers.ensures
