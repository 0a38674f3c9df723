-- Refused by the records; done, with the change of the call.
use Rattle.std.proofs.Common.{sym, arith, rules}
use Rattle.zero_measuring.proofs.Laws.{zero_refused, zero_done}
use Rattle.zero_measuring.proofs.measure_passed.Goals as goal

pub returns-in_err-allowed : goal.returns-in_err-allowed
returns-in_err-allowed c = λ t given passed.
    let s = c.args in
    let e = c.find-f.ensures in
    zero_refused t s.area.now s.results.now s.place given c.zero_records.ensures (omega (arith, c.told-area)) passed (rw (e.0, e.1) at c.tests.ensures) _ (search rules)
    c.in_err-allowed.ensures

pub returns : goal.returns
returns c = λ t given passed.
    let s = c.args in
    let e = c.find-f.ensures in
    zero_done t s.area.now s.results.now s.place given c.zero_records.ensures (omega (arith, c.told-area)) passed (rw (e.0, e.1) at c.tests.ensures)
    (sym c.in_ok-allowed.ensures) (rw (e.0, e.1) at c.find-f.result.is) (rw (e.0, e.1) at c.offset_left.ensures) c.evaluated.ensures c.put_zero.ensures
    c.put_numbers.ensures
