-- The part is as long as the numbers, so that what lies after it is what lies after them.
use Rattle.std.proofs.Common.{◌≡◌, true, List, ℤ, ℕ, ◌+◌, ◌-◌, ap, ◌∙◌, sym, arith, length, take, drop, append_assoc, rules}
use lib.Dec.{leb}
use borrow.Rule.Slice.PartMut.{put_mid, Post-is}
use Rattle.lists.specs.Written.{written}
use Rattle.results.proofs.put_numbers.Goals as goal

part_put : (array : List ℤ) (place : ℕ) (numbers : List ℤ) → length numbers ≡ 42 → put_mid place (place + 42 - place) array numbers ≡ written array place numbers
unfolding written
part_put array place numbers n = rw (Post-is place (place + 42) array (omega arith), n) (sym (append_assoc (take place array) numbers (drop (place + 42) array)))

pub returns-then-has_room : goal.returns-then-has_room
returns-then-has_room g c =
    let s = c.args in
    let room : leb (s.place + 42) (length s.results.now) ≡ true = sym c.has_room.ensures ∙ c.if-has_room.true in
    let n : length c.numbers.result ≡ 42 = search rules in
    rw (room, c.copy_from_slice.ensures.after) (part_put s.results.now s.place c.numbers.result n ∙ ap (written s.results.now s.place) c.numbers.ensures)
