-- The numbers in place of as many from the place on are the area written there.
use Rattle.std.proofs.Common.{◌≡◌, ℕ, ℤ, List, ◌+◌, ◌-◌, length, take, drop, sym, arith, append_assoc, drop-drop}
use borrow.Rule.Slice.PartMut.{put_mid}
use Rattle.lists.specs.Written.{written}
use Rattle.layout.proofs.write_numbers.Goals as goal

placed : (old new after : List ℤ) (at : ℕ) → after ≡ new → put_mid at (at + length new - at) old after ≡ written old at new
unfolding written
placed old new after at e =
    let long : at + length new - at ≡ length new = omega arith in
    rw (e, long, drop-drop (length new) at old) (sym (append_assoc (take at old) new (drop (at + length new) old)))

pub returns : goal.returns
returns c = placed c.args.area.now c.args.numbers.now c.copy_from_slice.new.self c.args.at c.copy_from_slice.ensures.after
