-- By the room: below 80 bytes it is refused; else the second 40 bytes follow the first 40, and the rest of the buffer stays.
use Rattle.std.specs.Prelude.{◌≡◌, List, ◌++◌, ℕ, ◌-◌, length, take, drop}
use Rattle.std.proofs.Common.{append_assoc, arith, rules, le-leb}
use Rattle.std.proofs.lemmas.Bool.{lt-leb}
use Rattle.std.proofs.Math.Seq.{take_at, drop_at, drop-drop}
use Rattle.lists.specs.Copied.{part_end, put_end}
use Rattle.rules.specs.Block.{saved_with, octets}
use Rattle.records.proofs.Laws.{forty}
use Rattle.records.proofs.save_memory.Goals as goal

-- two writes of 40 bytes, one after the other
two_parts : (e m b l₁ l₂ : List ℕ) → length e ≡ 40 → l₁ ≡ e ++ drop 40 b → l₂ ≡ m ++ drop 40 (take (length l₁ - 40) (drop 40 l₁))
    → take 40 l₁ ++ l₂ ≡ (e ++ m) ++ drop 80 b
two_parts e m b l₁ l₂ n p q =
    rw (q, part_end l₁ 40, p, take_at e (drop 40 b) 40 n, drop_at e (drop 40 b) 40 n, drop-drop 40 40 b, append_assoc e m (drop 80 b))

pub returns-then-buffer-lt80-clause-buffer_after :
    goal.returns-then-buffer-lt80-clause-buffer_after
unfolding saved_with
returns-then-buffer-lt80-clause-buffer_after c = rw (lt-leb 80 (length c.args.buffer.now) (omega arith))

pub returns-clause-buffer_after : goal.returns-clause-buffer_after
unfolding saved_with
returns-clause-buffer_after c =
    let b = c.args.buffer.now in
    let m = c.args.memory in
    rw (le-leb 80 (length b) (omega arith), put_end)
    (two_parts (octets m.empirical) (octets m.means) b c.write_words.new.buffer c.write_words-2.new.buffer
    (forty m.empirical (search rules)) c.write_words.ensures c.write_words-2.ensures)
