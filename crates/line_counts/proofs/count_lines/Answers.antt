-- The count so far and the lines that the blocks from there on end come to all lines.
use Rattle.std.proofs.Common.{◌≡◌, ℕ, suc, ◌+◌, ◌/◌, ◌<◌, List, [], length, get_or, drop, ap, arith, add-one, drop-cons}
use Rattle.std.specs.Prelude.{sum_by}
use Rattle.std.proofs.lemmas.List.Sums.{sum_by-cons}
use Rattle.text.specs.Pieces.{lines}
use Rattle.text.specs.PieceLaws.{count_le}
use Rattle.line_counts.proofs.LineSums.{ended, blocks_end_lines}
use Rattle.line_counts.proofs.count_lines.Goals as goal

pub loop-block-init : goal.loop-block-init
loop-block-init c =
    let s = c.args.s.now in
    rw (c.as_chunks.ensures.front) (omega (arith, blocks_end_lines 128 (length s / 128) s, c.count_block.ensures, ap (λ l. length (lines l)) c.as_chunks.ensures.back))

-- the block that a turn counts, in front of those behind it
front : (bs : List (List ℕ)) (i : ℕ) → i < length bs → sum_by ended (drop i bs) ≡ ended (get_or bs i []) + sum_by ended (drop (i + 1) bs)
front bs i h = rw (add-one i, drop-cons bs i [] h) (sum_by-cons ended (get_or bs i []) (drop (suc i) bs))

pub overflow_add-n : goal.overflow_add-n
overflow_add-n c =
    let f = front c.as_chunks.result.0.now c.loop-block.block-index (omega arith) in
    omega (arith, f, c.loop-block.invariant, c.count_block-in-loop-block.ensures, count_le c.args.s.now)
