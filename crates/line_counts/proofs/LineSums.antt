-- The line feeds of a text, and the lines of its blocks.
use Rattle.std.specs.Prelude.{◌≡◌, ℕ, zero, suc, ◌+◌, ◌*◌, Bool, true, false, cond, refl, List, [], ◌∷◌, length, take, drop, sum_by, ◌==◌}
use Rattle.std.proofs.Common.{arith, ap, sym, ◌∙◌, drop-drop}
use mir.Val.{bool_byte}
use Rattle.std.specs.Simd.{first_chunks}
use Rattle.std.proofs.lemmas.List.Recursion.{is_sum_by}
use Rattle.std.proofs.lemmas.List.Sums.{sum_by-cons}
use Rattle.text.specs.Pieces.{line_feed, onto, lines}
use Rattle.text.specs.PieceLaws.{onto_length}
use Rattle.text.proofs.PieceLaws.{count_part}

-- 1 of a line feed, and else 0
abbrev pub feed : ℕ → ℕ
feed b = bool_byte (b == line_feed)

lines_cons : (x : ℕ) (xs : List ℕ) → length (lines (x ∷ xs)) ≡ feed x + length (lines xs)
unfolding lines
lines_cons x xs = go (x == line_feed)
  where
    go : (t : Bool) → length (cond t ([] ∷ lines xs) (onto x (lines xs))) ≡ bool_byte t + length (lines xs)
    go true = omega arith
    go false = omega (arith, onto_length x (lines xs))

pub feeds_end_lines : (s : List ℕ) → sum_by feed s ≡ length (lines s)
unfolding lines
feeds_end_lines s = sym (is_sum_by (λ l. length (lines l)) feed refl lines_cons s)

-- how many lines a block ends
abbrev pub ended : List ℕ → ℕ
ended s = length (lines s)

pub blocks_end_lines : (n k : ℕ) (s : List ℕ) → sum_by ended (first_chunks n k s) + length (lines (drop (k * n) s)) ≡ length (lines s)
blocks_end_lines n zero s = let z : 0 * n ≡ 0 = omega arith in rw z (omega arith)
blocks_end_lines n (suc k) s =
    let e : suc k * n ≡ 0 + n + k * n = omega arith in
    let z : drop (0 + n) s ≡ drop n s = ap (λ m. drop m s) (omega arith) in
    omega (
      arith,
      sum_by-cons ended (take n s) (first_chunks n k (drop n s)),
      blocks_end_lines n k (drop n s),
      count_part s 0 n,
      ap (λ (l : List ℕ). length (lines l)) z,
      ap (λ (l : List ℕ). length (lines l)) (ap (λ m. drop m s) e ∙ sym (drop-drop (k * n) (0 + n) s) ∙ ap (drop (k * n)) z),
    )
