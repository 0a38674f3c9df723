-- The lines of a text are those of a part and of the rest.
use Rattle.std.specs.Prelude.{◌≡◌, ℕ, ◌+◌, Bool, true, false, cond, List, [], ◌∷◌, ◌++◌, length, take, drop, ◌==◌}
use Rattle.std.proofs.Common.{arith, take-append-drop, drop-drop}
use Rattle.text.specs.Pieces.{line_feed, onto, lines}
use Rattle.text.specs.PieceLaws.{onto_length}

count_append : (s t : List ℕ) → length (lines (s ++ t)) ≡ length (lines s) + length (lines t)
unfolding lines
count_append [] t = omega arith
count_append (x ∷ xs) t = go (x == line_feed) (count_append xs t)
  where
    go : (u : Bool) → length (lines (xs ++ t)) ≡ length (lines xs) + length (lines t)
        → length (cond u ([] ∷ lines (xs ++ t)) (onto x (lines (xs ++ t)))) ≡ length (cond u ([] ∷ lines xs) (onto x (lines xs))) + length (lines t)
    go true e = omega arith
    go false e = omega (arith, onto_length x (lines (xs ++ t)), onto_length x (lines xs))

pub count_part : (s : List ℕ) (at k : ℕ) → length (lines (drop at s)) ≡ length (lines (take k (drop at s))) + length (lines (drop (at + k) s))
count_part s at k = rw (← drop-drop k at s, ← count_append (take k (drop at s)) (drop k (drop at s)), take-append-drop k (drop at s))
