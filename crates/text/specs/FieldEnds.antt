-- Where a reader stopped, k bytes behind the place of a field in a line: at a comma, at the line's end, or within the field.
use Rattle.std.specs.Prelude.{◌≡◌, ℕ, ◌+◌, ◌<◌, ◌≤◌, List, length, drop, ◌≢◌, slice_index, slice_index_or}
use Rattle.std.proofs.Common.{ap, sym, ◌∙◌, arith, length-drop, get_or-drop, get_or-take}
use Rattle.std.proofs.Math.Decide.{dec_lt}
use Rattle.text.specs.Pieces.{comma, line_feed, up_to, line, HasLine, field}
use Rattle.text.specs.PieceLaws.{up_le, up_take, up_at, up_inside, up_stop, up_drop}

-- a byte of the line is the text's
pub line_byte : (s : List ℕ) (j : ℕ) → j < length (line s) → slice_index (line s) j ≡ slice_index s j
line_byte s j h = ap (λ (l : List ℕ). slice_index l j) (sym (up_take line_feed s)) ∙ get_or-take (length (line s)) s j 0 h

module _ (s : List ℕ) (on : HasLine s) (at : ℕ) (h : at ≤ length (line s)) where
  pub field_is : field (drop at s) ≡ up_to comma (drop at (line s))
  field_is = ap (up_to comma) (up_drop line_feed s at h)

  size : length (drop at (line s)) + at ≡ length (line s)
  size = omega (arith, length-drop at (line s))

  pub ends_within : at + length (up_to comma (drop at (line s))) ≤ length (line s)
  ends_within = omega (arith, size, up_le comma (drop at (line s)))

  module _ (k : ℕ) (l : k ≤ length (up_to comma (drop at (line s)))) where
    byte : at + k < length (line s) → slice_index (drop at (line s)) k ≡ slice_index s (at + k)
    byte i = get_or-drop at (line s) k 0 ∙ line_byte s (at + k) i

    end : at + k ≡ length (line s) → slice_index s (at + k) ≡ line_feed
    end e = ap (λ (j : ℕ). slice_index s j) e ∙ up_stop line_feed s on

    pub at_comma : slice_index_or s (at + k) 0 ≡ comma
        → (k ≡ length (up_to comma (drop at (line s)))) × (k < length (drop at (line s)))
    at_comma e = go (dec_lt (at + k) (length (line s)))
      where
        go : Dec (at + k < length (line s)) → (k ≡ length (up_to comma (drop at (line s)))) × (k < length (drop at (line s)))
        go (yes i) =
            let j : k < length (drop at (line s)) = omega (arith, size) in
            (omega (arith, up_at comma (drop at (line s)) k j (byte i ∙ e)), j)
        go (no i) = absurd (omega (arith, end (omega (arith, ends_within))))

    pub at_feed : slice_index_or s (at + k) 0 ≡ line_feed
        → (k ≡ length (up_to comma (drop at (line s)))) × (at + k ≡ length (line s))
    at_feed e = go (dec_lt (at + k) (length (line s)))
      where
        go : Dec (at + k < length (line s)) → (k ≡ length (up_to comma (drop at (line s)))) × (at + k ≡ length (line s))
        go (yes i) = absurd (up_inside line_feed s (at + k) i e)
        go (no i) = (omega (arith, ends_within), omega (arith, ends_within))

    pub at_other : (slice_index s (at + k) ≢ comma) → (slice_index s (at + k) ≢ line_feed) → k ≢ length (up_to comma (drop at (line s)))
    at_other c f e = go (dec_lt (at + k) (length (line s)))
      where
        go : Dec (at + k < length (line s)) → ⊥
        go (yes i) =
            let j : length (up_to comma (drop at (line s))) < length (drop at (line s)) = omega (arith, size) in
            c (sym (byte i) ∙ ap (λ (n : ℕ). slice_index (drop at (line s)) n) e ∙ up_stop comma (drop at (line s)) j)
        go (no i) = f (end (omega (arith, ends_within)))
