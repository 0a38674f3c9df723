-- The first eight bytes of a text one after the other, and what they tell of its first field.
use Rattle.std.proofs.Common.{◌≡◌, ℕ, ◌+◌, ◌-◌, ◌*◌, ◌^◌, ◌<◌, ◌≤◌, Bool, true, false, cond, ◌&&◌, eqb, ltb, leb, None, List, length, get_or, take, drop, pos, sym, refl, ap, ◌∙◌, add-one, arith, drop_of_length-le, length-take-le, drop-cons, get_or-take, take-take, le-ltb, lt-ltb, eq-eqb, ne_eqb, le-leb}
use mathlib.Core.Bool.{and-true}
use native.Mathlib.Nat.{pow-succ'}
use native.Mathlib.Decide.{ℕ_discrete, dec_le}
use borrow.Author.Tests.{lt-leb}
use Rattle.lists.specs.Each.{every, every_each, each_at}
use Rattle.text.specs.Pieces.{comma, line_feed, line, HasLine, field}
use Rattle.text.specs.PieceLaws.{up_le, up_take, field_within}
use Rattle.text.specs.FieldEnds.{at_other}
use Rattle.text.specs.Numbers.{Value, Malformed, nought, nine}
use Rattle.text.specs.Reading.{front, Reads}
use Rattle.hexadecimal.specs.Hexadecimal.{digits, small_a, small_f, digit_of, digit, behind, hex_of}

-- ---- what a byte spells, by where it lies

pub decimal_digit : (b : ℕ) → nought ≤ b → b ≤ nine → digit_of b ≡ b - nought
unfolding digit_of
decimal_digit b l m = rw (le-leb nought b l, le-leb b nine m)

outside : (low high b : ℕ) → (low ≤ b → b ≤ high → ⊥) → (leb low b && leb b high) ≡ false
outside low high b n = go (dec_le low b)
  where
    go : Dec (low ≤ b) → (leb low b && leb b high) ≡ false
    go (yes l) = rw (le-leb low b l, lt-leb b high (above l (dec_le b high)))
      where
        above : low ≤ b → Dec (b ≤ high) → high < b
        above l (yes m) = absurd (n l m)
        above l (no m) = omega arith
    go (no l) = rw (lt-leb low b (omega arith))

pub letter_digit : (b : ℕ) → small_a ≤ b → b ≤ small_f → digit_of b ≡ 10 + (b - small_a)
unfolding digit_of
letter_digit b l m = rw (outside nought nine b (λ p q. omega arith), le-leb small_a b l, le-leb b small_f m)

pub no_digit : (b : ℕ) → (nought ≤ b → b ≤ nine → ⊥) → (small_a ≤ b → b ≤ small_f → ⊥) → digit_of b ≡ 16
unfolding digit_of
no_digit b p q = rw (outside nought nine b p, outside small_a small_f b q)

-- ---- a byte after the other

-- i bytes of ds are taken: they spell n, and good says whether all of them are digits
pub record Taken (ds : List ℕ) (n : ℕ) (good : Bool) (i : ℕ) : Type 0 where
  pub small : n + 2 ≤ 2 * 16 ^ i
  pub value : behind 0 ds ≡ behind n (drop i ds)
  pub fine : every digit ds ≡ (good && every digit (drop i ds))

pub none_taken : (ds : List ℕ) → Taken ds 0 true 0
none_taken ds = record { small = omega arith; value = refl; fine = refl }

never : (good : Bool) (t : Bool) → (good && (false && t)) ≡ false
never true t = refl
never false t = refl

module _ {ds : List ℕ} {n : ℕ} {good : Bool} {i : ℕ} (d : ℕ) (h : i < length ds) (e : d ≡ digit_of (get_or ds i 0)) (l : d ≤ 16) (t : Taken ds n good i) where
  small_next : 16 * n + d + 2 ≤ 2 * 16 ^ (i + 1)
  small_next = rw (add-one i, pow-succ' 16 i) (omega (arith, t.small))

  value_next : behind 0 ds ≡ behind (16 * n + d) (drop (i + 1) ds)
  unfolding behind
  value_next = t.value ∙ rw (add-one i, drop-cons ds i 0 h, e)

  fine_next : every digit ds ≡ (good && (ltb d 16 && every digit (drop (i + 1) ds)))
  fine_next = t.fine ∙ rw (add-one i, drop-cons ds i 0 h, e)

  pub digit_taken : d ≤ 15 → Taken ds (16 * n + d) good (i + 1)
  digit_taken k = record { small = small_next; value = value_next; fine = fine_next ∙ rw (lt-ltb d 16 (omega arith)) }

  pub other_taken : 15 < d → Taken ds (16 * n + d) false (i + 1)
  other_taken k = record { small = small_next; value = value_next; fine = fine_next ∙ rw (le-ltb d 16 k) (never good (every digit (drop (i + 1) ds))) }

pub all_taken : {ds : List ℕ} {n : ℕ} {good : Bool} {i : ℕ} → length ds ≤ i → Taken ds n good i → (behind 0 ds ≡ n) × (every digit ds ≡ good)
unfolding behind
all_taken {ds = ds} {good = good} {i = i} h t =
    let e = drop_of_length-le ds {i = i} h in
    (t.value ∙ rw e, t.fine ∙ rw e (and-true good))

-- ---- the field, by the first eight bytes of the text

field_front : (s : List ℕ) → field s ≡ take (length (field s)) s
field_front s =
    sym (up_take comma (line s)) ∙ ap (take (length (field s))) (sym (up_take line_feed s)) ∙ take-take (length (field s)) (length (line s)) s (field_within s)

hex_of_eight : (s : List ℕ) → length (field s) ≡ digits → hex_of (field s) ≡ cond (every digit (take digits s)) (Value (pos (behind 0 (take digits s)))) Malformed
unfolding hex_of
hex_of_eight s e =
    let f : field s ≡ take digits s = field_front s ∙ ap (λ (k : ℕ). take k s) e in
    ap (λ (t : Bool). cond (t && every digit (field s)) (Value (pos (behind 0 (field s)))) Malformed) (eq-eqb (length (field s)) digits e)
    ∙ ap (λ (l : List ℕ). cond (every digit l) (Value (pos (behind 0 l))) Malformed) f

hex_of_other : (s : List ℕ) → (length (field s) ≡ digits → ⊥) → hex_of (field s) ≡ Malformed
unfolding hex_of
hex_of_other s h = rw (ne_eqb (length (field s)) digits h)

no_comma : digit comma ≡ true → ⊥
unfolding digit_of
no_comma e = let z : ◌≡◌ {A = ℕ} 0 1 = cc in omega arith

no_feed : digit line_feed ≡ true → ⊥
unfolding digit_of
no_feed e = let z : ◌≡◌ {A = ℕ} 0 1 = cc in omega arith

pub too_short : (s : List ℕ) → length s < digits → Reads hex_of None (field s)
too_short s h = (sym (hex_of_other s (λ e. omega (arith, field_within s, up_le line_feed s))), omega arith)

module _ (s : List ℕ) (on : HasLine s) (h : digits ≤ length s) where
  digit_at : every digit (take digits s) ≡ true → (k : ℕ) → k < digits → digit (get_or s k 0) ≡ true
  digit_at e k l =
      rw (← get_or-take digits s k 0 l)
      (each_at (λ (b : ℕ). digit b ≡ true) (take digits s) k 0 (every_each digit (take digits s) e) (rw (length-take-le digits s h) l))

  -- a comma or a line feed ends the field, and neither is a digit
  long_enough : every digit (take digits s) ≡ true → digits ≤ length (field s)
  long_enough e = go (dec_le digits (length (field s)))
    where
      go : Dec (digits ≤ length (field s)) → digits ≤ length (field s)
      go (yes l) = l
      go (no l) =
          let d = digit_at e (0 + length (field s)) (omega arith) in
          absurd (at_other s on 0 (omega arith) (length (field s)) (omega arith) (λ c. no_comma (rw c at d)) (λ f. no_feed (rw f at d)) refl)

  pub all_digits : (n : ℕ) → every digit (take digits s) ≡ true → behind 0 (take digits s) ≡ n → Reads hex_of (front (pos n) digits) (field s)
  all_digits n e v = (go (ℕ_discrete (length (field s)) digits), long_enough e)
    where
      go : Dec (length (field s) ≡ digits) → cond (eqb digits (length (field s))) (Value (pos n)) Malformed ≡ hex_of (field s)
      go (yes l) = rw (hex_of_eight s l, e, v, eq-eqb digits (length (field s)) (sym l))
      go (no l) = rw (hex_of_other s l, ne_eqb digits (length (field s)) (λ q. l (sym q)))

  pub not_digits : every digit (take digits s) ≡ false → Reads hex_of None (field s)
  not_digits e = (go (ℕ_discrete (length (field s)) digits), omega arith)
    where
      go : Dec (length (field s) ≡ digits) → Malformed ≡ hex_of (field s)
      go (yes l) = rw (hex_of_eight s l, e)
      go (no l) = sym (hex_of_other s l)
