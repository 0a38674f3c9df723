-- A number's digits written from the last one on.
use mathlib.Core.Path.{◌≡◌, ap, sym, ◌∙◌}
use mathlib.Core.List.{List, [], ◌∷◌, ◌++◌, append_assoc, append-nil}
use Prim.Native.Nat.{ℕ, ◌+◌, ◌/◌, ◌%◌, ◌^◌, ◌<◌, ◌≤◌}
use native.Mathlib.Omega.{arith}
use lib.ListN.{length, set, length-append}
use Rattle.lists.specs.Written.{written}
use Rattle.lists.specs.WrittenLaws.{written_length}
use Rattle.text.specs.Numbers.{nought}
use Rattle.decimals.specs.Decimals.{decimal}
use Rattle.decimals.specs.DecimalLaws.{one_digit, digits_step}
use Rattle.decimals.specs.BufferLaws.{written_none, written_before}

-- the digits of n behind those of m stand from k on
pub record Behind (old : List ℕ) (at n : ℕ) (new : List ℕ) (m k : ℕ) : Type 0 where
  pub tail : List ℕ
  pub digits : decimal n ≡ decimal m ++ tail
  pub place : k ≡ at + length (decimal m)
  pub stand : new ≡ written old k tail

module _ {old : List ℕ} {at n : ℕ} (fits : at + length (decimal n) ≤ length old) where
  pub none_yet : Behind old at n old n (at + length (decimal n))
  none_yet = record { tail = []; digits = sym (append-nil (decimal n)); place = omega arith; stand = sym (written_none old (at + length (decimal n))) }

  module _ {new : List ℕ} {m k : ℕ} (b : Behind old at n new m k) where
    pub within : k + length b.tail ≤ length old
    within = omega (arith, b.place, ap length b.digits, length-append (decimal m) b.tail)

    pub same_size : length new ≡ length old
    same_size = ap length b.stand ∙ written_length old k b.tail within

    -- one digit more before them
    pub next_digit : (j : ℕ) → k ≡ j + 1 → 10 ≤ m → m < 10 ^ 10 → Behind old at n (set new j (nought + m % 10)) (m / 10) j
    next_digit j e h s =
        let d = digits_step m h s in
        let w : j + 1 + length b.tail ≤ length old = omega (arith, within) in record {
          tail = (nought + m % 10) ∷ b.tail;
          digits = b.digits ∙ ap (λ (l : List ℕ). l ++ b.tail) d ∙ append_assoc (decimal (m / 10)) ((nought + m % 10) ∷ []) b.tail;
          place = omega (arith, b.place, ap length d, length-append (decimal (m / 10)) ((nought + m % 10) ∷ []));
          stand = rw (b.stand, e) (written_before old j (nought + m % 10) b.tail w);
        }

    -- and the first
    pub first_digit : m < 10 → set new at (nought + m) ≡ written old at (decimal n)
    first_digit h =
        let d = one_digit m h in
        let e : k ≡ at + 1 = omega (arith, b.place, ap length d) in
        let w : at + 1 + length b.tail ≤ length old = omega (arith, within) in
        rw (b.digits, d, b.stand, e) (written_before old at (nought + m) b.tail w)
