-- The units of a float by its bits: of equal fractions, of the exponent's field and the digits, and of the bits with no sign.
use mathlib.Core.Path.{◌≡◌, refl, ap, sym, ◌∙◌, subst}
use mathlib.Core.Bool.{Bool, true, false, cond}
use Prim.Native.Nat.{ℕ, zero, suc, ◌+◌, ◌-◌, ◌*◌, ◌/◌, ◌%◌, ◌^◌, ◌<◌, ◌≤◌}
use native.Mathlib.Nat.{mul_assoc, mul_comm, add-mul, mul-le-mul, mul-le-mul_right, mul-div-mul_right, le_of_mul-le-mul_right, lt_of_not-le, div-eq_of_lt, add-div_right, div-div-eq-div-mul}
use native.Mathlib.Omega.{arith}
use borrow.Author.Tests.{lt-ltb, lt-leb, le-leb, leb-true, leb-false, ne_eqb}
use lib.Dec.{leb, eqb, T}
use lib.IntN.{ℤ, pos, negsuc, ◌-ℤ◌}
use Rattle.std.specs.Prelude.{Option, Some, None}
use Rattle.std.specs.Bool.{then_some}
use lib.Pow.{pow-add, pow_pos, pow_mono}
use lib.Ieee.{Float, nan, inf, fin, up, down, odd, of_fields, of_bits, is_nan, binary32}
use lib.Ieee.Exact.{HasValue, odd_sign}
use lib.Ieee.Fits.{down_pos}
use Rattle.signed.specs.Ranges.{minus}
use Rattle.signed.specs.Rounding.{halves_up}
use Rattle.rules.specs.Readings.{good_float, units_of, signed}
use Rattle.floats.specs.Units.{units_in}

-- the units of a / b mm with a sign
abbrev pub fraction : Bool → ℕ → ℕ → Option ℤ
fraction s a b = then_some (leb a (1000 * b)) (signed s (halves_up (10000 * a) b))

-- ---- equal fractions have equal units
module _ (p q a b : ℕ) (hq : 0 < q) (hb : 0 < b) (e : p * b ≡ a * q) where
  over : (2 * (10000 * p) + q) * b ≡ (2 * (10000 * a) + b) * q
  over =
      rw (
        add-mul (2 * (10000 * p)) q b,
        mul_assoc 2 (10000 * p) b,
        mul_assoc 10000 p b,
        add-mul (2 * (10000 * a)) b q,
        mul_assoc 2 (10000 * a) q,
        mul_assoc 10000 a q,
        e,
        mul_comm q b,
      )

  under : 2 * q * b ≡ 2 * b * q
  under = rw (mul_assoc 2 q b, mul_assoc 2 b q, mul_comm q b)

  same_rounded : halves_up (10000 * p) q ≡ halves_up (10000 * a) b
  unfolding halves_up
  same_rounded =
      sym (mul-div-mul_right (2 * (10000 * p) + q) (2 * q) hb)
      ∙ rw (over, under) (mul-div-mul_right (2 * (10000 * a) + b) (2 * b) hq)

  thousands : 1000 * b * q ≡ 1000 * q * b
  thousands = rw (mul_assoc 1000 b q, mul_assoc 1000 q b, mul_comm b q)

  at_most : a ≤ 1000 * b → p ≤ 1000 * q
  at_most h = le_of_mul-le-mul_right {k = b} (rw (e, ← thousands) (mul-le-mul_right q h)) hb

  at_most_back : p ≤ 1000 * q → a ≤ 1000 * b
  at_most_back h = le_of_mul-le-mul_right {k = q} (rw (← e, thousands) (mul-le-mul_right b h)) hq

  same_test : leb p (1000 * q) ≡ leb a (1000 * b)
  same_test = go (leb a (1000 * b)) refl
    where
      go : (t : Bool) → leb a (1000 * b) ≡ t → leb p (1000 * q) ≡ t
      go true h = le-leb p (1000 * q) (at_most (leb-true a (1000 * b) h))
      go false h = let n = leb-false a (1000 * b) h in lt-leb p (1000 * q) (lt_of_not-le (λ m. let k = at_most_back m in omega arith))

  same_units : (s : Bool) → fraction s p q ≡ fraction s a b
  same_units s = rw (same_test, same_rounded)

units_value : (v : Float) (s : Bool) (a b : ℕ) → 0 < b → HasValue v s a b → units_in v ≡ fraction s a b
unfolding good_float units_of
units_value nan s a b h e = absurd e
units_value (inf t) s a b h e = absurd e
units_value (fin t m x) s a b h e = rw e.0 (same_units (m * up x) (down x) a b (down_pos x) h e.1 s)

units_odd : (s : Bool) (q k : ℕ) → units_in (odd 24 s q k 149) ≡ fraction s (q * 2 ^ k) (2 ^ 149)
units_odd s q k = units_value (odd 24 s q k 149) s (q * 2 ^ k) (2 ^ 149) (pow_pos 149) (odd_sign 24 s q k 149)

-- ---- by the exponent's field
-- (omega stops at numbers of more than 38 digits, so 2 ^ 149 stands as a variable)
over_thousand : (d r : ℕ) → 0 < d → 8388608 * d ≤ r → 1000 * d < r
over_thousand d r h m = omega arith

under_half : (a d e : ℕ) → 0 < e → a ≤ 16777216 * e → d ≡ 2199023255552 * e → (a ≤ 1000 * d) × (2 * (10000 * a) + d < 2 * d)
under_half a d e h m k = (omega arith, omega arith)

module _ (s : Bool) (t : ℕ) where
  normal : (x : ℕ) → 1 ≤ x → x < 150 → units_in (of_fields binary32 s x t) ≡ fraction s (8388608 + t) (2 ^ (150 - x))
  unfolding of_fields
  normal zero h l = absurd (omega arith)
  normal (suc k) h l =
      let d : 150 - suc k + k ≡ 149 = omega arith in
      let p : 2 ^ 149 ≡ 2 ^ (150 - suc k) * 2 ^ k = ap (λ (n : ℕ). 2 ^ n) (sym d) ∙ pow-add 2 (150 - suc k) k in
      let f : (8388608 + t) * 2 ^ k * 2 ^ (150 - suc k) ≡ (8388608 + t) * 2 ^ 149 =
      rw (p, mul_comm (2 ^ (150 - suc k)) (2 ^ k)) (mul_assoc (8388608 + t) (2 ^ k) (2 ^ (150 - suc k))) in
      rw (ne_eqb (suc k) 255 (λ e. omega arith))
      (units_odd s (8388608 + t) k
      ∙ same_units ((8388608 + t) * 2 ^ k) (2 ^ 149) (8388608 + t) (2 ^ (150 - suc k)) (pow_pos 149) (pow_pos (150 - suc k)) f s)

  beyond : (x : ℕ) → 150 ≤ x → units_in (of_fields binary32 s x t) ≡ None
  unfolding of_fields good_float
  beyond zero h = absurd (omega arith)
  beyond (suc k) h = go (eqb (suc k) 255) (eqb t 0)
    where
      big : 1000 * 2 ^ 149 < (8388608 + t) * 2 ^ k
      big =
          over_thousand (2 ^ 149) ((8388608 + t) * 2 ^ k) (pow_pos 149)
          (mul-le-mul {n₁ = 8388608} {m₁ = 2 ^ 149} {n₂ = 8388608 + t} {m₂ = 2 ^ k} (omega arith) (pow_mono {i = 149} {j = k} (omega arith)))

      go : (u v : Bool) → units_in (cond u (cond v (inf s) nan) (odd 24 s (8388608 + t) k 149)) ≡ None
      go true true = refl
      go true false = refl
      go false v = units_odd s (8388608 + t) k ∙ rw (lt-leb ((8388608 + t) * 2 ^ k) (1000 * 2 ^ 149) big)

  nothing : (r : Bool) → signed r 0 ≡ pos 0
  nothing true = refl
  nothing false = refl

  small : (q k : ℕ) → q < 2 ^ 24 → k ≤ 108 → units_in (odd 24 s q k 149) ≡ Some (pos 0)
  unfolding halves_up
  small q k hq hk =
      let m : q * 2 ^ k ≤ 2 ^ 24 * 2 ^ 108 =
      mul-le-mul {n₁ = q} {m₁ = 2 ^ k} {n₂ = 2 ^ 24} {m₂ = 2 ^ 108} (omega arith) (pow_mono {i = k} {j = 108} hk) in
      let b = under_half (q * 2 ^ k) (2 ^ 149) (2 ^ 108) (pow_pos 108) m refl in
      let l : leb (q * 2 ^ k) (1000 * 2 ^ 149) ≡ true = le-leb (q * 2 ^ k) (1000 * 2 ^ 149) b.0 in
      let z : (2 * (10000 * (q * 2 ^ k)) + 2 ^ 149) / (2 * 2 ^ 149) ≡ 0 = div-eq_of_lt b.1 in
      units_odd s q k ∙ rw (l, z, nothing s)

  tiny : (x : ℕ) → x < 110 → t < 8388608 → units_in (of_fields binary32 s x t) ≡ Some (pos 0)
  unfolding of_fields
  tiny zero h l = small t 0 (omega arith) (omega arith)
  tiny (suc k) h l = rw (ne_eqb (suc k) 255 (λ e. omega arith)) (small (8388608 + t) k (omega arith) (omega arith))

-- ---- by the bits with no sign: 1000.0 is 136 in the exponent's field and 7995392 in the digits, 1000·2^14 = 8388608 + 7995392
module _ (m : ℕ) where
  abbrev digits : ℕ
  digits = 8388608 + m % 8388608

  abbrev power : ℕ
  power = 2 ^ (150 - m / 8388608)

  within_metre : m ≤ 1148846080 → digits ≤ 1000 * power
  within_metre h = go (136 - m / 8388608) refl
    where
      go : (j : ℕ) → 136 - m / 8388608 ≡ j → digits ≤ 1000 * power
      go zero e =
          let x : 150 - m / 8388608 ≡ 14 = omega arith in
          rw x (omega arith)
      go (suc j) e = let l = pow_mono {i = 15} {j = 150 - m / 8388608} (omega arith) in omega arith

  above_metre : 1148846080 < m → 1000 * power < digits
  above_metre h = go (m / 8388608 - 136) refl
    where
      go : (j : ℕ) → m / 8388608 - 136 ≡ j → 1000 * power < digits
      go zero e =
          let x : 150 - m / 8388608 ≡ 14 = omega arith in
          rw x (omega arith)
      go (suc j) e = let l = pow_mono {i = 150 - m / 8388608} {j = 13} (omega arith) in omega arith

module _ (b : ℕ) where
  abbrev sign : Bool
  sign = leb 2147483648 b

  abbrev rest : ℕ
  rest = b % 2147483648

  fields : of_bits binary32 b ≡ of_fields binary32 sign (rest / 8388608) (rest % 8388608)
  unfolding of_bits
  fields = let d : b % 8388608 ≡ rest % 8388608 = omega arith in rw d

  by_fields : {u : Option ℤ} → units_in (of_fields binary32 sign (rest / 8388608) (rest % 8388608)) ≡ u → units_in (of_bits binary32 b) ≡ u
  by_fields e = ap units_in fields ∙ e

  pub refused : 1148846080 < rest → units_in (of_bits binary32 b) ≡ None
  refused h = by_fields (go (leb 150 (rest / 8388608)) refl)
    where
      go : (t : Bool) → leb 150 (rest / 8388608) ≡ t → units_in (of_fields binary32 sign (rest / 8388608) (rest % 8388608)) ≡ None
      go true e = beyond sign (rest % 8388608) (rest / 8388608) (leb-true 150 (rest / 8388608) e)
      go false e =
          let l = leb-false 150 (rest / 8388608) e in
          normal sign (rest % 8388608) (rest / 8388608) (omega arith) (omega arith)
          ∙ rw (lt-leb (digits rest) (1000 * power rest) (above_metre rest h))

  pub below_half : rest < 922746880 → units_in (of_bits binary32 b) ≡ Some (pos 0)
  below_half h = by_fields (tiny sign (rest % 8388608) (rest / 8388608) (omega arith) (omega arith))

  pub counted : rest ≤ 1148846080 → 922746880 ≤ rest
      → units_in (of_bits binary32 b) ≡ Some (signed sign (halves_up (10000 * digits rest) (power rest)))
  counted h l =
      by_fields
      (normal sign (rest % 8388608) (rest / 8388608) (omega arith) (omega arith)
      ∙ rw (le-leb (digits rest) (1000 * power rest) (within_metre rest h)))

-- ---- twice a value cut to a whole number, and one more, halved: the value, halves up
pub halved : (q k : ℕ) → (20000 * q / 2 ^ k + 1) / 2 ≡ halves_up (10000 * q) (2 ^ k)
unfolding halves_up
halved q k =
    let e : 20000 * q + 2 ^ k ≡ 2 * (10000 * q) + 2 ^ k = omega arith in
    ap (λ (n : ℕ). n / 2) (sym (add-div_right (20000 * q) (pow_pos k))) ∙ div-div-eq-div-mul (20000 * q + 2 ^ k) (2 ^ k) 2
    ∙ rw (e, mul_comm (2 ^ k) 2)

pub less_than_0 : (n : ℕ) → pos 0 -ℤ pos n ≡ minus n
less_than_0 zero = refl
less_than_0 (suc n) = rw (lt-ltb 0 (suc n) (omega arith)) (ap negsuc (take_one n))
  where
    take_one : (n : ℕ) → suc n - 1 ≡ n
    take_one n = omega arith

-- ---- not a number
pub is_nan_lem : (v : Float) → is_nan v ≡ true → v ≡ nan
unfolding is_nan
is_nan_lem nan e = refl
is_nan_lem (inf s) e = absurd (subst T (sym e) tt)
is_nan_lem (fin s m x) e = absurd (subst T (sym e) tt)
