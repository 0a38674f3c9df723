-- What is known of the units of a float, the readings that a kind uses, and bit patterns at the edges of request 2026-01.
use Rattle.std.specs.Prelude.{◌≡◌, refl, Bool, true, false, cond, ◌&&◌, List, [], ◌∷◌, ℕ, ◌+◌, ◌*◌, ◌≤◌, eqb, Float, ℤ, pos, nat_abs}
use Rattle.std.proofs.Common.{◌∙◌, arith, div-lt_iff_lt-mul, leb-true}
use Rattle.std.specs.Float.{nan, inf, fin, binary32}
use Rattle.std.specs.Float.Ieee.{up, down, of_bits}
use Rattle.std.specs.Float.Ieee.Fits.{down_pos}
use Rattle.signed.specs.Ranges.{minus}
use Rattle.signed.specs.Magnitudes.{abs_neg}
use Rattle.signed.specs.Rounding.{halves_up}
use Rattle.signed.specs.RangeLaws.{true_T}
use Rattle.lists.specs.Each.{Each, every}
use Rattle.package.specs.declared.arguments.Reading.{Reading}
use Rattle.package.specs.declared.arguments.Reading.TheVariants.{Whole, Reported}
use Rattle.package.specs.Given.{Readings}
use Rattle.package.specs.declared.arguments.Probing.{Probing}
use Rattle.package.specs.declared.found.Form.{Form}
use Rattle.package.specs.declared.found.Form.TheVariants.{Plane, Single, Double}
use Rattle.package.specs.declared.found.Kind.{Kind}
use Rattle.rules.specs.Stores.{pick}
use Rattle.rules.specs.Kinds.{kind}
use Rattle.rules.specs.Sizes.{Touch, touches, raw_at}
use Rattle.rules.specs.Readings.{good_float, signed, units_of, good_if, position_if, readings_ok, raws_of}

pub size_signed : (s : Bool) (n : ℕ) → nat_abs (signed s n) ≡ n
size_signed false n = refl
size_signed true n = abs_neg (pos n)

-- ---- the position of a good float is in range, so 3 refuses none
small : (a b : ℕ) → a ≤ 1000 * b → 1 ≤ b → halves_up (10000 * a) b ≤ 10000000
unfolding halves_up
small a b h k = omega (arith, (div-lt_iff_lt-mul {k = 2 * b} {x = 2 * (10000 * a) + b} {y = 10000001} (omega arith)).1 (omega arith))

pub good_in_range : (f : Float) → good_float f ≡ true → nat_abs (units_of f) ≤ 10000000
unfolding good_float units_of
good_in_range nan e = absurd (true_T e)
good_in_range (inf s) e = absurd (true_T e)
good_in_range (fin s m e) h = rw (size_signed s (halves_up (10000 * (m * up e)) (down e))) (small (m * up e) (down e) (leb-true _ _ h) (down_pos e))

-- ---- "a used float", "X for a hole's abscissa raws and Y for its ordinate raws": by what the kind touches
abbrev pub reading_at : Readings → Touch → Reading
reading_at q t = pick (Whole (pos 0)) (q.r1 ∷ q.r2 ∷ q.r3 ∷ q.r4 ∷ []) t.number

unused : (r : Reading) (n : ℤ) → good_if false r n ≡ true
unused (Whole z) n = refl
unused (Reported f) n = refl

bracketed : (w x y z : Bool) → (w && x && y && z) ≡ (w && (x && (y && (z && true))))
bracketed true true true true = refl
bracketed true true true false = refl
bracketed true true false z = refl
bracketed true false y z = refl
bracketed false x y z = refl

module _ (k : Kind) (a : Probing) (q : Readings) where
  pub readings_touched : readings_ok k a q ≡ every (λ t. good_if true (reading_at q t) t.way.axis) (touches k a)
  readings_touched = go k.form
    where
      go : (f : Form) → readings_ok (kind f k.inside) a q ≡ every (λ t. good_if true (reading_at q t) t.way.axis) (touches (kind f k.inside) a)
      go Plane =
          bracketed (good_if true q.r1 a.axis) (good_if false q.r2 a.axis) (good_if false q.r3 (pos 2)) (good_if false q.r4 (pos 2))
          ∙ rw (unused q.r2 a.axis, unused q.r3 (pos 2), unused q.r4 (pos 2))
      go Single =
          bracketed (good_if true q.r1 a.axis) (good_if true q.r2 a.axis) (good_if false q.r3 (pos 2)) (good_if false q.r4 (pos 2))
          ∙ rw (unused q.r3 (pos 2), unused q.r4 (pos 2))
      go Double = bracketed (good_if true q.r1 (pos 1)) (good_if true q.r2 (pos 1)) (good_if true q.r3 (pos 2)) (good_if true q.r4 (pos 2))

  pub raws_touched : Each (λ t. raw_at (raws_of k a q) t ≡ position_if true (reading_at q t) t.way.axis) (touches k a)
  raws_touched = go k.form
    where
      go : (f : Form) → Each (λ t. raw_at (raws_of (kind f k.inside) a q) t ≡ position_if true (reading_at q t) t.way.axis) (touches (kind f k.inside) a)
      go Plane = (refl, tt)
      go Single = (refl, (refl, tt))
      go Double = (refl, (refl, (refl, (refl, tt))))

-- ---- bit patterns: whether the float is good, and its units
pub record Pattern : Type 0 where
  pub bits : ℕ
  pub good : Bool
  pub units : ℤ

abbrev pattern : ℕ → Bool → ℤ → Pattern
pattern bits good units = record { bits = bits; good = good; units = units }

-- 1.0, -1.5; both zeros, the least subnormal and the greatest; 2^-5 mm, which is 312.5 units, on both sides of zero, and the floats beside it;
-- 1000.0 on both sides; infinities, NaNs of both signs and other payloads
unfoldable pub patterns : List Pattern
patterns =
    pattern 0x3f800000 true (pos 10000) ∷
    pattern 0xbfc00000 true (minus 15000) ∷
    pattern 0x00000000 true (pos 0) ∷
    pattern 0x80000000 true (pos 0) ∷
    pattern 0x00000001 true (pos 0) ∷
    pattern 0x807fffff true (pos 0) ∷
    pattern 0x3d000000 true (pos 313) ∷
    pattern 0xbd000000 true (minus 313) ∷
    pattern 0x3cffffff true (pos 312) ∷
    pattern 0x447a0000 true (pos 10000000) ∷
    pattern 0xc47a0000 true (minus 10000000) ∷
    pattern 0x7f800000 false (pos 0) ∷
    pattern 0xff800000 false (pos 0) ∷
    pattern 0x7fc00000 false (pos 0) ∷
    pattern 0xffc00000 false (pos 0) ∷
    pattern 0x7f800001 false (pos 0) ∷
    []

pub patterns_are : Each (λ p. (good_float (of_bits binary32 p.bits) ≡ p.good) × (units_of (of_bits binary32 p.bits) ≡ p.units)) patterns
unfolding patterns good_float units_of of_bits halves_up
patterns_are = (
  (refl, refl),
  (
    (refl, refl),
    (
      (refl, refl),
      (
        (refl, refl),
        (
          (refl, refl),
          (
            (refl, refl),
            (
              (refl, refl),
              (
                (refl, refl),
                ((refl, refl), ((refl, refl), ((refl, refl), ((refl, refl), ((refl, refl), ((refl, refl), ((refl, refl), ((refl, refl), tt)))))))),
              ),
            ),
          ),
        ),
      ),
    ),
  ),
)

-- the next floats beyond 1000.0 and -1000.0
pub beyond : Each (λ b. good_float (of_bits binary32 b) ≡ false) (0x447a0001 ∷ 0xc47a0001 ∷ [])
unfolding good_float of_bits
beyond = (refl, (refl, tt))

-- ---- the refusal where a used float is not good: 2 where it is 2 with any whole positions, else 13
pub by_numbers : (numbers : Bool) (n : ℕ) → eqb n 2 ≡ false → ◌≡◌ {A = ℕ} (cond (eqb (cond numbers n 2) 2) 2 13) (cond numbers 13 2)
by_numbers true n e = rw e
by_numbers false n e = refl
