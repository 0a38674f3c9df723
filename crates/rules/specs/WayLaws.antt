-- An axis and a direction of the code, by the tests of the paper's numbers.
use Rattle.std.specs.Prelude.{◌≡◌, ◌≢◌, Bool, true, false, ◌&&◌, ℤ, pos, negsuc, zero, suc, Result, Ok, Err}
use Rattle.std.proofs.Math.Path.{refl}
use Rattle.std.proofs.Common.{sym, ◌∙◌, arith}
use Rattle.std.proofs.lemmas.Bool.{lt-leb}
use Rattle.std.proofs.Math.Bool.{and-false}
use Rattle.std.specs.Result.{is_ok}
use Rattle.signed.specs.RangeLaws.{true_T}
use Rattle.package.specs.declared.refusals.Refusal.{Refusal}
use Rattle.package.specs.declared.ways.Axis.{Axis}
use Rattle.package.specs.declared.ways.Axis.TheVariants.{First, Second, Third}
use Rattle.package.specs.declared.ways.Way.{Way}
use Rattle.package.specs.declared.ways.Direction.{Direction}
use Rattle.package.specs.declared.ways.Direction.TheVariants.{Positive, Negative}
use Rattle.package.specs.Ways as ways
use Rattle.package.specs.Ways.{WayNamed}
use Rattle.rules.specs.Stores.{axis_number, direction_number}

pub axis_in : (a : Axis) → axis_number (ways.axis_number a) ≡ true
axis_in First = refl
axis_in Second = refl
axis_in Third = refl

pub direction_in : (d : Direction) → direction_number (ways.direction_number d) ≡ true
direction_in Positive = refl
direction_in Negative = refl

-- a number that passes is an axis's, and a direction's
axis_of : (n : ℤ) → axis_number n ≡ true → (a : Axis) × (ways.axis_number a ≡ n)
axis_of (pos zero) h = absurd (true_T h)
axis_of (pos (suc zero)) h = (First, refl)
axis_of (pos (suc (suc zero))) h = (Second, refl)
axis_of (pos (suc (suc (suc zero)))) h = (Third, refl)
axis_of (pos (suc (suc (suc (suc n))))) h =
    let e : axis_number (pos (suc (suc (suc (suc n))))) ≡ false = rw (lt-leb (suc (suc (suc (suc n)))) 3 (omega arith)) (and-false _) in
    absurd (true_T (sym e ∙ h))
axis_of (negsuc n) h = absurd (true_T h)

direction_of : (n : ℤ) → direction_number n ≡ true → (d : Direction) × (ways.direction_number d ≡ n)
direction_of (pos zero) h = (Positive, refl)
direction_of (pos (suc zero)) h = (Negative, refl)
direction_of (pos (suc (suc n))) h =
    let e : direction_number (pos (suc (suc n))) ≡ false = rw (lt-leb (suc (suc n)) 1 (omega arith)) (and-false _) in
    absurd (true_T (sym e ∙ h))
direction_of (negsuc n) h = absurd (true_T h)

no_way : (axis direction : ℤ) → ((w : Way) → ways.axis_number w.axis ≡ axis → ways.direction_number w.direction ≢ direction)
    → axis_number axis && direction_number direction ≡ false
no_way axis direction none = go (axis_number axis) refl (direction_number direction) refl
  where
    go : (a : Bool) → axis_number axis ≡ a → (d : Bool) → direction_number direction ≡ d → a && d ≡ false
    go false e d f = refl
    go true e false f = refl
    go true e true f = let a = axis_of axis e in let d = direction_of direction f in absurd (none (record { axis = a.0; direction = d.0 }) a.1 d.1)

-- the tests of two numbers tell whether a way has them
pub way_tested : (axis direction : ℤ) (r : Result Way Refusal) → WayNamed axis direction r → axis_number axis && direction_number direction ≡ is_ok r
way_tested axis direction (Ok w) e = rw (sym e.0, sym e.1, axis_in w.axis, direction_in w.direction)
way_tested axis direction (Err r) h = no_way axis direction h.1
