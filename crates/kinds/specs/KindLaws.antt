-- What the tests of a kind's arguments tell: of its probe, of a plane, and of every pair.
use Rattle.std.specs.Prelude.{◌≡◌, refl, Bool, true, false, cond, ◌&&◌, [], ◌∷◌, zero, suc, ℤ, pos, negsuc, Ok, Err}
use Rattle.std.proofs.Math.Bool.{and-eq-true_iff}
use Rattle.std.proofs.Common.{arith}
use Rattle.std.proofs.Props.{props}
use Rattle.signed.specs.Ranges.{within}
use Rattle.signed.specs.RangeLaws.{true_T, below_top}
use Rattle.lists.specs.Each.{Each, every, every_each}
use Rattle.package.specs.declared.refusals.Refusal.{Refusal}
use Rattle.package.specs.declared.refusals.Refusal.TheVariants.{NoSuchNumber}
use Rattle.package.specs.declared.found.Form.{Form}
use Rattle.package.specs.declared.found.Form.TheVariants.{Plane, Single, Double}
use Rattle.package.specs.declared.found.Kind.{Kind}
use Rattle.package.specs.declared.arguments.Probing.{Probing}
use Rattle.package.specs.Given.{Raws}
use Rattle.rules.specs.Stores.{axis_number, direction_number, probe_number, position_range, width_range}
use Rattle.rules.specs.RefusalLaws.{all_of}
use Rattle.rules.specs.Probes.{on}
use Rattle.rules.specs.Kinds.{kind, by_form}
use Rattle.rules.specs.Sizes.{pairs, touches, raw_at, numbers_ok, positions_ok}
use Rattle.kinds.specs.declared.Surfaces.{Surfaces}
use Rattle.kinds.specs.declared.Surfaces.TheVariants.{Plane as Flat, Pair, Pairs}
use Rattle.kinds.specs.Touches.{known, Placed, Positioned, Touches}

-- ---- the kind of a number, and refusal 2 where it is none's
pub known_is : (b : Bool) (k : Kind) {j : Kind} → known b k ≡ Ok j → (b ≡ true) × (j ≡ k)
known_is true k e = (refl, cc)
known_is false k e = absurd (cc)

pub known_not : (b : Bool) (k : Kind) {r : Refusal} → known b k ≡ Err r → (b ≡ false) × (r ≡ NoSuchNumber)
known_not true k e = absurd (cc)
known_not false k e = (refl, cc)

-- ---- numbers
-- the axis of a single pair is 1 or 2
pub by_axis : (P : ℤ → Type 0) → P (pos 1) → P (pos 2) → (z : ℤ) → within (pos 1) (pos 2) z ≡ true → P z
by_axis P f g (pos zero) e = absurd (true_T e)
by_axis P f g (pos (suc zero)) e = f
by_axis P f g (pos (suc (suc zero))) e = g
by_axis P f g (pos (suc (suc (suc i)))) e = absurd (omega (arith, below_top (suc (suc i)) 2 e))
by_axis P f g (negsuc i) e = absurd (true_T e)

pub axis_number_lem : (z : ℤ) → within (pos 1) (pos 2) z ≡ true → axis_number z ≡ true
axis_number_lem = by_axis (λ z. axis_number z ≡ true) refl refl

module _ (k : Kind) (a : Probing) (passed : numbers_ok k a ≡ true) where
  numbers : (probe_number a.probe ≡ true) ×
      (by_form k.form (axis_number a.axis && direction_number a.direction) (within (pos 1) (pos 2) a.axis) true ≡ true)
  unfolding numbers_ok
  numbers = (and-eq-true_iff (probe_number a.probe) _).0 passed

  pub probe_number_lem : probe_number a.probe ≡ true
  probe_number_lem = numbers.0

  pub plane_numbers : k.form ≡ Plane → (axis_number a.axis ≡ true) × (direction_number a.direction ≡ true)
  plane_numbers f = (and-eq-true_iff (axis_number a.axis) (direction_number a.direction)).0 (rw f at numbers.1)

  pub single_axis : k.form ≡ Single → within (pos 1) (pos 2) a.axis ≡ true
  single_axis f = rw f at numbers.1

  pub pairs_placed : Each (λ p. Placed p.low.way × Placed p.high.way) (pairs k a)
  pairs_placed = go k.form numbers.1
    where
      either : (b : Bool) (x y : ℤ) → direction_number x ≡ true → direction_number y ≡ true → direction_number (cond b x y) ≡ true
      either true x y e f = e
      either false x y e f = f

      both : {n : ℤ} → axis_number n ≡ true → Placed (on n (cond k.inside (pos 1) (pos 0))) × Placed (on n (cond k.inside (pos 0) (pos 1)))
      both e =
          let low = either k.inside (pos 1) (pos 0) refl refl in
          let high = either k.inside (pos 0) (pos 1) refl refl in
          (record { axis = e; direction = low }, record { axis = e; direction = high })

      go : (f : Form) → by_form f (axis_number a.axis && direction_number a.direction) (within (pos 1) (pos 2) a.axis) true ≡ true →
          Each (λ p. Placed p.low.way × Placed p.high.way) (pairs (kind f k.inside) a)
      go Plane e = tt
      go Single e = (both (axis_number_lem a.axis e), tt)
      go Double e = (both refl, (both refl, tt))

-- ---- positions
module _ (k : Kind) (a : Probing) (q : Raws) (passed : positions_ok k a q ≡ true) where
  abbrev setpoint_ok : Bool
  setpoint_ok = by_form k.form (position_range a.setpoint) (width_range a.setpoint) (width_range a.setpoint)

  positions : (every (λ t. position_range (raw_at q t)) (touches k a) ≡ true) × (every (λ p. position_range p.set) (pairs k a) ≡ true) × (setpoint_ok ≡ true)
  unfolding positions_ok
  positions =
      let t = all_of (every (λ t. position_range (raw_at q t)) (touches k a)) (every (λ p. position_range p.set) (pairs k a) ∷ setpoint_ok ∷ []) passed in
      (t.0, t.1.0, t.1.1.0)

  pub setpoint_passed : setpoint_ok ≡ true
  setpoint_passed = positions.2

  pub plane_raw : k.form ≡ Plane → position_range q.r1 ≡ true
  plane_raw f = (every_each (λ t. position_range (raw_at q t)) (touches (kind Plane k.inside) a) (rw f at positions.0)).0

  pub pairs_positioned : Each (Positioned q) (pairs k a)
  pairs_positioned =
      let raws = every_each (λ t. position_range (raw_at q t)) (touches k a) positions.0 in
      go k.form raws (every_each (λ p. position_range p.set) (pairs k a) positions.1)
    where
      go : (f : Form) →
          let g = kind f k.inside in
          Each (λ t. position_range (raw_at q t) ≡ true) (touches g a) → Each (λ p. position_range p.set ≡ true) (pairs g a) → Each (Positioned q) (pairs g a)
      go Plane t s = tt
      go Single t s = (record { low = t.0; high = t.1.0; set = s.0 }, tt)
      go Double t s =
          (record { low = t.0; high = t.1.0; set = s.0 }, (record { low = t.1.1.0; high = t.1.1.1.0; set = s.1.0 }, tt))

-- ---- what is touched is a fact
pub touches_prop : (k : Kind) (a : Probing) (s : Surfaces) → IsProp (Touches k a s)
touches_prop k a (Flat t) = Prim.hlevel props
touches_prop k a (Pair p) = Prim.hlevel props
touches_prop k a (Pairs b) = Prim.hlevel props
