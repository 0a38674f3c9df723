-- Document 01, 'Units and stores' and the limits of 'Calibration' and 'Tolerance, mean, correction', in plain numbers: what a call that is done was given.
use Rattle.std.specs.Prelude.{◌≡◌, true, [], ◌∷◌, ℤ, pos, ◌≤ℤ◌}
use Rattle.signed.specs.Ranges.{minus}
use Rattle.signed.specs.RangeLaws.{within_is}
use Rattle.lists.specs.Each.{Each, every, every_each, each_so}
use Rattle.package.specs.declared.found.Form.{Form}
use Rattle.package.specs.declared.found.Form.TheVariants.{Plane, Single, Double}
use Rattle.package.specs.declared.found.Kind.{Kind}
use Rattle.package.specs.Given.{Raws, Calibration, ToolMeasurement, ZeroMeasurement}
use Rattle.package.specs.declared.arguments.Probing.{Probing}
use Rattle.rules.specs.Stores.{position_range, width_range}
use Rattle.rules.specs.StoreRanges.{Between}
use Rattle.rules.specs.RefusalLaws.{all_of}
use Rattle.rules.specs.Kinds.{by_form}
use Rattle.rules.specs.Sizes.{touches, pairs, raw_at, positions_ok}
use Rattle.rules.specs.Tool.{tool_kind_of}
use Rattle.rules.specs.Zero.{zero_kind_of}
use Rattle.rules.specs.Passed.{LimitsPassed}

-- "Positions, set centres and setpoints lie in -10,000,000..10,000,000 u"
abbrev pub Position : ℤ → Type 0
Position = Between (minus 10000000) (pos 10000000)

-- ---- a calibration
pub record CalibrationGiven (a : Calibration) : Type 0 where
  pub probe : Between (pos 1) (pos 3) a.probe
  pub axis : Between (pos 1) (pos 3) a.axis
  pub direction : Between (pos 0) (pos 1) a.direction
  pub setpoint : Position a.setpoint
  pub raw : Position a.raw
  pub tzl : pos 0 ≤ℤ a.tzl
  pub chain : a.tzl ≤ℤ a.tsa
  pub tsa : a.tsa ≤ℤ pos 1000000

-- ---- a measurement: the raws, set centres and the setpoint that its kind uses; "a width setpoint in 1..10,000,000"
pub record PositionsGiven (k : Kind) (a : Probing) (q : Raws) : Type 0 where
  pub raws : Each (λ t. Position (raw_at q t)) (touches k a)
  pub centres : Each (λ p. Position p.set) (pairs k a)
  pub setpoint : Between (by_form k.form (minus 10000000) (pos 1) (pos 1)) (pos 10000000) a.setpoint

pub positions_given : (k : Kind) (a : Probing) (q : Raws) → positions_ok k a q ≡ true → PositionsGiven k a q
unfolding positions_ok
positions_given k a q e =
    let ok : (z : ℤ) → position_range z ≡ true → Position z = within_is (minus 10000000) (pos 10000000) in
    let w = by_form k.form (position_range a.setpoint) (width_range a.setpoint) (width_range a.setpoint) in
    let t = all_of (every (λ t. position_range (raw_at q t)) (touches k a)) (every (λ p. position_range p.set) (pairs k a) ∷ w ∷ []) e in
    record {
      raws = each_so {Q = λ t. Position (raw_at q t)} (λ t h. ok (raw_at q t) h) (touches k a) (every_each (λ t. position_range (raw_at q t)) (touches k a) t.0);
      centres = each_so {Q = λ p. Position p.set} (λ p h. ok p.set h) (pairs k a) (every_each (λ p. position_range p.set) (pairs k a) t.1.0);
      setpoint = go k.form t.1.1.0;
    }
  where
    go : (f : Form) → by_form f (position_range a.setpoint) (width_range a.setpoint) (width_range a.setpoint) ≡ true
        → Between (by_form f (minus 10000000) (pos 1) (pos 1)) (pos 10000000) a.setpoint
    go Plane h = within_is (minus 10000000) (pos 10000000) a.setpoint h
    go Single h = within_is (pos 1) (pos 10000000) a.setpoint h
    go Double h = within_is (pos 1) (pos 10000000) a.setpoint h

pub record ToolGiven (a : ToolMeasurement) : Type 0 where
  pub kind : Between (pos 0) (pos 4) a.probing.kind
  pub tool : Between (pos 1) (pos 32) a.tool
  pub ev : Between (pos 0) (pos 20) a.ev
  pub mv : Between (pos 0) (pos 20) a.mv
  pub positions : PositionsGiven (tool_kind_of a) a.probing a.raws
  pub weight : Between (pos 1) (pos 1000) a.k
  pub limits : LimitsPassed a.limits

pub record ZeroGiven (a : ZeroMeasurement) : Type 0 where
  pub kind : Between (pos 100) (pos 104) a.probing.kind
  pub offset : Between (pos 1) (pos 4) a.offset
  pub positions : PositionsGiven (zero_kind_of a) a.probing a.raws
  pub tsa : Between (pos 0) (pos 1000000) a.tsa
