-- The axis left is of 32 bits: by the range test where it is corrected, as stored where it is not.
use Rattle.std.proofs.Common.{◌≡◌, ap₂, ◌∙◌, ◌+ℤ◌, SFits, w32, to_z-of_z}
use Rattle.signed.specs.CodeLaws.{read}
use Rattle.package.specs.Ways.{axis_number}
use Rattle.rules.specs.Zero.{axis_left}
use Rattle.zero_offset.specs.ZeroFound.{axis_fits}
use Rattle.zero_offset.proofs.Laws.{growth_is}
use Rattle.zero_offset.proofs.FoundZero.left.Goals as goal
use Rattle.zero_offset.proofs.FoundZero.left.Goals.{After-axis_left}

module _ (c : After-axis_left) where
  told : SFits w32 c.stored-v.result
  told = record { sfits = c.stored-v.type_inv }

  is : c.axis_left.result ≡ axis_left c.args.self.records c.args.self.passed.given (axis_number c.args.axis)
  is = (rw c.args.self.passed.probing.0 at c.axis_left.ensures) ∙ ap₂ ◌+ℤ◌ (to_z-of_z told ∙ c.stored-v.ensures) (growth_is c.args.self (axis_number c.args.axis))

  narrow : SFits w32 c.axis_left.result
  narrow =
      let f = c.args.self in
      rw is (axis_fits f.records f.passed.given (axis_number c.args.axis) (rw c.stored-v.ensures at told) c.requires)

pub overflow_cast-result : goal.overflow_cast-result
overflow_cast-result c = rw (read c.axis_left.result c.axis_left.type_inv) (narrow c)

pub returns : goal.returns
returns c = rw (read c.axis_left.result c.axis_left.type_inv) (to_z-of_z (narrow c) ∙ is c)
