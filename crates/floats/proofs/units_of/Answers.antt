-- What is not a number is not good; any other float is that of its bits.
use mathlib.Core.Path.{sym, ap, ◌∙◌}
use lib.Ieee.{binary32}
use lib.Ieee.Bits.{of_bits-to_bits}
use Rattle.signed.specs.RangeLaws.{true_T}
use Rattle.rules.specs.Readings.{good_float}
use Rattle.floats.specs.Units.{units_in}
use Rattle.floats.proofs.Laws.{is_nan_lem}
use Rattle.floats.proofs.units_of.Goals as goal

pub returns-then-is_nan : goal.returns-then-is_nan
unfolding good_float
returns-then-is_nan c = sym (ap units_in (is_nan_lem c.args.x (sym c.is_nan.ensures.value ∙ c.if-is_nan.true)))

pub returns-else-is_nan : goal.returns-else-is_nan
returns-else-is_nan c = c.units_of_bits.ensures ∙ ap units_in (of_bits-to_bits binary32 c.args.x (true_T c.well_formed.0.1))
