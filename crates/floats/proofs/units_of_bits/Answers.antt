-- By the bits with no sign: above those of 1000.0, below those of 2^-17, or between, where the callee rounds and the bits tell the sign.
use mathlib.Core.Path.{◌≡◌, sym, ap, ◌∙◌}
use Prim.Native.Nat.{ℕ}
use native.Mathlib.Omega.{arith}
use borrow.Author.Tests.{le-leb, lt-leb}
use lib.Dec.{leb}
use lib.IntN.{pos}
use lib.Ieee.{of_bits, binary32}
use mir.Syntax.{w64}
use Rattle.signed.specs.Expressions.{Ex, lit, bound, sub, Runs, run}
use Rattle.rules.specs.Readings.{signed}
use Rattle.std.specs.Prelude.{Some}
use Rattle.floats.specs.Units.{units_in}
use Rattle.floats.proofs.Laws.{refused, below_half, counted, less_than_0}
use Rattle.floats.proofs.units_of_bits.Goals as goal
use Rattle.floats.proofs.units_of_bits.Goals.{After-rounded_units-n}

pub returns-then-m-gt1148846080 : goal.returns-then-m-gt1148846080
returns-then-m-gt1148846080 c = sym (refused c.args.b (omega arith))

pub returns-then-m-lt922746880 : goal.returns-then-m-lt922746880
returns-then-m-lt922746880 c = sym (below_half c.args.b (omega arith))

-- the u that the callee gave, with its sign
module _ (c : After-rounded_units-n) where
  abbrev b : ℕ
  b = c.args.b

  abbrev n : ℕ
  n = c.rounded_units-n.result

  value : units_in (of_bits binary32 b) ≡ Some (signed (leb 2147483648 b) n)
  value =
      counted b (omega arith) (omega arith)
      ∙ ap (λ (v : ℕ). Some (signed (leb 2147483648 b) v)) (sym c.rounded_units-n.ensures.0)

  abbrev plus : Ex w64
  plus = bound (pos n) 400000000000 c.rounded_units-n.ensures.1 tt

  abbrev negated : Ex w64
  negated = sub (lit (pos 0)) plus

  negated_runs : Runs negated
  negated_runs = run negated tt (search)

pub returns-then-b-lt2147483648 : goal.returns-then-b-lt2147483648
returns-then-b-lt2147483648 c =
    let p = (goal.at.returns-then-b-lt2147483648 c).After-rounded_units-n in
    ap Some (run (plus p) tt tt).value
    ∙ sym (value p ∙ rw (lt-leb 2147483648 (b p) c.if-b-lt2147483648.true))

pub returns : goal.returns
returns c =
    let p = (goal.at.returns c).After-rounded_units-n in
    ap Some ((negated_runs p).value ∙ less_than_0 (n p))
    ∙ sym (value p ∙ rw (le-leb 2147483648 (b p) c.if-b-lt2147483648.false))
