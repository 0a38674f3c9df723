-- The numbers of branches and verdicts.
use Rattle.std.specs.Prelude.{ℕ}
use Rattle.package.specs.declared.found.Branch.{Branch}
use Rattle.package.specs.declared.found.Branch.TheVariants.{One, Two, Three, Four, Five}
use Rattle.package.specs.declared.found.Verdict.{Verdict}
use Rattle.package.specs.declared.found.Verdict.TheVariants.{InTolerance, Oversize, Undersize}

abbrev pub branch_number : Branch → ℕ
branch_number One = 1
branch_number Two = 2
branch_number Three = 3
branch_number Four = 4
branch_number Five = 5

abbrev pub verdict_number : Verdict → ℕ
verdict_number InTolerance = 0
verdict_number Oversize = 1
verdict_number Undersize = 2
