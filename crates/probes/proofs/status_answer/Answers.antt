-- The bits are the status modulo 64 in both, and as many of them are set as directions are calibrated, by the law of the count.
use mathlib.Core.Path.{ap}
use Prim.Native.Nat.{ℕ, ◌%◌}
use native.Mathlib.Omega.{arith}
use Rattle.package.specs.declared.records.Status.{Status}
use Rattle.rules.specs.ProbeLaws.{count_is}
use Rattle.rules.specs.Status.{status_answer}
use Rattle.probes.proofs.status_answer.Goals as goal

abbrev answer : ℕ → ℕ → Status
answer status n = record { refusal = 0; bits = status % 64; count = n }

pub returns : goal.returns
unfolding status_answer
returns c = ap (answer c.args.status) (count_is c.args.status (omega arith))
