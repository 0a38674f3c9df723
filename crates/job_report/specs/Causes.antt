-- Why a job was refused by 11 or 12: the first cause that applies, in the order of the rules.
use Rattle.std.specs.Prelude.{cond, List, ℕ, eqb, leb, length}
use Rattle.job_limits.specs.JobRules.{ended}
use Rattle.job_report.specs.declared.JobError.{JobError}
use Rattle.job_report.specs.declared.JobError.TheVariants.{Empty, TooLong, Unended, TooManyLines}

abbrev pub cause : List ℕ → JobError
cause job = cond (eqb (length job) 0) Empty (cond (leb (length job) 65536) (cond (ended job) TooManyLines Unended) TooLong)
