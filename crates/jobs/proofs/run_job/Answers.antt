-- A wrong area comes first, then the job's refusals; where there is none, the answer, the area and the output are those of the lines that ran.
use Rattle.std.proofs.Common.{sym}
use Rattle.std.proofs.lemmas.Result.{err_from_is_err_and}
use Rattle.package.specs.RefusalLaws.{number_some}
use Rattle.jobs.specs.JobLaws.{job_wrong, job_refused, job_ran}
use Rattle.jobs.proofs.run_job.Goals as goal

pub returns-then-area-ne-AREA : goal.returns-then-area-ne-AREA
returns-then-area-ne-AREA c = job_wrong c.args.area.now c.args.job.now c.args.output.now c.if-area-ne-AREA.true

pub returns-in_err-check_job : goal.returns-in_err-check_job
returns-in_err-check_job c =
    let p = err_from_is_err_and c.from_residual.result c.from_residual.ensures.1 in
    rw (p.1, p.2) (job_refused c.args.area.now c.args.job.now c.args.output.now c.if-area-ne-AREA.false c.in_err-check_job.ensures (number_some c.in_err-check_job.field-0.0))

pub returns : goal.returns
returns c =
    job_ran c.args.area.now c.args.job.now c.args.output.now c.if-area-ne-AREA.false (sym c.in_ok-check_job.ensures)
    c.run_lines.ensures.value c.run_lines.ensures.area_after c.run_lines.ensures.output_after
