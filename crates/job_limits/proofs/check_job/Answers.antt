-- Each test that fails has its law, given that those before it passed; where the lines are not too many, the room alone decides.
use Rattle.std.proofs.Common.{◌≡◌, ◌∙◌, ◌-◌, ◌<◌, ap, sym, cond, length, get_or, arith, le-leb}
use borrow.Author.Tests.{lt-leb}
use Rattle.std.proofs.lemmas.List.{get_or_read}
use Rattle.job_limits.specs.JobRuleLaws.{job_empty, job_long, job_open, job_many, job_room}
use Rattle.job_limits.proofs.check_job.Goals as goal
use Rattle.job_limits.proofs.check_job.Goals.{In-Some}

-- the last byte
some : (c : In-Some) → 0 < length c.args.job.now
some c = c.in-Some.ensures.item.3.0

last : (c : In-Some) → c.in-Some.last.now ≡ get_or c.args.job.now (length c.args.job.now - 1) 0
last c = get_or_read c.args.job.now _ _ (omega (arith, some c)) c.in-Some.ensures.item.1 0

pub returns-in_default : goal.returns-in_default
returns-in_default c = sym (job_empty _ _ (omega (arith, c.in_default.ensures.item.3)))

pub returns-then-job-gt-JOB_LIMIT : goal.returns-then-job-gt-JOB_LIMIT
returns-then-job-gt-JOB_LIMIT c =
    sym (job_long _ _ (λ e. omega (arith, some (goal.at.returns-then-job-gt-JOB_LIMIT c).In-Some)) c.if-job-gt-JOB_LIMIT.true)

pub returns-then-last-ne-LINE_FEED : goal.returns-then-last-ne-LINE_FEED
returns-then-last-ne-LINE_FEED c =
    let i = (goal.at.returns-then-last-ne-LINE_FEED c).In-Some in
    sym (job_open _ _ (λ e. omega (arith, some i)) c.if-job-gt-JOB_LIMIT.false (λ e. c.if-last-ne-LINE_FEED.true (last i ∙ e)))

pub returns-then-lines-gt-LINES_LIMIT : goal.returns-then-lines-gt-LINES_LIMIT
returns-then-lines-gt-LINES_LIMIT c =
    let i = (goal.at.returns-then-lines-gt-LINES_LIMIT c).In-Some in
    sym (job_many c.args.job.now c.args.room (λ e. omega (arith, some i)) c.if-job-gt-JOB_LIMIT.false (sym (last i) ∙ c.if-last-ne-LINE_FEED.false)
    (omega (arith, c.count_lines-lines.ensures)))

pub returns-then-room-lines : goal.returns-then-room-lines
returns-then-room-lines c =
    let i = (goal.at.returns-then-room-lines c).In-Some in
    let e = c.count_lines-lines.ensures in
    sym (job_room c.args.job.now c.args.room (λ e. omega (arith, some i)) c.if-job-gt-JOB_LIMIT.false (sym (last i) ∙ c.if-last-ne-LINE_FEED.false)
    (omega (arith, e, c.if-lines-gt-LINES_LIMIT.false))
    ∙ ap (λ b. cond b 0 1) (lt-leb _ c.args.room (omega (arith, e, c.if-room-lines.true))))

pub returns : goal.returns
returns c =
    let i = (goal.at.returns c).In-Some in
    let e = c.count_lines-lines.ensures in
    sym (job_room c.args.job.now c.args.room (λ e. omega (arith, some i)) c.if-job-gt-JOB_LIMIT.false (sym (last i) ∙ c.if-last-ne-LINE_FEED.false)
    (omega (arith, e, c.if-lines-gt-LINES_LIMIT.false))
    ∙ ap (λ b. cond b 0 1) (le-leb _ c.args.room (omega (arith, e, c.if-room-lines.false))))
