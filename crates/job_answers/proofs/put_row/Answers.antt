-- Each part stands behind those before it: the text so far, its room, and what has been written.
use Rattle.std.specs.Prelude.{◌≡◌, Result, Ok, Err}
use Rattle.std.specs.Result.{ResultUnwrapsOrElse}
use Rattle.std.proofs.Common.{◌++◌, length, rules}
use Rattle.package.specs.declared.found.Evaluation.{Evaluation}
use Rattle.package.specs.declared.refusals.Refusal.{Refusal}
use Rattle.package.specs.contracts.found.EvaluationDefault.TheImpl.{is_default-value}
use Rattle.text.specs.Pieces.{comma}
use Rattle.decimals.specs.BufferLaws.{chain, fits_front}
use Rattle.job_answers.specs.LineAnswers.{whole_field, evaluation_text, evaluation_in, answer_in}
use Rattle.job_answers.proofs.put_row.Goals as goal

evaluated : (a : Result Evaluation Refusal) (e : Evaluation) → ResultUnwrapsOrElse a is_default-value.it e → e ≡ evaluation_in a
evaluated (Ok x) e h = h
evaluated (Err r) e h = search rules

pub returns : goal.returns
returns c =
    let r = answer_in c.args.r in
    let at = c.args.at in
    let t1 = whole_field r.number comma in
    let t2 = t1 ++ whole_field r.refusal comma in
    let fits2 = fits_front at (length c.args.out.now) t2 (evaluation_text r.evaluation) c.requires in
    let put2 = chain _ _ _ at _ _ t1 (whole_field r.refusal comma) fits2 c.put_field-refusal.ensures
    (rw c.refusal_in.ensures at c.put_field-branch.ensures) in
    chain _ _ _ at _ _ t2 (evaluation_text r.evaluation) c.requires put2
    (rw (evaluated c.args.r.answer _ c.unwrap_or_default.ensures) at c.put_evaluation.ensures)
