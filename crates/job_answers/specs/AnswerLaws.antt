-- A line's answer has at most 40 bytes.
use Rattle.std.specs.Prelude.{◌≤◌, nat_abs, length}
use Rattle.std.proofs.Common.{arith, length-append}
use Rattle.decimals.specs.DecimalLaws.{decimal_length, signed_length}
use Rattle.rules.specs.Refusals.{greatest_refusal}
use Rattle.rules.specs.EvaluationLaws.{EvaluationSmall}
use Rattle.job_answers.specs.LineAnswers.{Answer, row_text}

pub record Small (r : Answer) : Type 0 where
  pub number : r.number ≤ 1000
  pub refusal : r.refusal ≤ greatest_refusal
  pub evaluation : EvaluationSmall r.evaluation

pub at_most_40 : (r : Answer) → Small r → nat_abs r.evaluation.deviation ≤ 9999999999 → nat_abs r.evaluation.correction ≤ 9999999999
    → length (row_text r) ≤ 40
at_most_40 r s d c =
    simp length-append (omega (
      arith,
      decimal_length 3 r.number (omega (arith, s.number)),
      decimal_length 1 r.refusal (omega (arith, s.refusal)),
      decimal_length 0 r.evaluation.branch (omega (arith, s.evaluation.branch)),
      decimal_length 0 r.evaluation.verdict (omega (arith, s.evaluation.verdict)),
      signed_length r.evaluation.deviation d,
      signed_length r.evaluation.correction c,
    ))
