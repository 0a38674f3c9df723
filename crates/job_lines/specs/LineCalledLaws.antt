-- A line by the call that it says.
use Rattle.std.specs.Prelude.{◌≡◌, List, ℕ, ℤ, Result, Ok, Err}
use Rattle.std.proofs.Common.{ap, ◌∙◌}
use Rattle.rules.specs.Calls.{Call}
use Rattle.package.specs.declared.refusals.Refusal.{Refusal}
use Rattle.package.specs.declared.found.Evaluation.{Evaluation}
use Rattle.package.specs.Refusals.{refusal_in}
use Rattle.area.specs.Called.{Called, answered_by, called}
use Rattle.job_text.specs.Lines.{Said, says}
use Rattle.job_answers.specs.LineAnswers.{Answer, row, evaluation_in}
use Rattle.job_lines.specs.LineCalled.{ran_as, line_called, line_ran}

pub call_ran : (area : List ℤ) (n : ℕ) (c : Call) {s : Said} {a : Called} {r : Answer} → a ≡ called area c → r ≡ row n a.refusal a.evaluation → says c ≡ s
    → ran_as r a.area ≡ line_ran area n s
call_ran area n c {a = a} e q k =
    ap (λ (x : Answer). ran_as x a.area) q
    ∙ ap (λ (x : Called). ran_as (row n x.refusal x.evaluation) x.area) e
    ∙ ap (line_ran area n) k

-- the answer of a line, whatever it says
pub answer_ran : (area : List ℤ) (n : ℕ) (s : Said) (e : Result Evaluation Refusal) (new : List ℤ) → answered_by e new ≡ line_called area s
    → ran_as (row n (refusal_in e) (evaluation_in e)) new ≡ line_ran area n s
answer_ran area n s (Ok x) new h = ap (λ (x : Called). ran_as (row n x.refusal x.evaluation) x.area) h
answer_ran area n s (Err r) new h = ap (λ (x : Called). ran_as (row n x.refusal x.evaluation) x.area) h
