-- Document 01, 'Job files': "Each line gives one line out: line number, refusal, branch, verdict, OVR[16], c."
use Rattle.std.specs.Prelude.{List, [], ◌∷◌, ◌++◌, ℕ, ℤ, Result, Ok, Err}
use Rattle.text.specs.Pieces.{comma, line_feed}
use Rattle.decimals.specs.Decimals.{decimal, signed_decimal}
use Rattle.package.specs.declared.found.Evaluation.{Evaluation}
use Rattle.package.specs.declared.refusals.Refusal.{Refusal}
use Rattle.package.specs.Refusals.{refusal_in}
use Rattle.rules.specs.Results.{no_evaluation}
use Rattle.job_answers.specs.declared.Row.{Row}

-- the answer of a line, by its number
pub record Answer : Type 0 where
  pub number : ℕ
  pub refusal : ℕ
  pub evaluation : Evaluation

-- the answer of line n
abbrev pub row : (n refusal : ℕ) → Evaluation → Answer
row n refusal e = record { number = n; refusal = refusal; evaluation = e }

-- a refused line measured nothing
abbrev pub evaluation_in : Result Evaluation Refusal → Evaluation
evaluation_in (Ok e) = e
evaluation_in (Err r) = no_evaluation

abbrev pub answer_in : Row → Answer
answer_in r = row r.number (refusal_in r.answer) (evaluation_in r.answer)

-- a number, by what is written of it, and the byte behind it
abbrev pub field : {A : Type 0} → (A → List ℕ) → A → ℕ → List ℕ
field text n byte = text n ++ (byte ∷ [])

abbrev pub whole_field : ℕ → ℕ → List ℕ
whole_field = field decimal

abbrev pub signed_field : ℤ → ℕ → List ℕ
signed_field = field signed_decimal

-- the last four numbers of an answer, and all six, with commas between them and a line feed behind
abbrev pub evaluation_text : Evaluation → List ℕ
evaluation_text e = whole_field e.branch comma ++ whole_field e.verdict comma ++ signed_field e.deviation comma ++ signed_field e.correction line_feed

abbrev pub row_text : Answer → List ℕ
row_text r = whole_field r.number comma ++ whole_field r.refusal comma ++ evaluation_text r.evaluation
