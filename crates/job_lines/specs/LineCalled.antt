-- Document 01, 'Job files' and 'Alarm numbers', Job: what a line does to a lent area, and its answer.
use Rattle.std.specs.Prelude.{List, ℕ, ℤ}
use Rattle.job_text.specs.Lines.{Said, malformed, says}
use Rattle.area.specs.Called.{Called, unmeasured, called}
use Rattle.job_answers.specs.LineAnswers.{Answer, row}

-- "A line: 10 malformed or too long, else its operation's."
abbrev pub line_called : List ℤ → Said → Called
line_called area malformed = unmeasured 10 area
line_called area (says c) = called area c

-- the answer of line n and the area after it
pub record Ran : Type 0 where
  pub row : Answer
  pub area : List ℤ

abbrev pub ran_as : Answer → List ℤ → Ran
ran_as row area = record { row = row; area = area }

abbrev pub line_ran : List ℤ → ℕ → Said → Ran
line_ran area n s = ran_as (row n (line_called area s).refusal (line_called area s).evaluation) (line_called area s).area
