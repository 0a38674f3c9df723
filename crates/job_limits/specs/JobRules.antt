-- Document 01, 'Alarm numbers', Job: why a job does not run.
use Rattle.std.specs.Prelude.{Bool, ◌&&◌, not, List, [], ◌∷◌, ℕ, ◌-◌, ◌*◌, eqb, leb, length, get_or}
use Rattle.text.specs.Pieces.{lines, line_feed}
use Rattle.rules.specs.Refusals.{Rule, ◌unless◌, first}

-- the last line is ended
abbrev pub ended : List ℕ → Bool
ended job = eqb (get_or job (length job - 1) 0) line_feed

-- "11 empty; 12 over 65,536 bytes, over 1,000 lines or last line unended; 1 output shorter than 40 bytes a line"
abbrev pub job_rules : List ℕ → ℕ → List Rule
job_rules job room =
    11 unless not (eqb (length job) 0) ∷
    12 unless (leb (length job) 65536 && ended job && leb (length (lines job)) 1000) ∷
    1 unless leb (40 * length (lines job)) room ∷
    []

unfoldable pub job_refusal : List ℕ → ℕ → ℕ
job_refusal job room = first (job_rules job room)
