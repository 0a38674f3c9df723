-- "A job is a list of the other calls and needs no clause of its own": the calls that a job makes, and that it is these calls one after the other.
use Rattle.std.specs.Prelude.{◌≡◌, refl, Bool, true, false, cond, ◌&&◌, List, [], ◌∷◌, ◌++◌, ℕ, eqb, leb, ℤ, length, get_or, drop}
use Rattle.std.proofs.Common.{sym, ap, ◌∙◌, eq-eqb}
use Rattle.lists.specs.Each.{Each, each_so}
use Rattle.lists.specs.Folded.{folded, folded_append}
use Rattle.text.specs.Pieces.{comma, cut, lines}
use Rattle.rules.specs.BlockLaws.{Bytes}
use Rattle.rules.specs.Calls.{Call, meaning}
use Rattle.area.specs.Table.{area_length}
use Rattle.area.specs.Called.{called}
use Rattle.job_limits.specs.JobRules.{job_refusal}
use Rattle.job_text.specs.Letters.{Letter, letters, by_letter, form_of}
use Rattle.job_text.specs.Lines.{Numbers, none, all, numbers_of, Said, malformed, says, counted, said_behind, said_by}
use Rattle.job_lines.specs.LineCalled.{line_called}
use Rattle.lists.specs.Written.{written}
use Rattle.jobs.specs.Jobs.{lines_area, lines_text, job_left, job_called}

-- a malformed line is no call
abbrev pub call_of : Said → List Call
call_of malformed = []
call_of (says c) = c ∷ []

abbrev pub calls_of : List (List ℕ) → List Call
calls_of [] = []
calls_of (l ∷ ls) = call_of (said_by l) ++ calls_of ls

-- a refused job makes no call
abbrev pub job_calls : List ℕ → ℕ → List Call
job_calls job room = cond (eqb (job_refusal job room) 0) (calls_of (lines job)) []

-- ---- no line is given bytes
by_letter_lem : (P : Said → Type 0) (ls : List Letter) (byte : ℕ) (take : Letter → Said) → P malformed → Each (λ l. P (take l)) ls
    → P (by_letter ls byte take malformed)
by_letter_lem P [] byte take m h = m
by_letter_lem P (l ∷ ls) byte take m h = go (eqb byte l.byte) (by_letter_lem P ls byte take m h.1)
  where
    go : (b : Bool) → P (by_letter ls byte take malformed) → P (cond b (take l) (by_letter ls byte take malformed))
    go true k = h.0
    go false k = k

abbrev Given : Said → Type 0
Given s = Each (λ c. Bytes (meaning c).given) (call_of s)

unless : (b : Bool) (s : Said) → Given s → Given (cond b s malformed)
unless true s h = h
unless false s h = tt

behind_given : (byte : ℕ) (r : Numbers) → Given (said_behind byte r)
behind_given byte none = by_letter_lem Given letters byte (counted none) tt (tt, (tt, (tt, (tt, (tt, (tt, (tt, tt)))))))
behind_given byte (all zs) =
    by_letter_lem Given letters byte (counted (all zs)) tt
    (each_so {P = λ l. Given (says (l.call zs))} {Q = λ l. Given (counted (all zs) l)}
    (λ l h. unless (eqb (length zs) l.fields) (says (l.call zs)) h) letters
    ((tt, tt), ((tt, tt), ((tt, tt), ((tt, tt), ((tt, tt), ((tt, tt), ((tt, tt), tt))))))))

line_given : (s : List ℕ) → Given (said_by s)
unfolding said_by
line_given s =
    let r = numbers_of (form_of (get_or s 0 0)) 0 (cut comma (drop 2 s)) in
    unless (leb (length s) 200 && eqb (get_or s 1 0) comma) (said_behind (get_or s 0 0) r) (behind_given (get_or s 0 0) r)

each_append : {A : Type 0} (P : A → Type 0) (xs ys : List A) → Each P xs → Each P ys → Each P (xs ++ ys)
each_append P [] ys h k = k
each_append P (x ∷ xs) ys h k = (h.0, each_append P xs ys h.1 k)

lines_given : (ls : List (List ℕ)) → Each (λ c. Bytes (meaning c).given) (calls_of ls)
lines_given [] = tt
lines_given (l ∷ ls) = each_append (λ c. Bytes (meaning c).given) (call_of (said_by l)) (calls_of ls) (line_given l) (lines_given ls)

pub job_given : (job : List ℕ) (room : ℕ) → Each (λ c. Bytes (meaning c).given) (job_calls job room)
job_given job room = go (eqb (job_refusal job room) 0)
  where
    go : (b : Bool) → Each (λ c. Bytes (meaning c).given) (cond b (calls_of (lines job)) [])
    go true = lines_given (lines job)
    go false = tt

-- ---- the area after a job is that after its calls
abbrev pub call_area : List ℤ → Call → List ℤ
call_area area c = (called area c).area

line_area : (area : List ℤ) (s : Said) → (line_called area s).area ≡ folded call_area area (call_of s)
line_area area malformed = refl
line_area area (says c) = refl

lines_area_lem : (area : List ℤ) (ls : List (List ℕ)) → lines_area area ls ≡ folded call_area area (calls_of ls)
unfolding lines_area
lines_area_lem area [] = refl
lines_area_lem area (l ∷ ls) =
    lines_area_lem (line_called area (said_by l)).area ls
    ∙ ap (λ (a : List ℤ). folded call_area a (calls_of ls)) (line_area area (said_by l))
    ∙ sym (folded_append call_area area (call_of (said_by l)) (calls_of ls))

pub job_area : (area : List ℤ) (job output : List ℕ) → length area ≡ area_length
    → (job_called area job output).area ≡ folded call_area area (job_calls job (length output))
unfolding job_called
job_area area job output whole = rw (eq-eqb (length area) area_length whole) (go (eqb (job_refusal job (length output)) 0))
  where
    go : (b : Bool) → (cond b (job_left 0 (length (lines_text area 0 (lines job))) (lines_area area (lines job))
        (written output 0 (lines_text area 0 (lines job)))) (job_left (job_refusal job (length output)) 0 area output)).area
        ≡ folded call_area area (cond b (calls_of (lines job)) [])
    go true = lines_area_lem area (lines job)
    go false = refl
