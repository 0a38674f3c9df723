-- After each turn the lines that are left, run on the area as it is, come to what all come to, and the output so far is the text of those before.
use Rattle.std.proofs.Common.{◌≡◌, refl, ◌∙◌, ap, sym, subst, ℕ, ◌+◌, ◌-◌, ◌^◌, ◌<◌, ◌≤◌, List, ◌∷◌, ◌++◌, ℤ, length, take, drop, arith, append_assoc, append-nil, length-drop, length-take-le, take-append-drop, drop-drop, rules}
use lib.Signed.{mag, nat_abs-le}
use Rattle.std.specs.Prelude.{Result, Ok, Err}
use Rattle.package.specs.declared.refusals.Refusal.{Refusal}
use Rattle.package.specs.declared.found.Evaluation.{Evaluation}
use Rattle.package.specs.Refusals.{refusal_in}
use Rattle.lists.specs.Copied.{part_end}
use Rattle.lists.specs.Written.{written}
use Rattle.lists.specs.WrittenLaws.{written_length, written_take, written_drop}
use Rattle.text.specs.Pieces.{line, HasLine, lines}
use Rattle.text.specs.PieceLaws.{lines_first, lines_end, has_line}
use Rattle.area.specs.Table.{area_length}
use Rattle.area.specs.Called.{answered_by}
use Rattle.job_limits.specs.JobRuleLaws.{Runs, runs_when}
use Rattle.job_text.specs.Lines.{Said, said_by}
use Rattle.job_answers.specs.LineAnswers.{row, evaluation_in, row_text}
use Rattle.job_answers.specs.AnswerLaws.{Small, at_most_40}
use Rattle.job_lines.specs.LineCalled.{line_called, Ran, ran_as, line_ran}
use Rattle.job_lines.specs.LineCalledLaws.{answer_ran}
use Rattle.jobs.specs.Jobs.{lines_area, lines_text}
use Rattle.jobs.specs.JobLaws.{text_step, area_step, text_none, area_none, row_small, drop_more, from_start}
use Rattle.jobs.proofs.run_lines.Goals as goal

-- a line of a job that runs, whose bytes from a place on are read
module _ (job : List ℕ) (n : ℕ) (runs : Runs job n) (at : ℕ) (h : at < length job) where
  on : HasLine (drop at job)
  on = has_line job at h runs.ended

  module _ (size : ℕ) (e : size ≡ length (line (take (length job - at) (drop at job)))) where
    size_is : size ≡ length (line (drop at job))
    size_is = e ∙ ap (λ (x : List ℕ). length (line x)) (part_end job at)

    within : at + size < length job
    within = omega (arith, size_is, on, length-drop at job)

    more_lines : lines (drop at job) ≡ line (drop at job) ∷ lines (drop (at + (size + 1)) job)
    more_lines =
        lines_first (drop at job) on
        ∙ ap (λ (k : ℕ). line (drop at job) ∷ lines (drop (k + 1) (drop at job))) (sym size_is)
        ∙ ap (λ (x : List ℕ). line (drop at job) ∷ lines x) (drop-drop (size + 1) at job)

    counted : (number : ℕ) → number + length (lines (drop at job)) ≡ length (lines job)
        → (number + 1 + length (lines (drop (at + (size + 1)) job)) ≡ length (lines job)) × (number + 1 ≤ 1000)
    counted number i = let m = ap length more_lines in (omega (arith, i, m), omega (arith, i, m, runs.count))

-- what the line leaves and answers
abbrev ran : ℕ → Result Evaluation Refusal → List ℤ → Ran
ran number e new = ran_as (row (number + 1) (refusal_in e) (evaluation_in e)) new

stepped : (job : List ℕ) (at : ℕ) (area : List ℤ) (number : ℕ) (e : Result Evaluation Refusal) (new : List ℤ) (s : Said) → answered_by e new ≡ line_called area s
    → s ≡ said_by (line (take (length job - at) (drop at job))) → ran number e new ≡ line_ran area (number + 1) (said_by (line (drop at job)))
stepped job at area number e new s h k =
    answer_ran area (number + 1) s e new h ∙ ap (line_ran area (number + 1)) (k ∙ ap (λ (x : List ℕ). said_by (line x)) (part_end job at))

-- an answer's numbers fit their type, the zeros of a refused line too
fitting : (e : Result Evaluation Refusal) → ((x : Evaluation) → e ≡ Ok x → (mag x.deviation < 2 ^ 31) × (mag x.correction < 2 ^ 31))
    → (mag (evaluation_in e).deviation < 2 ^ 31) × (mag (evaluation_in e).correction < 2 ^ 31)
fitting (Ok x) f = f x refl
fitting (Err r) f = (omega arith, omega arith)

short : (area : List ℤ) (number : ℕ) (o : Ran) (s : Said) → length area ≡ area_length → number + 1 ≤ 1000 → o ≡ line_ran area (number + 1) s
    → (mag o.row.evaluation.deviation < 2 ^ 31) × (mag o.row.evaluation.correction < 2 ^ 31) → length (row_text o.row) ≤ 40
short area number o s whole h e m =
    at_most_40 o.row (subst (λ (x : Ran). Small x.row) (sym e) (row_small area (number + 1) s whole h))
    (omega (arith, nat_abs-le o.row.evaluation.deviation {H = 2 ^ 31} m.0))
    (omega (arith, nat_abs-le o.row.evaluation.correction {H = 2 ^ 31} m.1))

pub invariant_of-rest : goal.invariant_of-rest
invariant_of-rest c =
    let job = c.args.job.now in
    let r = runs_when job (length c.args.output.now) c.requires.1 in
    record { ended = subst HasLine (sym (part_end job c.loop-at.at)) (on job _ r c.loop-at.at (omega arith)) }

pub overflow_add-number : goal.overflow_add-number
overflow_add-number c =
    let job = c.args.job.now in
    let r = runs_when job (length c.args.output.now) c.requires.1 in
    omega (arith, counted job _ r c.loop-at.at (omega arith) _ c.read_line-line.ensures.1 c.loop-at.number c.loop-at.invariant.left)

pub put_row-filled-requires : goal.put_row-filled-requires
put_row-filled-requires c =
    let job = c.args.job.now in
    let i = c.loop-at.invariant in
    let r = runs_when job (length c.args.output.now) c.requires.1 in
    let k = counted job _ r c.loop-at.at (omega arith) _ c.read_line-line.ensures.1 c.loop-at.number i.left in
    let e = stepped job c.loop-at.at c.loop-at.area c.loop-at.number c.answer_line-answer.result c.answer_line-answer.new.area _ c.answer_line-answer.ensures
    c.read_line-line.ensures.0 in
    let fit = fitting c.answer_line-answer.result (λ x q. let t = rw q at c.answer_line-answer.type_inv in (search (rules, t), search (rules, t))) in
    let s = short c.loop-at.area c.loop-at.number _ _ i.whole k.1 e fit in
    omega (arith, s, k.0, r.room, i.filled, i.room)

pub loop-at-preserved : goal.loop-at-preserved
loop-at-preserved c =
    let job = c.args.job.now in
    let old = c.args.output.now in
    let at = c.loop-at.at in
    let area = c.loop-at.area in
    let number = c.loop-at.number in
    let out = c.loop-at.output in
    let n = c.loop-at.filled in
    let i = c.loop-at.invariant in
    let r = runs_when job (length old) c.requires.1 in
    let f = c.read_line-line.ensures.1 in
    let m = more_lines job _ r at (omega arith) _ f in
    let k = counted job _ r at (omega arith) _ f number i.left in
    let w = within job _ r at (omega arith) _ f in
    let later = lines (drop (at + (c.read_line-line.result.length + 1)) job) in
    let o : Ran = ran number c.answer_line-answer.result c.answer_line-answer.new.area in
    let e = stepped job at area number _ c.answer_line-answer.new.area _ c.answer_line-answer.ensures c.read_line-line.ensures.0 in
    let fit = fitting c.answer_line-answer.result (λ x q. let t = rw q at c.answer_line-answer.type_inv in (search (rules, t), search (rules, t))) in
    let s = short area number o _ i.whole k.1 e fit in
    let t = row_text o.row in
    let p : c.put_row-filled.result ≡ n + length t = c.put_row-filled.ensures.0 in
    let b : c.put_row-filled.new.out ≡ written out n t = c.put_row-filled.ensures.1 in
    let h : n + length t ≤ length out = omega (arith, s, k.0, r.room, i.filled, i.room) in
    record {
      within = omega (arith, w);
      left = k.0;
      filled = omega (arith, p, s, i.filled);
      whole = c.answer_line-answer.auto.area ∙ i.whole;
      room = ap length b ∙ written_length out n t h ∙ i.room;
      behind = rw (p, b) (written_drop out n t h ∙ drop_more out old n (length t) i.behind);
      text = rw (p, b, written_take out n t h)
          (i.text
          ∙ ap (λ (x : List (List ℕ)). take n out ++ lines_text area number x) m
          ∙ ap (λ (x : List ℕ). take n out ++ x) (text_step area number (line (drop at job)) later o e)
          ∙ sym (append_assoc (take n out) t (lines_text o.area (number + 1) later)));
      area = i.area ∙ ap (lines_area area) m ∙ area_step area number (line (drop at job)) later o e;
    }

-- at the end no line is left
module _ (job : List ℕ) (at : ℕ) (h : length job ≤ at) (a area : List ℤ) (number : ℕ) where
  text_after : (t : List ℕ) → lines_text a 0 (lines job) ≡ t ++ lines_text area number (lines (drop at job)) → lines_text a 0 (lines job) ≡ t
  text_after t e =
      e ∙ ap (λ (x : List (List ℕ)). t ++ lines_text area number x) (lines_end job at h)
      ∙ ap (λ (x : List ℕ). t ++ x) (text_none area number) ∙ append-nil t

  area_after : lines_area a (lines job) ≡ lines_area area (lines (drop at job)) → lines_area a (lines job) ≡ area
  area_after e = e ∙ ap (lines_area area) (lines_end job at h) ∙ area_none area

pub returns-clause-value : goal.returns-clause-value
returns-clause-value c =
    let job = c.args.job.now in
    let i = c.loop-at.invariant in
    let r = runs_when job (length c.args.output.now) c.requires.1 in
    let t = text_after job c.loop-at.at (omega arith) c.args.area.now c.loop-at.area c.loop-at.number _ i.text in
    sym (ap length t ∙ length-take-le c.loop-at.filled c.loop-at.output (omega (arith, i.left, i.filled, i.room, r.room)))

pub returns-clause-area_after : goal.returns-clause-area_after
returns-clause-area_after c =
    sym (area_after c.args.job.now c.loop-at.at (omega arith) c.args.area.now c.loop-at.area c.loop-at.number c.loop-at.invariant.area)

pub returns-clause-output_after : goal.returns-clause-output_after
returns-clause-output_after c =
    let job = c.args.job.now in
    let old = c.args.output.now in
    let out = c.loop-at.output in
    let n = c.loop-at.filled in
    let i = c.loop-at.invariant in
    let r = runs_when job (length old) c.requires.1 in
    let t = text_after job c.loop-at.at (omega arith) c.args.area.now c.loop-at.area c.loop-at.number _ i.text in
    let l = length-take-le n out (omega (arith, i.left, i.filled, i.room, r.room)) in
    rw t (from_start old out (take n out) (rw (l, ← i.behind) (sym (take-append-drop n out))))
