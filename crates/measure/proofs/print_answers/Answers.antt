-- By the contract of `run_job`: its output ends within the buffer, and on a whole area its refusal is that of the job's rules.
use Rattle.std.proofs.Common.{◌≡◌, Bool, true, false, cond, List, ℕ, ℤ, length, eqb, refl, ap, ◌∙◌, sym, rules, eq-eqb, eqb-true}
use Rattle.std.proofs.lemmas.List.{length-take-le}
use Rattle.package.specs.RefusalLaws.{number_some}
use Rattle.area.specs.Table.{area_length}
use Rattle.job_limits.specs.JobRules.{job_refusal}
use Rattle.jobs.specs.Jobs.{JobLeft, job_left, job_called}
use Rattle.jobs.specs.JobLaws.{output_fits}
use Rattle.measure.proofs.print_answers.Goals as goal

refusal_is : (area : List ℤ) (job output : List ℕ) {r n : ℕ} {a : List ℤ} {out : List ℕ} → length area ≡ area_length
    → job_left r n a out ≡ job_called area job output → r ≡ job_refusal job (length output)
unfolding job_called
refusal_is area job output whole e = ap (λ (x : JobLeft). x.refusal) e ∙ rw (eq-eqb (length area) area_length whole) (go _ _ _ _ _ _ _ _ refl)
  where
    go : (q n m : ℕ) (a c : List ℤ) (o p : List ℕ) → (b : Bool) → eqb q 0 ≡ b → (cond b (job_left 0 n a o) (job_left q m c p)).refusal ≡ q
    go q n m a c o p true e = sym (eqb-true q 0 e)
    go q n m a c o p false e = refl

pub slice_bounds-output-end : goal.slice_bounds-output-end
slice_bounds-output-end g c = output_fits _ _ _ c.in-Ok.ensures (search rules)

pub slice_bounds-write_all-end : goal.slice_bounds-write_all-end
slice_bounds-write_all-end g c = sym (length-take-le _ _ (output_fits _ _ _ c.in-Ok.ensures (search rules)))

pub returns-in_default-clause-ran : goal.returns-in_default-clause-ran
returns-in_default-clause-ran g c z = absurd (number_some c.in_default.field-0 (refusal_is _ _ _ (search rules) c.in_default.ensures ∙ z))

pub returns-clause-refused : goal.returns-clause-refused
returns-clause-refused g c some = absurd (some (sym (refusal_is _ _ _ (search rules) c.in-Ok.ensures)))
