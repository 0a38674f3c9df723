-- What a line says is of its letter, which a byte that is no letter is not, and of the numbers of its fields.
use Rattle.std.proofs.Common.{◌≡◌, ◌<◌, List, ℕ, ℤ, ap, sym, ◌∙◌, arith}
use Rattle.std.specs.Prelude.{Result, Ok, Err}
use Rattle.std.specs.Result.{result_ok}
use Rattle.package.specs.declared.refusals.Refusal.{Refusal}
use Rattle.arguments.specs.Arguments.{at}
use Rattle.job_text.specs.declared.Letter.{Letter}
use Rattle.job_text.specs.declared.Letter.TheVariants.{E, W, O, C, T, Z, G}
use Rattle.job_text.specs.Bytes.{letter_byte, LetterNamed}
use Rattle.job_text.specs.Letters.{most_fields}
use Rattle.job_text.specs.Fields.{said_in}
use Rattle.job_text.specs.LineLaws.{no_letter, says_nothing}
use Rattle.job_lines.specs.LineCalled.{line_called}
use Rattle.job_lines.specs.LineCalledLaws.{answer_ran}
use Rattle.job_lines.proofs.run_line.Goals as goal

fields_say : (letter : ℕ) (us vs : List ℤ) → ((n : ℕ) → n < most_fields → at us n ≡ at vs n) → said_in letter us ≡ said_in letter vs
unfolding said_in
fields_say letter us vs f =
    rw (
      f 0 (omega arith),
      f 1 (omega arith),
      f 2 (omega arith),
      f 3 (omega arith),
      f 4 (omega arith),
      f 5 (omega arith),
      f 6 (omega arith),
      f 7 (omega arith),
      f 8 (omega arith),
      f 9 (omega arith),
      f 10 (omega arith),
      f 11 (omega arith),
      f 12 (omega arith),
      f 13 (omega arith),
      f 14 (omega arith),
      f 15 (omega arith),
      f 16 (omega arith),
      f 17 (omega arith),
      f 18 (omega arith),
      f 19 (omega arith),
      f 20 (omega arith),
    )

letter_says : (byte : ℕ) (r : Result Letter Refusal) (vs : List ℤ) → LetterNamed byte r → said_in (letter_byte (result_ok r)) vs ≡ said_in byte vs
letter_says byte (Ok l) vs h = ap (λ (b : ℕ). said_in b vs) h
letter_says byte (Err r) vs h =
    says_nothing vs
    ∙ sym (no_letter byte vs (λ e. h.1 E (sym e)) (λ e. h.1 W (sym e)) (λ e. h.1 O (sym e)) (λ e. h.1 C (sym e)) (λ e. h.1 T (sym e)) (λ e. h.1 Z (sym e))
    (λ e. h.1 G (sym e)))

pub returns : goal.returns
returns c =
    let area = c.args.area.now in
    let v = c.args.v.now in
    let said : said_in (letter_byte c.ok.result) c.fields_of.result ≡ said_in c.args.letter v =
    rw c.ok.ensures.value (fields_say _ c.fields_of.result v c.fields_of.ensures ∙ letter_says c.args.letter c.try_from.result v c.try_from.ensures) in
    answer_ran area c.args.number (said_in c.args.letter v) c.answer_line-answer.result c.answer_line-answer.new.area
    (c.answer_line-answer.ensures ∙ ap (line_called area) said)
