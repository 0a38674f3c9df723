-- Request 2026-01: "A G line must answer as the T line with the converted raws, 0 for an unused one, where both keep to 200 bytes."
use Rattle.std.specs.Prelude.{◌≡◌, refl, Bool, true, false, ◌&&◌, ℕ, ◌+◌, ◌<◌, ◌≤◌, ltb, leb, ℤ, pos, nat_abs, get_or, drop}
use Rattle.std.proofs.Math.Path.{ap}
use Rattle.std.proofs.Common.{sym, ◌∙◌, arith, le-leb, eq-eqb, eqb-true, ltb-true}
use Rattle.std.proofs.Math.Bool.{cond, and-eq-true_iff}
use mathlib.Core.List.{List}
use Rattle.std.proofs.Math.Dec.{eqb}
use Rattle.std.proofs.Math.ListN.{length}
use Rattle.text.specs.Pieces.{comma, cut}
use Rattle.text.specs.PieceLaws.{cut_first}
use Rattle.package.specs.Given.{Raws, ToolMeasurement, ToolReadings}
use Rattle.package.specs.declared.arguments.Report.{Report}
use Rattle.package.specs.declared.arguments.Reading.TheVariants.{Reported}
use Rattle.rules.specs.Stores.{Package}
use Rattle.rules.specs.Kinds.{tool_kind_number, tool_kind}
use Rattle.rules.specs.Measuring.{lent}
use Rattle.rules.specs.Tool.{tool_arguments_with, tool_at, good_tool}
use Rattle.rules.specs.Readings.{good_if, position_if, picked, first_axis, uses_second, uses_third}
use Rattle.rules.specs.ReadingLaws.{good_in_range}
use Rattle.rules.specs.Calls.{Call, measure_tool, measure_tool_readings, meaning, done, refusal, step, evaluation}
use Rattle.rules.specs.Results.{no_evaluation, evaluated_by}
use Rattle.rules.specs.WholeReadings.{tool_whole, same_refusal, same_step, same_answer}
use Rattle.arguments.specs.Arguments.{at, probing_of, tool_of, float_of, reported_of}
use Rattle.job_text.specs.Letters.{letter_g, raw, form_of}
use Rattle.job_text.specs.Lines.{Numbers, none, all, numbers_of, malformed, says, said_behind, said_by}
use Rattle.g_lines.specs.Joined.{joined}
use Rattle.g_lines.specs.JoinedLaws.{cut_without, cut_joined}
use Rattle.g_lines.specs.TLine.{letter_t, fields_of, listed, numbers_in, readings_in, raw_of, with_raws, no_raws, converted, t_line, measured_with, t_call, Convertible, Alike}
use Rattle.g_lines.specs.TLineLaws.{Held, numbers_with, numbers_as_many, number_with, with_some, with_without, numbers_with_lem}

-- ---- good floats give raws that a field can hold
held_if : (used : Bool) (f : Report) (n : ℤ) → good_if used (Reported f) n ≡ true → nat_abs (position_if used (Reported f) n) < 100000000
held_if true f n e = omega (arith, good_in_range (picked f n) e)
held_if false f n e = omega arith

four : (w x y z : Bool) → (w && x && y && z) ≡ true → (w ≡ true) × (x ≡ true) × (y ≡ true) × (z ≡ true)
four w x y z e =
    let c = (and-eq-true_iff (w && x && y) z).0 e in
    let b = (and-eq-true_iff (w && x) y).0 c.0 in
    let a = (and-eq-true_iff w x).0 b.0 in
    (a.0, a.1, b.1, c.1)

-- the one float on every axis
abbrev report : ℤ → Report
report z = record { x = float_of z; y = float_of z; z = float_of z }

good_held : (zs : List ℤ) → good_tool (reported_of zs) ≡ true → Held (tool_at (reported_of zs)).raws
good_held zs e =
    let k = tool_kind (at zs 0) in
    let n = first_axis k (probing_of zs) in
    let f = report (at zs 7) in
    let g = report (at zs 8) in
    let h = report (at zs 9) in
    let i = report (at zs 10) in
    let b = four (good_if true (Reported f) n) (good_if (uses_second k) (Reported g) n) (good_if (uses_third k) (Reported h) (pos 2))
    (good_if (uses_third k) (Reported i) (pos 2)) e in (
      held_if true f n b.0,
      (held_if (uses_second k) g n b.1, (held_if (uses_third k) h (pos 2) b.2, (held_if (uses_third k) i (pos 2) b.3, tt))),
    )

converted_held : (zs : List ℤ) → Convertible (reported_of zs) → Held (converted (reported_of zs))
converted_held zs h = go (tool_kind_number (at zs 0)) h
  where
    go : (b : Bool) → (b ≡ true → good_tool (reported_of zs) ≡ true) → Held (cond b (tool_at (reported_of zs)).raws no_raws)
    go true h = good_held zs (h refl)
    go false h = (omega arith, (omega arith, (omega arith, (omega arith, tt))))

-- ---- the measurement of a line whose raws are replaced
module _ (q : Raws) (zs : List ℤ) (many : length zs ≡ 21) where
  place : (i : ℕ) → ltb i 21 ≡ true → at (numbers_with q 0 zs) i ≡ cond (raw i) (raw_of q i) (at zs i)
  place i t = let z : 0 + i ≡ i = omega arith in number_with q 0 zs i (omega (arith, ltb-true i 21 t)) ∙ rw z

  tool_with_lem : tool_of (numbers_with q 0 zs) ≡ measured_with (reported_of zs) q
  tool_with_lem = simp place refl

-- ---- a measurement with readings answers as the one with their converted raws
wrong_kind : (t : ToolReadings) (p : Package) → tool_kind_number t.probing.kind ≡ false → refusal p (measure_tool_readings t lent 0) ≡ 2
unfolding refusal tool_arguments_with
wrong_kind t p e = rw e

refused_step : (p : Package) (c : Call) → refusal p c ≡ 2 → step p c ≡ p
unfolding step
refused_step p c e = ap (λ (n : ℕ). cond (eqb n 0) (done p c) p) e

refused_evaluation : (p : Package) (c : Call) → refusal p c ≡ 2 → evaluation p c ≡ no_evaluation
unfolding evaluation
refused_evaluation p c e = ap (λ (n : ℕ). evaluated_by n ((meaning c).evaluation ((meaning c).read p))) e

pub alike : (t : ToolReadings) → Convertible t → Alike (measure_tool_readings t lent 0) (measure_tool (measured_with t (converted t)) lent 0)
alike t h = go (tool_kind_number t.probing.kind) refl h
  where
    go : (b : Bool) → tool_kind_number t.probing.kind ≡ b → (b ≡ true → good_tool t ≡ true)
        → Alike (measure_tool_readings t lent 0) (measure_tool (measured_with t (cond b (tool_at t).raws no_raws)) lent 0)
    go true e h =
        let s = tool_whole t (h refl) lent 0 in
        record { refusal_same = same_refusal s; step_same = same_step s; evaluation_same = same_answer s }
    go false e h =
        let d = measure_tool (measured_with t no_raws) lent 0 in
        record {
          refusal_same = λ p. wrong_kind t p e ∙ sym (wrong_kind _ p e);
          step_same = λ p. refused_step p (measure_tool_readings t lent 0) (wrong_kind t p e) ∙ sym (refused_step p d (wrong_kind _ p e));
          evaluation_same = λ p. refused_evaluation p (measure_tool_readings t lent 0) (wrong_kind t p e) ∙ sym (refused_evaluation p d (wrong_kind _ p e));
        }

-- ---- a line of letter G that says a call
by_numbers : (t : Bool) (r : Numbers) (c : Call) → cond t (said_behind letter_g r) malformed ≡ says c
    → (r ≡ all (listed r)) × (length (listed r) ≡ 21) × (c ≡ measure_tool_readings (reported_of (listed r)) lent 0)
by_numbers false r c e = let x : ◌≡◌ {A = ℕ} 0 1 = cc in absurd (omega arith)
by_numbers true none c e = let x : ◌≡◌ {A = ℕ} 0 1 = cc in absurd (omega arith)
by_numbers true (all zs) c e = go (eqb (length zs) 21) refl e
  where
    go : (t : Bool) → eqb (length zs) 21 ≡ t → cond t (says (measure_tool_readings (reported_of zs) lent 0)) malformed ≡ says c
        → (all zs ≡ all zs) × (length zs ≡ 21) × (c ≡ measure_tool_readings (reported_of zs) lent 0)
    go true l e = (refl, eqb-true (length zs) 21 l, cc)
    go false l e = let x : ◌≡◌ {A = ℕ} 0 1 = cc in absurd (omega arith)

some : (s : List ℕ) → 1 ≤ length (cut comma s)
some s = rw (cut_first comma s) (omega arith)

module _ (s : List ℕ) (c : Call) (g : get_or s 0 0 ≡ letter_g) (said : said_by s ≡ says c) where
  read : (numbers_of (form_of letter_g) 0 (fields_of s) ≡ all (numbers_in s)) × (length (numbers_in s) ≡ 21)
      × (c ≡ measure_tool_readings (readings_in s) lent 0)
  unfolding said_by
  read = by_numbers (leb (length s) 200 && eqb (get_or s 1 0) comma) (numbers_of (form_of letter_g) 0 (fields_of s)) c (rw g at said)

  pub g_says : said_by s ≡ says (measure_tool_readings (readings_in s) lent 0)
  g_says = said ∙ ap says read.2

  -- its T line says the measurement of the converted raws
  pub t_says : Convertible (readings_in s) → length (t_line s) ≤ 200 → said_by (t_line s) ≡ says (t_call s)
  unfolding said_by
  t_says good h =
      let q = converted (readings_in s) in
      let held = converted_held (numbers_in s) good in
      let fs = with_raws q 0 (fields_of s) in
      let apart : cut comma (joined fs) ≡ fs =
      cut_joined fs (rw (with_some q 0 (fields_of s)) (some (drop 2 s))) (with_without q held 0 (fields_of s) (cut_without comma (drop 2 s))) in
      let ws = numbers_with q 0 (numbers_in s) in
      let many : length ws ≡ 21 = numbers_as_many q 0 (numbers_in s) ∙ read.1 in
      ap (λ (b : Bool). cond (b && true) (said_behind letter_t (numbers_of (form_of letter_t) 0 (cut comma (joined fs)))) malformed)
      (le-leb (length (t_line s)) 200 h)
      ∙ ap (λ (l : List (List ℕ)). said_behind letter_t (numbers_of (form_of letter_t) 0 l)) apart
      ∙ ap (said_behind letter_t) (numbers_with_lem q held 0 (fields_of s) (numbers_in s) read.0)
      ∙ ap (λ (b : Bool). cond b (says (measure_tool (tool_of ws) lent 0)) malformed) (eq-eqb (length ws) 21 many)
      ∙ ap (λ (a : ToolMeasurement). says (measure_tool a lent 0)) (tool_with_lem q (numbers_in s) read.1)

  -- "A G line must answer as the T line"
  pub answers_as_t : Convertible (readings_in s) → length (t_line s) ≤ 200 → (said_by (t_line s) ≡ says (t_call s)) × Alike c (t_call s)
  answers_as_t good h = (t_says good h, rw read.2 (alike (readings_in s) good))
