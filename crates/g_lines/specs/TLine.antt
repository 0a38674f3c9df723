-- Request 2026-01: "the T line with the converted raws, 0 for an unused one".
use Rattle.std.specs.Prelude.{◌≡◌, true, cond, List, [], ◌∷◌, ℕ, ◌+◌, ◌-◌, ℤ, pos, get_or, drop}
use Rattle.text.specs.Pieces.{comma, cut}
use Rattle.decimals.specs.Decimals.{signed_decimal}
use Rattle.package.specs.Given.{Raws, ToolMeasurement, ToolReadings}
use Rattle.rules.specs.Stores.{Package}
use Rattle.rules.specs.Kinds.{tool_kind_number}
use Rattle.rules.specs.Measuring.{lent}
use Rattle.rules.specs.Tool.{tool_at, good_tool}
use Rattle.rules.specs.Calls.{Call, measure_tool, refusal, step, evaluation}
use Rattle.arguments.specs.Arguments.{reported_of}
use Rattle.job_text.specs.Letters.{letter_g, raw, form_of}
use Rattle.job_text.specs.Lines.{Numbers, none, all, numbers_of}
use Rattle.g_lines.specs.Joined.{joined}

-- the byte of T
abbrev pub letter_t : ℕ
letter_t = 84

-- ---- a line of letter G: its fields, their numbers, and the readings that these give
abbrev pub fields_of : List ℕ → List (List ℕ)
fields_of s = cut comma (drop 2 s)

abbrev pub listed : Numbers → List ℤ
listed none = []
listed (all zs) = zs

abbrev pub numbers_in : List ℕ → List ℤ
numbers_in s = listed (numbers_of (form_of letter_g) 0 (fields_of s))

abbrev pub readings_in : List ℕ → ToolReadings
readings_in s = reported_of (numbers_in s)

-- ---- the same with raws q in the place of its own
-- the raw of field n: the first is field 7
abbrev pub raw_index : ℕ → ℕ
raw_index n = n - 7

abbrev pub raw_of : Raws → ℕ → ℤ
raw_of q n = get_or (q.r1 ∷ q.r2 ∷ q.r3 ∷ q.r4 ∷ []) (raw_index n) (pos 0)

unfoldable pub with_raws : Raws → ℕ → List (List ℕ) → List (List ℕ)
with_raws q n [] = []
with_raws q n (f ∷ fs) = cond (raw n) (signed_decimal (raw_of q n)) f ∷ with_raws q (n + 1) fs

-- "the converted raws, 0 for an unused one": a kind that is not of this call uses none
abbrev pub no_raws : Raws
no_raws = record { r1 = pos 0; r2 = pos 0; r3 = pos 0; r4 = pos 0 }

abbrev pub converted : ToolReadings → Raws
converted t = cond (tool_kind_number t.probing.kind) (tool_at t).raws no_raws

-- its T line: the same fields, each raw in decimal digits
abbrev pub t_line : List ℕ → List ℕ
t_line s = letter_t ∷ comma ∷ joined (with_raws (converted (readings_in s)) 0 (fields_of s))

-- the measurement of these readings with raws q
abbrev pub measured_with : ToolReadings → Raws → ToolMeasurement
measured_with t q = record { probing = t.probing; raws = q; tool = t.tool; ev = t.ev; mv = t.mv; k = t.k; limits = t.limits }

-- the call of the T line
abbrev pub t_call : List ℕ → Call
t_call s = measure_tool (measured_with (readings_in s) (converted (readings_in s))) lent 0

-- ---- where it has such a line: every used float is good
abbrev pub Convertible : ToolReadings → Type 0
Convertible t = tool_kind_number t.probing.kind ≡ true → good_tool t ≡ true

-- two calls that answer alike and leave the same records, from every package
pub record Alike (c d : Call) : Type 0 where
  pub refusal_same : (p : Package) → refusal p c ≡ refusal p d
  pub step_same : (p : Package) → step p c ≡ step p d
  pub evaluation_same : (p : Package) → evaluation p c ≡ evaluation p d
