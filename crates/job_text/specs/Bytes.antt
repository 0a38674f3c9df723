-- The letters of lines, by their bytes.
use Rattle.std.specs.Prelude.{◌≡◌, ◌≢◌, ℕ, Option, Some, None, Result, Ok, Err}
use Rattle.package.specs.declared.refusals.Refusal.{Refusal}
use Rattle.package.specs.declared.refusals.Refusal.TheVariants.{MalformedLine}
use Rattle.job_text.specs.declared.Letter.{Letter}
use Rattle.job_text.specs.declared.Letter.TheVariants.{E, W, O, C, T, Z, G}

abbrev pub byte_of : Letter → ℕ
byte_of E = 69
byte_of W = 87
byte_of O = 79
byte_of C = 67
byte_of T = 84
byte_of Z = 90
byte_of G = 71

-- 0 of a malformed line
abbrev pub letter_byte : Option Letter → ℕ
letter_byte (Some l) = byte_of l
letter_byte None = 0

abbrev pub LetterNamed : ℕ → Result Letter Refusal → Type 0
LetterNamed b (Ok l) = byte_of l ≡ b
LetterNamed b (Err r) = (r ≡ MalformedLine) × ((l : Letter) → byte_of l ≢ b)
