-- By cases, a law each: no letter, no comma behind it, a wrong field, over 200 bytes, and a count of fields that fits the letter or does not.
use Rattle.std.proofs.Common.{◌≡◌, ◌∙◌, ap, sym, ℕ, None, Option, Some, ◌+◌, ◌<◌, ◌≤◌, List, ℤ, length, drop, get_or, arith, length-drop, nat_eq, nat_le, eq-eqb, ne_eqb}
use Rattle.std.proofs.Math.Decide.{ℕ_discrete}
use Rattle.std.proofs.lemmas.Bool.{lt-leb}
use Rattle.std.specs.Bool.{then_some}
use Rattle.text.specs.Pieces.{cut, comma, line_feed, line, HasLine}
use Rattle.text.specs.PieceLaws.{up_drop}
use Rattle.job_text.specs.declared.Fields.{Fields}
use Rattle.job_text.specs.declared.Letter.{Letter}
use Rattle.job_text.specs.Letters.{most_fields, field_count, form_of}
use Rattle.job_text.specs.Bytes.{byte_of, letter_byte}
use Rattle.job_text.specs.Lines.{Numbers, numbers_of, malformed, said_behind, said_by}
use Rattle.job_text.specs.Fields.{field_numbers, numbers_in, Ends, said_in}
use Rattle.job_text.specs.LineLaws.{no_feed, other_letter, other_byte, too_long, one_byte, two_bytes, fields_say, unfitting, wrong_line, says_nothing}
use Rattle.job_text.proofs.LineLaws.{fitting}
use Rattle.job_text.proofs.read_known.Goals as goal
use Rattle.job_text.proofs.read_known.Goals.{then-length-le-LINE_LIMIT, else-length-le-LINE_LIMIT}

-- a text that begins with a letter
module _ (s : List ℕ) (on : HasLine s) (l : Letter) (named : byte_of l ≡ get_or s 0 0) where
  letter_first : 1 ≤ length (line s)
  letter_first = one_byte s on (λ e. no_feed l (named ∙ e))

  -- and a comma behind it, and what was read of the fields there
  module _ (parted : get_or s 1 0 ≡ comma) where
    two : 2 ≤ length (line s)
    two = two_bytes s on (λ e. no_feed l (named ∙ e)) parted

    abbrev numbers : Numbers
    numbers = numbers_of (form_of (byte_of l)) 0 (cut comma (line (drop 2 s)))

    abbrev Told : Option Fields → List ℤ → Type 0
    Told f vs = (numbers_in f vs ≡ field_numbers (byte_of l) (line (drop 2 s))) × Ends f (length (line (drop 2 s)))

    wrong : (vs : List ℤ) → Told None vs → said_by (line s) ≡ malformed
    wrong vs t = wrong_line s two parted (rw named at t.0)

    module _ (vs : List ℤ) (room : length vs ≡ most_fields) (f : Fields) (t : Told (Some f) vs) where
      length_is : f.size + 2 ≡ length (line s)
      length_is = omega (arith, t.1, two, ap length (up_drop line_feed s 2 two), length-drop 2 (line s))

      -- no letter
      nothing : said_by (line s) ≡ malformed → said_in 0 vs ≡ said_by (line s)
      nothing e = says_nothing vs ∙ sym e

      long : 200 < f.size + 2 → said_in (letter_byte (then_some (nat_le (f.size + 2) 200) l)) vs ≡ said_by (line s)
      long h = rw (lt-leb (f.size + 2) 200 h) (nothing (too_long (line s) (omega (arith, length_is))))

      module _ (h : f.size + 2 ≤ 200) where
        says_by : said_by (line s) ≡ said_behind (byte_of l) numbers
        says_by = rw named (fields_say s two (omega (arith, length_is)) parted)

        misfit : (f.count ≡ field_count (byte_of l) → ⊥) → said_in 0 vs ≡ said_by (line s)
        misfit n = nothing (says_by ∙ unfitting (byte_of l) numbers f.count vs t.1.0 (omega arith) t.0 n)

        fits : f.count ≡ field_count (byte_of l) → said_in (byte_of l) vs ≡ said_by (line s)
        fits n = fitting (byte_of l) numbers f.count vs t.1.0 (omega arith) t.0 n ∙ sym says_by

        counted : said_in (letter_byte (then_some (nat_eq f.count (field_count (byte_of l))) l)) vs ≡ said_by (line s)
        counted = go (ℕ_discrete f.count (field_count (byte_of l)))
          where
            go : Dec (f.count ≡ field_count (byte_of l))
                → said_in (letter_byte (then_some (nat_eq f.count (field_count (byte_of l))) l)) vs ≡ said_by (line s)
            go (yes n) = rw (eq-eqb f.count (field_count (byte_of l)) n) (fits n)
            go (no n) = rw (ne_eqb f.count (field_count (byte_of l)) n) (misfit n)

pub bounds-rest-1 : goal.bounds-rest-1
bounds-rest-1 c = omega (arith, letter_first c.args.rest.bytes.now c.args.rest.ended c.in-Ok.letter c.in-Ok.ensures)

pub returns-in_default : goal.returns-in_default
returns-in_default c = other_letter c.args.rest.bytes.now c.args.rest.ended c.in_default.ensures.1

pub returns-then-rest-ne-COMMA : goal.returns-then-rest-ne-COMMA
returns-then-rest-ne-COMMA c = other_byte c.args.rest.bytes.now c.if-rest-ne-COMMA.true

pub from_place-requires : goal.from_place-requires
from_place-requires c = two c.args.rest.bytes.now c.args.rest.ended c.in-Ok.letter c.in-Ok.ensures c.if-rest-ne-COMMA.false

pub returns-in_err-fields : goal.returns-in_err-fields
returns-in_err-fields c =
    rw c.from_residual.ensures
    (wrong c.args.rest.bytes.now c.args.rest.ended c.in-Ok.letter c.in-Ok.ensures c.if-rest-ne-COMMA.false c.read_fields.new.values
    (rw c.from_place.ensures at c.in_err-fields.ensures))

pub returns : goal.returns
returns c =
    let s = c.args.rest.bytes.now in
    let t = rw c.from_place.ensures at c.in_ok-fields.ensures in (
      rw c.then_some.ensures (elim c.if-length-le-LINE_LIMIT.branch [
        | then-length-le-LINE_LIMIT w ↦ rw (w.fits-is, w.field_count.ensures)
            (counted s c.args.rest.ended c.in-Ok.letter c.in-Ok.ensures c.if-rest-ne-COMMA.false c.read_fields.new.values c.read_fields.array_long
            c.in_ok-fields.fields t w.if-length-le-LINE_LIMIT.true)
        | else-length-le-LINE_LIMIT w ↦ rw w.fits-is
            (long s c.args.rest.ended c.in-Ok.letter c.in-Ok.ensures c.if-rest-ne-COMMA.false c.read_fields.new.values c.read_fields.array_long
            c.in_ok-fields.fields t w.if-length-le-LINE_LIMIT.false)
      ]),
      length_is s c.args.rest.ended c.in-Ok.letter c.in-Ok.ensures c.if-rest-ne-COMMA.false c.read_fields.new.values c.read_fields.array_long c.in_ok-fields.fields t,
    )
