use Rattle.std.proofs.Common.{◌≡◌, ℕ, ◌≤◌, List, length, take, drop}
use Rattle.text.specs.Pieces.{cut, comma, line}
use Rattle.job_text.specs.Bytes.{byte_of}
use Rattle.job_text.specs.Letters.{most_fields, form_of}
use Rattle.job_text.specs.Lines.{Numbers, numbers_of}
use Rattle.job_text.proofs.FieldLaws.{front}
use Rattle.job_text.proofs.read_fields.Given as goal

-- the numbers of the fields of a line from field n on, which stands at a place
abbrev numbers : ℕ → List ℕ → ℕ → ℕ → Numbers
numbers letter s n at = numbers_of (form_of letter) n (cut comma (drop at (line s)))

abbrev pub invariant-loop-n : goal.invariant-loop-n
invariant-loop-n l =
    let s = l.rest.bytes.now in
    let byte = byte_of l.letter in
    record {
      within : l.at ≤ length (line s);
      room : length l.values ≡ most_fields;
      numbers : numbers byte s 0 0 ≡ front (take l.n l.values) (numbers byte s l.n l.at);
    }
