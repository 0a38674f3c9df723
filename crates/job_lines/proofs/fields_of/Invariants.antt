use Rattle.std.proofs.Common.{◌≡◌, ◌<◌, ℕ, length}
use Rattle.arguments.specs.Arguments.{at}
use Rattle.job_text.specs.Letters.{most_fields}
use Rattle.job_lines.proofs.fields_of.Given as goal

abbrev pub invariant-loop-n : goal.invariant-loop-n
invariant-loop-n l =
    record {
      room : length l.fields ≡ most_fields;
      front : (n : ℕ) → n < l.n → at l.fields n ≡ at l.numbers n;
    }
