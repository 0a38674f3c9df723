-- The probe's number is in range by the precondition.
use borrow.Author.Rules.{rules}
use Rattle.signed.specs.CodeLaws.{read}
use Rattle.rules.specs.Zero.{zero_kind_of}
use Rattle.kinds.specs.KindLaws.{probe_number_lem}
use Rattle.reading.proofs.zero_records.Goals as goal

pub probe_at-requires : goal.probe_at-requires
probe_at-requires c =
    record { n_value = rw (read c.args.a.probing.probe (search rules)) (probe_number_lem (zero_kind_of c.args.a) c.args.a.probing c.requires.zero_numbers.numbers) }
