-- A status read as C is answered: "2, returning zeros".
use Rattle.std.specs.Prelude.{Result, Ok, Err}
use Rattle.package.specs.declared.records.Directions.{Directions}
use Rattle.package.specs.declared.records.Status.{Status}
use Rattle.package.specs.declared.refusals.Refusal.{Refusal}
use Rattle.package.specs.Refusals.{number}

abbrev pub status_by : Result Directions Refusal → Status
status_by (Ok d) = record { refusal = 0; bits = d.bits; count = d.count }
status_by (Err r) = record { refusal = number r; bits = 0; count = 0 }
