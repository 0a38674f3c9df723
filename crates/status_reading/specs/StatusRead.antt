-- A status read of a lent area. 100 is an area of another length.
use Rattle.std.specs.Prelude.{cond, List, ℕ, ℤ}
use Rattle.package.specs.declared.records.Status.{Status}
use Rattle.rules.specs.Status.{status_read}
use Rattle.area.specs.Table.{held}
use Rattle.area.specs.Called.{whole_area}

-- "2, returning zeros"
abbrev pub no_status : ℕ → Status
no_status n = record { refusal = n; bits = 0; count = 0 }

unfoldable pub status_called : List ℤ → ℤ → Status
status_called area probe = cond (whole_area area) (status_read (held area) probe) (no_status 100)
