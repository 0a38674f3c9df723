-- A status read, case by case.
use Rattle.std.specs.Prelude.{◌≡◌, true, false, List, ℤ, pos, length, get_or}
use Rattle.std.proofs.Common.{arith, ne_eqb, eq-eqb}
use Rattle.signed.specs.RangeLaws.{or_zero}
use Rattle.rules.specs.Stores.{probe_number, probes}
use Rattle.rules.specs.Status.{status_answer, status_read}
use Rattle.layout.specs.Layout.{record_of}
use Rattle.area.specs.Table.{area_length, section_of, status_from}
use Rattle.area.specs.RecordLaws.{at_held}
use Rattle.status_reading.specs.StatusRead.{no_status, status_called}

module _ (area : List ℤ) where
  pub status_wrong : (length area ≡ area_length → ⊥) → (probe : ℤ) → no_status 100 ≡ status_called area probe
  unfolding status_called
  status_wrong h probe = rw (ne_eqb (length area) area_length h)

  module _ (whole : length area ≡ area_length) where
    pub status_refused : (probe : ℤ) → probe_number probe ≡ false → no_status 2 ≡ status_called area probe
    unfolding status_called status_read
    status_refused probe h = rw (eq-eqb (length area) area_length whole, h)

    pub status_done : (probe : ℤ) → probe_number probe ≡ true
        → status_answer (status_from (get_or (record_of (section_of probes) area probe) 6 (pos 0))) ≡ status_called area probe
    unfolding status_called status_read
    status_done probe h = rw (eq-eqb (length area) area_length whole, h, at_held area (omega arith) probes probe (or_zero 3 probe h))
