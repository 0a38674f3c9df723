-- Every record of an area's type is read again from its numbers.
use Rattle.std.specs.Prelude.{◌≡◌, refl, List, [], ◌∷◌, ℕ, ◌<◌, ℤ, pos, nat_abs}
use Rattle.std.proofs.Common.{ap, ap₂, ◌∙◌, arith, take_at, take_all, le-leb}
use Rattle.std.proofs.lemmas.List.{get_or_at}
use Rattle.signed.specs.Ranges.{minus}
use Rattle.signed.specs.RangeLaws.{nearest_itself}
use Rattle.lists.specs.Rows.{by_rows}
use Rattle.package.specs.declared.records.Probe.{Probe}
use Rattle.package.specs.declared.records.Offset.{Offset}
use Rattle.rules.specs.Stores.{rows, StoreName, Holds}
use Rattle.rules.specs.InRange.{typed, ProbeKnown, OffsetKnown, EntryKnown}
use Rattle.area.specs.Table.{numbers, status_from, probe_numbers, probe_from, offset_from, record_from}
use Rattle.area.specs.RecordLaws.{firsts_are, triggers_are, probe_long}

-- ---- a probe and a zero offset
status_back : (n : ℕ) → n < 256 → status_from (pos n) ≡ n
status_back n h = ap nat_abs (nearest_itself (pos 0) (pos 255) (pos n) (rw (le-leb 0 n (omega arith), le-leb n 255 (omega arith))))

probe_back : (x : Probe) → ProbeKnown typed x → probe_from (probe_numbers x) ≡ x
probe_back x k =
    let n = k.triggers.long in
    let s = pos x.status ∷ [] in
    ap₂ (λ (ts : List ℤ) (b : ℕ). record { triggers = ts; status = b })
    (triggers_are (probe_numbers x) (omega (arith, probe_long x k)) ∙ take_at x.triggers s 6 n)
    (ap status_from (get_or_at x.triggers (pos x.status) [] (pos 0) 6 n) ∙ status_back x.status k.status)

offset_back : (o : Offset) → OffsetKnown typed o → offset_from o.axes ≡ o
offset_back o k =
    let n = k.axes.long in
    ap (λ (vs : List ℤ). record { axes = vs }) (firsts_are o.axes 0 3 (omega arith) ∙ take_all 3 o.axes (omega arith))

pub back : (s : StoreName) (x : Holds s) → EntryKnown typed s x → record_from s (numbers s x) ≡ x
back =
    by_rows rows (λ s. (x : Holds s) → EntryKnown typed s x → record_from s (numbers s x) ≡ x) (
      probe_back,
      (nearest_itself (minus 32768) (pos 32767), (nearest_itself (minus 32768) (pos 32767), ((λ w k. refl), (offset_back, tt)))),
    )
    (λ n x k. refl)
