-- Setting a number of the area at a record's entry is putting the record with the entry set.
use Rattle.std.specs.Prelude.{◌≡◌, suc, pos}
use Rattle.std.proofs.Common.{◌∙◌, sym, arith, to_z-of_z}
use Rattle.signed.specs.RangeLaws.{below_top}
use Rattle.rules.specs.Stores.{probes}
use Rattle.layout.specs.LayoutLaws.{set_number}
use Rattle.area.specs.Table.{section_of}
use Rattle.area.specs.RecordLaws.{section_in}
use Rattle.calibrating.proofs.put_number.Goals as goal

pub returns : goal.returns
returns c =
    let area = c.args.area.now in
    let n : c.args.probe ≡ pos (suc c.index.result) = sym (to_z-of_z c.ranges.probe) ∙ c.index.ensures in
    rw (n, to_z-of_z c.ranges.v)
    (set_number (section_of probes) area (section_in area (omega arith) probes) c.index.result c.args.j c.args.v
    (below_top c.index.result 3 (rw n at c.requires.probe_value)) c.requires.j_lt_width)
