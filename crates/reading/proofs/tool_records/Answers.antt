-- Each record's number is in range by the numbers' rules, so that each call reads the record that the area holds under it.
use Rattle.std.proofs.Common.{arith}
use mathlib.Core.Path.{◌∙◌}
use mir.Syntax.{w16}
use mir.Facts.{to_z-of_z}
use borrow.Author.Rules.{rules}
use Rattle.signed.specs.CodeLaws.{read, read_as}
use Rattle.rules.specs.Stores.{empiricals, means}
use Rattle.rules.specs.Tool.{tool_kind_of}
use Rattle.kinds.specs.KindLaws.{probe_number_lem}
use Rattle.reading.proofs.Laws.{Known, held_at}
use Rattle.reading.proofs.tool_records.Goals as goal

pub probe_at-requires : goal.probe_at-requires
probe_at-requires c =
    record { n_value = rw (read c.args.a.probing.probe (search rules)) (probe_number_lem (tool_kind_of c.args.a) c.args.a.probing c.requires.tool_numbers.numbers) }

pub returns : goal.returns
returns c =
    let a = c.args.a in
    let area = c.args.area.now in
    let ev : Known area empiricals a.ev =
    record { whole = omega (arith, c.told-area); named_in = c.requires.tool_numbers.ev; fits = record { sfits = search rules } } in
    let mv : Known area means a.mv =
    record { whole = omega (arith, c.told-area); named_in = c.requires.tool_numbers.mv; fits = record { sfits = search rules } } in
    rw (
      rw (read a.probing.probe (search rules)) at c.probe_at.ensures,
      read_as w16 c.value_at.result c.value_at.type_inv ∙ (rw (to_z-of_z ev.fits) at c.value_at.ensures) ∙ held_at ev,
      read_as w16 c.value_at-2.result c.value_at-2.type_inv ∙ (rw (to_z-of_z mv.fits) at c.value_at-2.ensures) ∙ held_at mv,
      rw (read a.tool (search rules)) at c.wear_at.ensures,
    )
