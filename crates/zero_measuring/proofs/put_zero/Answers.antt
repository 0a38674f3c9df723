-- The offset's number passed its test, so that it names a record, and it is read as the number it is.
use mathlib.Core.Path.{◌≡◌, ap, ◌∙◌}
use lib.IntN.{pos}
use mir.Syntax.{w64}
use mir.Val.{to_z, of_z}
use borrow.Author.Rules.{rules}
use Rattle.signed.specs.Ranges.{within}
use Rattle.signed.specs.RangeLaws.{or_zero}
use Rattle.zero_measuring.proofs.put_zero.Goals as goal

pub put_record-requires-clause-n_value : goal.put_record-requires-clause-n_value
put_record-requires-clause-n_value c =
    let z = c.args.a.offset in
    let read : to_z w64 (of_z w64 z) ≡ z = search rules in
    ap (within (pos 0) (pos 4)) read ∙ or_zero 4 z c.requires.offset
