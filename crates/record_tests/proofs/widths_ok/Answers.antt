-- By the form, each width is tested against 1.
use Rattle.std.proofs.Common.{sym, ap, ap₂, ◌∙◌, ◌&&◌, rules}
use Rattle.signed.specs.CodeLaws.{read}
use Rattle.rules.specs.Sizes.{pair_in}
use Rattle.record_tests.proofs.Widths.{over, of_single, of_double}
use Rattle.record_tests.proofs.widths_ok.Goals as goal

pub returns-in-Single : goal.returns-in-Single
returns-in-Single c =
    let pair = c.pair_on.ensures ∙ ap (pair_in c.args.s) (read c.args.a.axis (search rules)) in
    let width = read c.pair_on.result.width (search rules) in
    ap over (width ∙ ap (λ p. p.width) pair) ∙ sym (of_single c.args.k c.args.a c.args.s c.in-Single.is)

pub returns-in-Double : goal.returns-in-Double
returns-in-Double c =
    ap₂ ◌&&◌ (ap over (read c.args.s.abscissa.width (search rules))) (ap over (read c.args.s.ordinate.width (search rules)))
    ∙ sym (of_double c.args.k c.args.a c.args.s c.in-Double.is)
