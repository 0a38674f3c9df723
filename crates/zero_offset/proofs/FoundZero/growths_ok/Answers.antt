-- The axes tested are those that are corrected: both of a double form, else the one.
use Rattle.std.proofs.Common.{sym, ap, ap₂, ◌∙◌, ◌&&◌, rules}
use Rattle.signed.specs.CodeLaws.{read}
use Rattle.zero_offset.proofs.Laws.{keeps, of_one, of_both, tsa_size, tsa_is}
use Rattle.zero_offset.proofs.FoundZero.growths_ok.Goals as goal

pub growth_ok-requires : goal.growth_ok-requires
growth_ok-requires c = tsa_size c.args.self

pub growth_ok-requires-in-Double : goal.growth_ok-requires-in-Double
growth_ok-requires-in-Double c = tsa_size c.args.self

pub growth_ok-requires-in_default : goal.growth_ok-requires-in_default
growth_ok-requires-in_default c = tsa_size c.args.self

pub returns-in-Double : goal.returns-in-Double
returns-in-Double c =
    let f = c.args.self in
    let p = f.passed in
    ap₂ ◌&&◌ c.growth_ok.ensures c.growth_ok-in-Double.ensures ∙ sym (of_both p.probed.kind p.given.probing (keeps f) c.in-Double.is) ∙ tsa_is f

pub returns-in_default : goal.returns-in_default
returns-in_default c =
    let f = c.args.self in
    let p = f.passed in
    c.growth_ok-in_default.ensures ∙ ap (keeps f) (read p.given.probing.axis (search rules)) ∙ sym (of_one p.probed.kind p.given.probing (keeps f) c.in_default.not-Double) ∙ tsa_is f
