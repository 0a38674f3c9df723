-- Field by field: each test is that of the rule, with the magnitude, limits and wear read back as they are; the deviation is small by what was found.
use Rattle.std.proofs.Common.{ap, ◌∙◌, rules}
use Rattle.std.specs.Int.Signed.{le_z}
use Rattle.signed.specs.Ranges.{size}
use Rattle.signed.specs.CodeLaws.{read}
use Rattle.package.specs.declared.found.Kind.{Kind}
use Rattle.rules.specs.Stores.{wear_range}
use Rattle.rules.specs.Sizes.{pairs_ok}
use Rattle.found_tests.proofs.tool_tests.Goals as goal

pub returns : goal.returns
returns c =
    let a = c.args.a in
    let f = c.args.f.found in
    let far = read c.magnitude-far.result c.magnitude-far.type_inv ∙ c.magnitude-far.ensures ∙ ap size (read f.deviation (search rules)) in
    let pairs = c.widths_ok.ensures ∙ ap (λ (k : Kind). pairs_ok k a.probing f.sizes) c.requires.k_value in
    let tsa = read a.limits.tsa (search rules) in
    let tdif = read a.limits.tdif (search rules) in
    let range = c.in_range.ensures ∙ ap wear_range (read f.wear (search rules)) in
    λ i. record { calibrated = f.calibrated; pairs = pairs i; tsa = le_z (far i) (tsa i); tdif = le_z (far i) (tdif i); range = range i }
