-- Field by field: branch and verdict by their numbers, and the deviation and correction are small, so that i32 holds them as they are.
use Rattle.std.proofs.Common.{◌∙◌, rules}
use Rattle.signed.specs.CodeLaws.{read}
use Rattle.evaluation.proofs.Laws.{narrowed}
use Rattle.evaluation.proofs.FoundTool.evaluated.Goals as goal

pub returns : goal.returns
returns c =
    let f = c.args.self.found in
    let branch_is = c.into.ensures in
    let verdict_is = c.into-2.ensures ∙ (rw (read f.deviation (search rules)) at c.verdict_of.ensures) in
    let deviation_is = (narrowed f.deviation c.args.self.small.deviation).value in
    let correction_is = (narrowed f.decision.correction c.args.self.small.decision.correction).value in
    λ i. record { branch = branch_is i; verdict = verdict_is i; deviation = deviation_is i; correction = correction_is i }
