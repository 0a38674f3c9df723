-- An area of another length.
use Rattle.std.proofs.Common.{rules}
use Rattle.measuring.specs.ReplyLaws.{wrong_area}
use Rattle.lent_measuring.proofs.evaluate.Goals as goal

pub returns-in_default : goal.returns-in_default
returns-in_default g c =
    let s = c.args in
    wrong_area (record { measurement = g.M.Measurement.said s.m; area = s.area.now; results = s.results.now; place = s.place }) (search rules)
