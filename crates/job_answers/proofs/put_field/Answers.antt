-- The two writings, one after the other, are that of the field.
use Rattle.std.proofs.Common.{[], ◌∷◌}
use Rattle.decimals.specs.BufferLaws.{chain}
use Rattle.job_answers.proofs.put_field.Goals as goal

pub returns : goal.returns
returns g c = chain _ _ _ _ _ _ (g.N.Decimal.text c.args.n) (c.args.byte ∷ []) c.requires c.put-k.ensures c.put_byte.ensures
